-- Two histories in which an operator's hosts send the same are the same to it: slot calls on frames, the card's lent calls, and C calls.
use mathlib.Core.Path.{◌≡◌, refl, sym, ap, subst, ◌∙◌}
use mathlib.Core.List.{List, [], ◌∷◌}
use Prim.Native.Nat.{ℕ, ◌≤◌}
use lib.ListN.{get_or}
use Rattle.frames.specs.Part.{most_ports}
use Rattle.ports.specs.declared.state.State.{State}
use Rattle.ports.specs.Answer.{Answer}
use Rattle.demands.specs.History.{InEach, ByValue}
use Rattle.demands.specs.SlotCall as slots
use Rattle.demands.specs.LentCall as lent
use Rattle.demands.proofs.Turns.{by_value}
use Rattle.promised.specs.Call as c
use Rattle.operators.specs.Unaffected.{Sent, Seen}
use Rattle.operators.specs.Histories.{InBoth, Same, Given, LentSent, LentSeen, CSent, CSeen}
use Rattle.operators.proofs.Frames.{non_interference, same_output}
use Rattle.operators.proofs.CCalls.{c_seen}

-- what one call of each is worth on one state, all of them are worth
module _ {S C : Type 0} (next : S → C → S) (Kept : S → C → Type 0) (Sends Sees : S → C → C → Type 0)
    (one : (s : S) (c d : C) → Kept s c → Kept s d → Sends s c d → (next s c ≡ next s d) × Sees s c d) where
  all_seen : (cs ds : List C) (s : S) → InEach next Kept s cs → InEach next Kept s ds → InBoth next (Given Sends) s s cs ds → InBoth next (Same Sees) s s cs ds
  unfolding InEach InBoth
  all_seen [] [] s k l sent = tt
  all_seen [] (d ∷ ds) s k l sent = sent
  all_seen (c ∷ cs) [] s k l sent = sent
  all_seen (c ∷ cs) (d ∷ ds) s (k, ks) (l, ls) (sent, rest) =
      let (e, seen) = one s c d k l sent in
      let both = all_seen cs ds (next s c) ks (subst (λ (u : S). InEach next Kept u ds) (sym e) ls) (subst (λ (u : S). InBoth next (Given Sends) (next s c) u cs ds) (sym e) rest) in
      ((refl, seen), subst (λ (u : S). InBoth next (Same Sees) (next s c) u cs ds) e both)

module _ (a m : ℕ) (most : m ≤ most_ports) where
  -- Slot calls on frames.
  pub histories : (st : State) (cs ds : List slots.SlotCall) → InBoth (slots.next m) (Given (Sent a)) st st cs ds → InBoth (slots.next m) (Same (Seen a m)) st st cs ds
  histories st cs ds = all_seen (slots.next m) ByValue (Sent a) (Seen a m)
      (λ s c d k l (same, before). let r = non_interference a m s c d same in (r.state, (r, same_output a m s c d same most before)))
      cs ds st (by_value (slots.next m) cs st) (by_value (slots.next m) ds st)

  -- The card's calls: their answers, and what stood behind both references after them.
  lent_seen : (st : State) (d e : lent.LentCall) → lent.Kept m st d → lent.Kept m st e → LentSent a st d e → (lent.next st d ≡ lent.next st e) × LentSeen a st d e
  lent_seen st d e k l (same, before) =
      let r = non_interference a m st d.call e.call same in
      let moved = k.moved ∙ r.state ∙ sym l.moved in (
        moved,
        record {
          number = ap (λ (x : Answer). x.number) k.answered ∙ r.number ∙ sym (ap (λ (x : Answer). x.number) l.answered);
          state = moved;
          sets = λ i o. ap (λ (x : Answer). get_or x.sets i 0) k.answered ∙ r.sets i o ∙ sym (ap (λ (x : Answer). get_or x.sets i 0) l.answered);
          output = rw (k.granted, l.granted) (same_output a m st d.call e.call same most before);
        },
      )

  pub lent_histories : (st : State) (cs ds : List lent.LentCall) → InEach lent.next (lent.Kept m) st cs → InEach lent.next (lent.Kept m) st ds
      → InBoth lent.next (Given (LentSent a)) st st cs ds → InBoth lent.next (Same (LentSeen a)) st st cs ds
  lent_histories st cs ds = all_seen lent.next (lent.Kept m) (LentSent a) (LentSeen a) lent_seen cs ds st

  -- C calls: the number in the word, the bytes of the state, and the operator's bytes of the output and of the table.
  pub c_histories : (state : List ℕ) (cs ds : List c.CCall) → InEach c.next (c.Kept m) state cs → InEach c.next (c.Kept m) state ds
      → InBoth c.next (Given (CSent a)) state state cs ds → InBoth c.next (Same (CSeen a)) state state cs ds
  c_histories state cs ds = all_seen c.next (c.Kept m) (CSent a) (CSeen a)
      (λ s d e k l same. let r = c_seen a m most s d e k l same in (r.state, r)) cs ds state
