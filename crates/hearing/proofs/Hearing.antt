-- Who is present, as sets that each heard host narrows; and hosts past the last row change nothing.
use mathlib.Core.Path.{◌≡◌, refl, sym, ap, subst, ◌∙◌}
use mathlib.Core.Bool.{Bool, true, false, not, ◌&&◌, ◌||◌, cond, and-true, and-false, or-true, or-false}
use mathlib.Core.List.{List}
use Prim.Native.Nat.{ℕ, zero, suc, min, ◌+◌, ◌-◌, ◌^◌, ◌<◌}
use native.Mathlib.Nat.{lt_of_le_of_lt}
use native.Mathlib.Decide.{ℕ_discrete}
use native.Mathlib.Omega.{arith}
use borrow.Author.Tests.{leb-true, leb-false, le-ltb}
use lib.Bits.{bit_and}
use lib.Dec.{eqb, ltb, leb, eqb-suc-zero}
use lib.ListN.{length, get_or}
use lib.Seq.{set_out}
use Rattle.laws.specs.Steps.{steps}
use Rattle.laws.specs.Sets.{has, asks, tally, tabled}
use Rattle.laws.proofs.Loops.{same_steps, stays}
use Rattle.laws.proofs.Rows.{length_tabled}
use Rattle.laws.proofs.Words.{has_and, digit_past}
use Rattle.laws.proofs.Members.{has_or}
use Rattle.laws.proofs.Tests.{refuted}
use Rattle.ports.specs.Owners.{operator, among}
use Rattle.ports.proofs.Owners.{among_le, among-has, has-among, has_others}
use Rattle.hearing.specs.Heard.{clears, present, counted, tables}
use Rattle.hearing.specs.Votes.{heeded, cast, Present}
use Rattle.hearing.specs.declared.Votes.{Votes}

-- fewer than two have cleared it, also if none has
kept : (h : Bool) (c : ℕ) → ((h && ltb c 2) || (h && eqb c 0)) ≡ (h && ltb c 2)
kept true zero = refl
kept true (suc zero) = refl
kept true (suc (suc c)) = rw (eqb-suc-zero (suc c), or-false)
kept false c = refl

-- none has, so one more makes one
one : (h : Bool) (c : ℕ) → (h && eqb c 0) ≡ (h && ltb (suc c) 2)
one true zero = refl
one true (suc c) = rw (eqb-suc-zero c, le-ltb (suc (suc c)) 2 (omega arith))
one false c = refl

module _ (owners heard : ℕ) (ben : List ℕ) where
  -- the first n hosts have voted
  abbrev pub voted : ℕ → Votes
  voted = steps (λ h v. cond (has heard h) (cast (heeded owners heard (get_or ben h 0) h) v) v) (record { uncleared = heard; enabled = heard })

  -- i is in the sets as c hosts have cleared it: none, and fewer than two
  record Voted (v : Votes) (i c : ℕ) : Type 0 where
    none : has v.uncleared i ≡ (has heard i && eqb c 0)
    few : has v.enabled i ≡ (has heard i && ltb c 2)

  -- one vote more, that sets the bit of i or clears it
  one_more : (v : Votes) (i c ballot : ℕ) (b d : Bool) → has ballot i ≡ d → Voted v i c
      → Voted (cond b (cast ballot v) v) i (cond (b && not d) (suc c) c)
  one_more v i c ballot true true q e = record {
    none = has_and v.uncleared ballot i ∙ rw (q, and-true) e.none;
    few = has_or (bit_and v.enabled ballot) v.uncleared i ∙ rw (has_and, q, and-true, e.none, e.few) (kept (has heard i) c);
  }
  one_more v i c ballot true false q e = record {
    none = has_and v.uncleared ballot i ∙ rw (q, and-false, eqb-suc-zero, and-false);
    few = has_or (bit_and v.enabled ballot) v.uncleared i ∙ rw (has_and, q, and-false, e.none) (one (has heard i) c);
  }
  one_more v i c ballot false d q e = e

  -- of a heard host, a bit counts as cleared just where a host of its own operator clears it
  heeds : (i h : ℕ) → has heard i ≡ true → (has heard h && not (has (heeded owners heard (get_or ben h 0) h) i)) ≡ clears (among owners i heard) ben i h
  unfolding heeded
  heeds i h e = rw (has_or, has_others, e) (go (ℕ_discrete (operator owners h) (operator owners i)))
    where
      alike : (b d : Bool) → (b && not (d || false)) ≡ (b && not d)
      alike b true = refl
      alike b false = refl

      go : Dec (operator owners h ≡ operator owners i)
          → (has heard h && not (asks ben h i || not (has (among owners h heard) i))) ≡ (has (among owners i heard) h && not (asks ben h i))
      go (yes q) = rw (has-among owners h heard i q, e, has-among owners i heard h (sym q)) (alike (has heard h) (asks ben h i))
      go (no q) = rw (refuted _ (λ x. q (among-has owners h heard i x).1), refuted _ (λ x. q (sym (among-has owners i heard h x).1)), or-true, and-false)

  votes : (n i : ℕ) → Voted (voted n) i (tally (clears (among owners i heard) ben i) n)
  unfolding steps
  votes zero i = record { none = sym (and-true (has heard i)); few = sym (and-true (has heard i)) }
  votes (suc n) i = counted-once (has heard i) refl (one_more (voted n) i c ballot (has heard n) (has ballot i) refl (votes n i))
    where
      c : ℕ
      c = tally (clears (among owners i heard) ben i) n

      ballot : ℕ
      ballot = heeded owners heard (get_or ben n 0) n

      -- how often an unheard host's bit is cleared is no matter
      counted-once : {v : Votes} (b : Bool) → has heard i ≡ b → Voted v i (cond (has heard n && not (has ballot i)) (suc c) c)
          → Voted v i (cond (clears (among owners i heard) ben i n) (suc c) c)
      counted-once {v} true e w = subst (λ (x : Bool). Voted v i (cond x (suc c) c)) (heeds i n e) w
      counted-once false e w = record { none = w.none ∙ rw e; few = w.few ∙ rw e }

  pub who : (n i : ℕ) → has (voted n).enabled i ≡ present n (among owners i heard) ben i
  unfolding present
  who n i = (votes n i).few ∙ rw (has-among owners i heard i refl)

-- more hosts than rows, m, are none
unheard : (m d heard : ℕ) (ben : List ℕ) → heard < 2 ^ m → (i : ℕ) → present (m + d) heard ben i ≡ present m heard ben i
unfolding present
unheard m d heard ben h i = ap (λ c. has heard i && ltb c 2) (stays _ 0 m d (λ k l. rw (digit_past heard m k h l)))

module _ (owners heard : ℕ) (ben rows : List ℕ) where
  -- the row of host i that counts, of n hosts
  abbrev counted_row : ℕ → ℕ → ℕ
  counted_row n i = cond (present n (among owners i heard) ben i) (among owners i (get_or rows i 0)) 0

  past_rows : (m d : ℕ) → heard < 2 ^ m → length rows ≡ m → counted (m + d) owners heard ben rows ≡ counted m owners heard ben rows
  unfolding counted
  past_rows m d h e =
      same_steps _ _ _ (m + d) (λ k u l. rw (unheard m d (among owners k heard) ben (lt_of_le_of_lt (among_le owners k heard) h) k))
      ∙ stays _ _ m d (λ k l. set_out _ k _ (omega (arith, e, length_tabled (length rows) (counted_row m) m)))

  -- the rows of those present among the first n, where n is the ports and at most m, are the rows that count
  pub rows_counted : (m ports n s : ℕ) {r : List ℕ} → heard < 2 ^ m → length rows ≡ m → n ≡ min ports m → Present n owners heard ben s
      → r ≡ tabled m (λ i. cond (has s i) (among owners i (get_or rows i 0)) 0) n → r ≡ counted ports owners heard ben rows
  unfolding counted
  rows_counted m ports n s h l q w e = e ∙ same_steps _ _ _ n (λ k u b. rw (w k)) ∙ go (leb ports m) refl
    where
      go : (b : Bool) → leb ports m ≡ b → tabled m (counted_row n) n ≡ counted ports owners heard ben rows
      go true t = let p : n ≡ ports = omega (arith, leb-true ports m t) in rw (p, l)
      go false t =
          let p : n ≡ m = omega (arith, leb-false ports m t) in
          let g : m + (ports - m) ≡ ports = omega (arith, leb-false ports m t) in
          rw p (ap (λ z. tabled z (counted_row m) m) (sym l) ∙ (rw g at (sym (past_rows m (ports - m) h l))))

pub both_counted : (ports owners heard : ℕ) (ben req pre : List ℕ) {a b : List ℕ} → a ≡ counted ports owners heard ben req → b ≡ counted ports owners heard ben pre
    → record { req = a; pre = b } ≡ tables ports owners heard ben req pre
unfolding tables
both_counted ports owners heard ben req pre p q = rw (p, q)
