-- What holds throughout a history, over any kind of call that moves as rule 7 says.
use mathlib.Core.Path.{◌≡◌, refl, ap, ◌∙◌}
use mathlib.Core.Bool.{Bool, true, false, cond}
use mathlib.Core.List.{List, [], ◌∷◌}
use Prim.Native.Nat.{ℕ, ◌+◌, ◌%◌, ◌^◌, ◌≤◌, ◌<◌}
use native.Mathlib.Omega.{arith}
use Rattle.ports.specs.Due.{behind}
use Rattle.ports.specs.declared.state.State.{State}
use Rattle.lcf.specs.Advance.{advance}
use Rattle.demands.specs.History.{after, how_many, InEach, Moves}
use Rattle.demands.specs.Refusal.{InOrder, Valid}
use Rattle.demands.proofs.Refusal.{advance_valid}

module _ {S C : Type 0} {view : S → State} {Kept : S → C → Type 0} {next : S → C → S} {served : S → C → Bool} (moves : Moves view Kept next served) (m : ℕ) where
  -- the state stays valid
  valid_next : (st : S) (c : C) → Kept st c → Valid m (view st) → Valid m (view (next st c))
  valid_next st c k v = go (served st c) refl
    where
      go : (b : Bool) → served st c ≡ b → Valid m (view (next st c))
      go false e = rw (moves.declined_keeps st c k e) v
      go true e = rw (moves.served_advances st c k e) (advance_valid m (view st) v.in_order)

  valid_after : (calls : List C) (st : S) → InEach next Kept st calls → Valid m (view st) → Valid m (view (after next st calls))
  unfolding after InEach
  valid_after [] st k v = v
  valid_after (c ∷ calls) st k v = valid_after calls (next st c) k.1 (valid_next st c k.0 v)

  -- What follows on a valid state from a call's promise holds of each call of a history that begins at one.
  pub throughout : (Q : S → C → Type 0) → ((st : S) (c : C) → Kept st c → Valid m (view st) → Q st c)
      → (st : S) (calls : List C) → InEach next Kept st calls → Valid m (view st) → InEach next Q st calls
  unfolding InEach
  throughout Q so st [] k v = tt
  throughout Q so st (c ∷ calls) k v = (so st c k.0 v, throughout Q so (next st c) calls k.1 (valid_next st c k.0 v))

  -- No call changes the owners.
  pub owners_kept : (st : S) (c : C) → Kept st c → (view (next st c)).owners ≡ (view st).owners
  unfolding advance
  owners_kept st c k = go (served st c) refl
    where
      go : (b : Bool) → served st c ≡ b → (view (next st c)).owners ≡ (view st).owners
      go false e = ap (λ (s : State). s.owners) (moves.declined_keeps st c k e)
      go true e = ap (λ (s : State). s.owners) (moves.served_advances st c k e)

  -- the slot due is as many further as calls were served
  due-after : (calls : List C) (st : S) → InEach next Kept st calls → (view st).due < 2 ^ 32
      → (view (after next st calls)).due ≡ ((view st).due + how_many next served st calls) % 2 ^ 32
  unfolding after how_many InEach advance
  due-after [] st k d = omega arith
  due-after (c ∷ calls) st k d = go (served st c) refl (due-after calls (next st c) k.1)
    where
      K : ℕ
      K = how_many next served (next st c) calls

      D : ℕ
      D = (view (after next (next st c) calls)).due

      go : (b : Bool) → served st c ≡ b → ((view (next st c)).due < 2 ^ 32 → D ≡ ((view (next st c)).due + K) % 2 ^ 32) → D ≡ ((view st).due + (cond b 1 0 + K)) % 2 ^ 32
      go false e rest = let same = ap (λ (s : State). s.due) (moves.declined_keeps st c k.0 e) in omega (arith, rest (omega arith))
      go true e rest = let on = ap (λ (s : State). s.due) (moves.served_advances st c k.0 e) in omega (arith, rest (omega arith))

  -- A slot that was served is from 1 to 2 ^ 31 behind after the calls that follow, as long as fewer than 2 ^ 31 of them are served.
  pub behind-after : (st : S) (c : C) (calls : List C) → Kept st c → InEach next Kept (next st c) calls → served st c ≡ true → Valid m (view st)
      → how_many next served (next st c) calls < 2 ^ 31
      → let now = view (after next (next st c) calls) in InOrder m now × (1 ≤ behind now (view st).due) × (behind now (view st).due ≤ 2 ^ 31)
  unfolding after how_many InEach behind
  behind-after st c calls k ks e v few =
      let far : (view (after next (next st c) calls)).due ≡ ((view st).due + (1 + how_many next served (next st c) calls)) % 2 ^ 32 =
      due-after (c ∷ calls) st (k, ks) v.due_small ∙ rw e in
      ((valid_after (c ∷ calls) st (k, ks) v).in_order, omega arith, omega arith)
