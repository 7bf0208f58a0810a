-- Refusal: what a declined call leaves, and which slots are declined with 3 and 4.
use mathlib.Core.Path.{◌≡◌, refl}
use mathlib.Core.Logic.{◌⊎◌, inl, inr, ◌↔◌}
use Prim.Native.Nat.{ℕ, ◌+◌, ◌^◌, ◌≤◌, ◌<◌}
use native.Mathlib.Nat.{mod-lt}
use native.Mathlib.Decide.{dec_le}
use native.Mathlib.Omega.{arith}
use lib.Dec.{lit<}
use borrow.Author.Tests.{lt-ltb, le-leb, lt-leb}
use Rattle.ports.specs.Due.{behind, declined}
use Rattle.ports.specs.declared.state.State.{State}
use Rattle.lcf.specs.Advance.{advance}
use Rattle.demands.specs.Call.{Call, called, number}
use Rattle.demands.specs.Refusal.{InOrder, Valid, Nothing}
use Rattle.demands.proofs.Calls.{means, ordered, call_cases, due_exactly, served_call}
use Rattle.demands.proofs.Turns.{advance_below}

module _ (m : ℕ) (st : State) (c : Call) where
  -- A declined call leaves the state as it was and connects nobody.
  pub declined_does_nothing : (number m st c ≡ 0 → ⊥) → Nothing m st (called m st c)
  unfolding declined
  declined_does_nothing = call_cases m st c (λ r. (r.answer.number ≡ 0 → ⊥) → Nothing m st r) (λ z ne. absurd (ne refl))
      (λ x ne why e. record { state_kept = refl; no_sets = refl; no_rounds = refl })

  -- Number 3, exactly: the slot is from 1 to 2147483648 behind the one due.
  pub stale : (number m st c ≡ 3) ↔ (InOrder m st × (1 ≤ behind st c.slot) × (behind st c.slot ≤ 2 ^ 31))
  stale = (
    λ e. let d = (due_exactly m st c 3 (λ q. omega arith)).0 e in
        let (x, y) = (means m st c).stale d in
        ((means m st c).in_order (λ q. omega arith) (λ q. omega arith), x, y),
    λ (o, x, y). (due_exactly m st c 3 (λ q. omega arith)).1
        (ordered m st c o 3 (rw (le-leb 1 (behind st c.slot) x, le-leb (behind st c.slot) (2 ^ 31) y))),
  )

  -- Number 4, exactly: it is more than that behind.
  pub early : (number m st c ≡ 4) ↔ (InOrder m st × (2 ^ 31 < behind st c.slot))
  early = (
    λ e. let d = (due_exactly m st c 4 (λ q. omega arith)).0 e in
        ((means m st c).in_order (λ q. omega arith) (λ q. omega arith), (means m st c).early d),
    λ (o, x). (due_exactly m st c 4 (λ q. omega arith)).1
        (ordered m st c o 4 (rw (le-leb 1 (behind st c.slot) (omega arith), lt-leb (behind st c.slot) (2 ^ 31) x, lt-ltb (2 ^ 31) (behind st c.slot) x))),
  )

  module _ (slot< : c.slot < 2 ^ 32) (due< : st.due < 2 ^ 32) where
    not_behind : behind st c.slot ≡ 0 → c.slot ≡ st.due
    unfolding behind
    not_behind e = omega arith

    -- Only the slot that is due is served.
    pub served_when_due : number m st c ≡ 0 → c.slot ≡ st.due
    served_when_due e = not_behind (served_call m st c e).on_time

    -- With the state in order, any other is declined with 3 or 4.
    pub other_declined : InOrder m st → (c.slot ≡ st.due → ⊥) → (number m st c ≡ 3) ⊎ (number m st c ≡ 4)
    other_declined o other = go (dec_le (behind st c.slot) (2 ^ 31))
      where
        some : behind st c.slot ≡ 0 → ⊥
        some e = other (not_behind e)

        go : Dec (behind st c.slot ≤ 2 ^ 31) → (number m st c ≡ 3) ⊎ (number m st c ≡ 4)
        go (yes h) = inl (stale.1 (o, omega (arith, some), h))
        go (no h) = inr (early.1 (o, omega arith))

pub advance_valid : (m : ℕ) (st : State) → InOrder m st → Valid m (advance st)
unfolding advance
advance_valid m st o = record {
  in_order = record { some_port = o.some_port; ports_at_most = o.ports_at_most; offsets = advance_below st o.offsets };
  due_small = mod-lt (st.due + 1) (lit< tt);
}
