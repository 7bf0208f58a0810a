-- What a call on tables answers, case by case.
use mathlib.Core.Path.{◌≡◌, refl, sym, ◌∙◌}
use mathlib.Core.Logic.{◌↔◌}
use mathlib.Core.Bool.{Bool, true, false, ◌&&◌, ◌||◌, cond}
use mathlib.Core.List.{List}
use Prim.Native.Nat.{ℕ, ◌^◌, ◌≤◌, ◌<◌}
use native.Mathlib.Omega.{arith}
use lib.Dec.{eqb, ltb, leb}
use lib.ListN.{replicate}
use borrow.Author.Tests.{eqb-true, eqb-false, ltb-true, ltb-false, leb-true, leb-false, le-ltb, lt-leb}
use Rattle.laws.proofs.Tests.{arms}
use Rattle.ports.specs.Due.{behind, wrong_limit, due_number, declined}
use Rattle.ports.specs.declared.state.State.{State}
use Rattle.ports.specs.Answer.{Stepped}
use Rattle.lcf.specs.Advance.{advance}
use Rattle.lcf.specs.Slot.{matched, ended, slot_on_tables}
use Rattle.choices.specs.declared.work.Run.{Run}
use Rattle.demands.specs.Call.{Call, called, number, sets}
use Rattle.demands.specs.Refusal.{InOrder}

module _ (m : ℕ) (st : State) (c : Call) where
  -- how far the call's slot is behind
  abbrev pub late : ℕ
  late = behind st c.slot

  -- ---- the number before the slot is run

  abbrev pub due : ℕ
  due = due_number m st c.slot c.mode

  -- what each number says
  pub record Means (x : ℕ) : Type 0 where
    pub in_order : (x ≡ 1 → ⊥) → (x ≡ 2 → ⊥) → InOrder m st
    pub stale : x ≡ 3 → (1 ≤ late) × (late ≤ 2 ^ 31)
    pub early : x ≡ 4 → 2 ^ 31 < late
    pub on_time : x ≡ 0 → late ≡ 0

  pub means : Means due
  unfolding due_number
  means = go _ _ _ _ _ _ _ (wrong_limit m c.mode) refl refl refl refl refl refl refl
    where
      n : ℕ
      n = st.ports

      i : ℕ
      i = st.initiator.0

      j : ℕ
      j = st.target.0

      go : (few many far-i far-j some half over wrong : Bool) → ltb n 1 ≡ few → ltb m n ≡ many → leb n i ≡ far-i → leb n j ≡ far-j
          → leb 1 late ≡ some → leb late (2 ^ 31) ≡ half → ltb (2 ^ 31) late ≡ over
          → Means (cond (few || many) 1 (cond (far-i || far-j) 2 (cond (some && half) 3 (cond over 4 (cond wrong 5 0)))))
      go true many fi fj s h o w e1 e2 e3 e4 e5 e6 e7 = omega arith
      go false true fi fj s h o w e1 e2 e3 e4 e5 e6 e7 = omega arith
      go false false true fj s h o w e1 e2 e3 e4 e5 e6 e7 = omega arith
      go false false false true s h o w e1 e2 e3 e4 e5 e6 e7 = omega arith
      go false false false false true true o w e1 e2 e3 e4 e5 e6 e7 = omega (arith, ltb-false, leb-false, leb-true)
      go false false false false true false true w e1 e2 e3 e4 e5 e6 e7 = omega (arith, ltb-false, leb-false, ltb-true)
      go false false false false true false false w e1 e2 e3 e4 e5 e6 e7 = absurd (omega (arith, ltb-false, leb-false))
      go false false false false false h true w e1 e2 e3 e4 e5 e6 e7 = omega (arith, ltb-false, leb-false, ltb-true)
      go false false false false false h false true e1 e2 e3 e4 e5 e6 e7 = omega (arith, ltb-false, leb-false)
      go false false false false false h false false e1 e2 e3 e4 e5 e6 e7 = omega (arith, ltb-false, leb-false)

  -- with the state in order, it is one of the later numbers
  pub ordered : InOrder m st → (x : ℕ)
      → cond (leb 1 late && leb late (2 ^ 31)) 3 (cond (ltb (2 ^ 31) late) 4 (cond (wrong_limit m c.mode) 5 0)) ≡ x → due ≡ x
  unfolding due_number
  ordered o x e =
      let ports-a = le-ltb st.ports 1 o.some_port in
      let ports-b = le-ltb m st.ports o.ports_at_most in
      let offset-i = lt-leb st.ports st.initiator.0 o.offsets.initiator in
      let offset-j = lt-leb st.ports st.target.0 o.offsets.target in
      rw (ports-a, ports-b, offset-i, offset-j) e

  -- ---- the call

  abbrev pub run : Run
  run = matched st c.mode c.req c.pre

  -- it is served, or declined with the number due
  pub call_cases : (P : Stepped → Type 0)
      → (due ≡ 0 → P (record { state = advance st; answer = record { number = 0; rounds = run.rounds; sets = run.work.held } }))
      → ((x : ℕ) → (x ≡ 0 → ⊥) → due ≡ x → P (declined m st x))
      → P (called m st c)
  unfolding slot_on_tables ended
  call_cases P serves declines = arms P (eqb due 0) _ _ (λ e. serves (eqb-true due 0 e)) (λ e. declines due (eqb-false due 0 e) refl)

  -- what holds of the matched table and of the empty one
  pub of-sets : (Q : List ℕ → Type 0) → Q (matched st c.mode c.req c.pre).work.held → Q (replicate m 0) → Q (sets m st c)
  unfolding declined
  of-sets Q some none = call_cases (λ r. Q r.answer.sets) (λ z. some) (λ x ne why. none)

  -- what a served call is
  pub record Served (r : Stepped) : Type 0 where
    pub in_order : InOrder m st
    pub on_time : behind st c.slot ≡ 0
    pub advances : r.state ≡ advance st
    pub sets-matched : r.answer.sets ≡ (matched st c.mode c.req c.pre).work.held
    pub rounds_run : r.answer.rounds ≡ (matched st c.mode c.req c.pre).rounds

  pub served_call : number m st c ≡ 0 → Served (called m st c)
  unfolding declined
  served_call = call_cases (λ r. r.answer.number ≡ 0 → Served r)
      (λ z e. record { in_order = means.in_order (λ q. omega arith) (λ q. omega arith); on_time = means.on_time z; advances = refl; sets-matched = refl; rounds_run = refl })
      (λ x ne why e. absurd (ne e))

  -- a number other than 0 is the number due
  pub due_exactly : (x : ℕ) → (x ≡ 0 → ⊥) → (number m st c ≡ x) ↔ (due_number m st c.slot c.mode ≡ x)
  unfolding declined
  due_exactly x some = (
    call_cases (λ r. r.answer.number ≡ x → due ≡ x) (λ z e. absurd (some (sym e))) (λ y ne why e. why ∙ e),
    call_cases (λ r. due ≡ x → r.answer.number ≡ x) (λ z e. absurd (some (sym e ∙ z))) (λ y ne why e. sym why ∙ e),
  )
