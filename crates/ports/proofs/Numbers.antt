-- What the number of a slot that is served says, over any greatest port count.
use Rattle.std.proofs.Common.{◌≡◌, ℕ, ◌^◌, ◌≤◌, Bool, true, false, cond, ◌&&◌, ◌||◌, ltb, leb, sym, refl, ap, ◌∙◌, arith, ltb-false, le-ltb, leb-false}
use borrow.Author.Tests.{lt-leb}
use Rattle.laws.proofs.Tests.{neither}
use Rattle.ports.specs.Ready.{Ready}
use Rattle.ports.specs.Due.{behind, wrong_limit, due_number, orderly}
use Rattle.ports.specs.declared.state.State.{State}
use Rattle.ports.specs.declared.state.Mode.{Mode}
use Rattle.ports.specs.declared.state.Mode.TheVariants.{Distributed}

passed : (a b c d e : Bool) → ◌≡◌ {A = ℕ} (cond a 1 (cond b 2 (cond c 3 (cond d 4 (cond e 5 0))))) 0 → (a ≡ false) × (b ≡ false) × (e ≡ false)
passed true b c d e h = absurd (omega arith)
passed false true c d e h = absurd (omega arith)
passed false false true d e h = absurd (omega arith)
passed false false false true e h = absurd (omega arith)
passed false false false false true h = absurd (omega arith)
passed false false false false false h = (refl, refl, refl)

pub record Served (m : ℕ) (st : State) (mode : Mode) : Type 0 where
  pub ready : Ready m st
  pub limit : wrong_limit m mode ≡ false

pub served : (m : ℕ) (st : State) (slot : ℕ) (mode : Mode) → due_number m st slot mode ≡ 0 → Served m st mode
unfolding due_number
served m st slot mode e =
    let n = st.ports in
    let late = behind st slot in
    let p = passed (ltb n 1 || ltb m n) (leb n st.initiator.0 || leb n st.target.0) (leb 1 late && leb late (2 ^ 31)) (ltb (2 ^ 31) late) (wrong_limit m mode) e in
    let offsets = neither (leb n st.initiator.0) (leb n st.target.0) p.1 in
    record {
      ready = record { ports = ltb-false m n (neither (ltb n 1) (ltb m n) p.0).1; initiator = leb-false n _ offsets.0; target = leb-false n _ offsets.1 };
      limit = p.2;
    }

pub limit_fits : (m limit : ℕ) (mode : Mode) → mode ≡ Distributed limit → wrong_limit m mode ≡ false → limit ≤ m
unfolding wrong_limit
limit_fits m limit mode e h = ltb-false m limit (neither (ltb limit 1) (ltb m limit) (sym (ap (wrong_limit m) e) ∙ h)).1

on_time : (st : State) → behind st st.due ≡ 0
unfolding behind
on_time st = omega arith

-- a state that is served in a slot is in order for the slot that is due
pub due_now : (m : ℕ) (st : State) (slot : ℕ) (mode other : Mode) → due_number m st slot mode ≡ 0 → wrong_limit m other ≡ false → due_number m st st.due other ≡ 0
unfolding due_number
due_now m st slot mode other e limit =
    let n = st.ports in
    let late = behind st slot in
    let p = passed (ltb n 1 || ltb m n) (leb n st.initiator.0 || leb n st.target.0) (leb 1 late && leb late (2 ^ 31)) (ltb (2 ^ 31) late) (wrong_limit m mode) e in
    rw (on_time st, p.0, p.1, limit)

pub orderly_same : (m : ℕ) (st : State) → Ready m st → orderly m st ≡ st
unfolding orderly due_number wrong_limit
orderly_same m st h =
    rw (on_time st, le-ltb st.ports 1 (omega (arith, h.initiator)), le-ltb m st.ports h.ports, lt-leb st.ports _ h.initiator, lt-leb st.ports _ h.target)
