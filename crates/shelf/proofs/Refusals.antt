-- What is known of a slot that none of the numbers 1 to 7 declines.
use mathlib.Core.Path.{◌≡◌, refl}
use mathlib.Core.Bool.{Bool, true, false, cond}
use mathlib.Core.List.{List}
use Prim.Native.Nat.{ℕ, zero, suc, ◌*◌, ◌≤◌}
use native.Mathlib.Omega.{arith}
use lib.Dec.{ltb, eqb-suc-zero}
use lib.ListN.{length}
use borrow.Author.Tests.{ltb-false, eqb-true, not-false}
use Rattle.frames.specs.Part.{frame_len, told_len}
use Rattle.frames.specs.Frame.{differs}
use Rattle.ports.specs.Due.{due_number}
use Rattle.ports.proofs.Numbers.{served}
use Rattle.ports.specs.declared.state.State.{State}
use Rattle.ports.specs.declared.state.Mode.{Mode}
use Rattle.shelf.specs.Step.{refusal}

pub due_ports : (m : ℕ) (st : State) (slot : ℕ) (mode : Mode) → due_number m st slot mode ≡ 0 → st.ports ≤ m
due_ports m st slot mode e = (served m st slot mode e).ready.ports

-- none of three numbers is given
none_given : (number : ℕ) (b c : Bool) → cond (differs number 0) number (cond b 6 (cond c 7 0)) ≡ 0 → (number ≡ 0) × (b ≡ false) × (c ≡ false)
none_given zero false false e = (refl, refl, refl)
none_given zero false true e = absurd (omega arith)
none_given zero true c e = absurd (omega arith)
none_given (suc k) b c e = absurd (omega (arith, rw (eqb-suc-zero k) at e))

pub record Taken (m : ℕ) (st : State) (slot : ℕ) (mode : Mode) (block out : List ℕ) : Type 0 where
  pub due : due_number m st slot mode ≡ 0
  pub some_port : 1 ≤ st.ports
  pub ports : st.ports ≤ m
  pub whole : length block ≡ st.ports * frame_len st.ports
  pub room : st.ports * told_len st.ports ≤ length out

pub taken : (m : ℕ) (st : State) (slot : ℕ) (mode : Mode) (block out : List ℕ) → refusal m st slot mode block out ≡ 0 → Taken m st slot mode block out
unfolding refusal
taken m st slot mode block out e =
    let (due, whole, room) = none_given (due_number m st slot mode) (differs (length block) (st.ports * frame_len st.ports)) (ltb (length out) (st.ports * told_len st.ports)) e in
    let ready = (served m st slot mode due).ready in
    record {
      due = due;
      some_port = omega (arith, ready.initiator);
      ports = ready.ports;
      whole = eqb-true _ _ (not-false _ whole);
      room = ltb-false (length out) (st.ports * told_len st.ports) room;
    }
