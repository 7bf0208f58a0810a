-- A slot that is not answered gives what the step gives, wherever the output has room; and the step tests its block first, then the room.
use mathlib.Core.Path.{◌≡◌, refl, sym, ◌∙◌}
use mathlib.Core.Bool.{Bool, true, false, cond}
use mathlib.Core.List.{List}
use Prim.Native.Nat.{ℕ, zero, suc, ◌*◌, ◌≤◌}
use native.Mathlib.Nat.{le_of_eq}
use lib.Dec.{ltb, eqb-suc-zero}
use lib.ListN.{length, length-replicate}
use borrow.Author.Tests.{le-ltb}
use Rattle.frames.specs.Part.{frame_len, told_len}
use Rattle.frames.specs.Frame.{differs}
use Rattle.ports.specs.Due.{due_number}
use Rattle.ports.specs.declared.state.State.{State}
use Rattle.ports.specs.declared.state.Mode.{Mode}
use Rattle.shelf.specs.Step.{refusal, stepped}
use Rattle.shelf.specs.Unanswered.{just_room, block_refusal, unanswered}

-- three numbers, of which the last may be taken apart
last_apart : (d : ℕ) (b c : Bool) → (let before = cond (differs d 0) d (cond b 6 0) in cond (differs d 0) d (cond b 6 (cond c 7 0)) ≡ cond (differs before 0) before (cond c 7 0))
last_apart zero true c = refl
last_apart zero false c = refl
last_apart (suc d) b c = rw (eqb-suc-zero d, eqb-suc-zero d)

module _ (m : ℕ) (st : State) (slot : ℕ) (mode : Mode) (block : List ℕ) where
  with-room : (out : List ℕ) → st.ports * told_len st.ports ≤ length out
      → refusal m st slot mode block out ≡ cond (differs (due_number m st slot mode) 0) (due_number m st slot mode) (cond (differs (length block) (st.ports * frame_len st.ports)) 6 0)
  unfolding refusal
  with-room out room = rw (le-ltb _ _ room)

  pub block_tests : block_refusal m st slot mode block ≡ cond (differs (due_number m st slot mode) 0) (due_number m st slot mode) (cond (differs (length block) (st.ports * frame_len st.ports)) 6 0)
  block_tests = with-room (just_room st) (le_of_eq (sym (length-replicate (st.ports * told_len st.ports) 0)))

  pub block_first : (out : List ℕ)
      → refusal m st slot mode block out ≡ cond (differs (block_refusal m st slot mode block) 0) (block_refusal m st slot mode block) (cond (ltb (length out) (st.ports * told_len st.ports)) 7 0)
  unfolding refusal
  block_first out = rw block_tests (last_apart (due_number m st slot mode) (differs (length block) (st.ports * frame_len st.ports)) (ltb (length out) (st.ports * told_len st.ports)))

  pub unanswered-stepped : (out : List ℕ) → st.ports * told_len st.ports ≤ length out → stepped m st slot mode block out ≡ unanswered m st slot mode block
  unfolding stepped unanswered
  unanswered-stepped out room = rw (with-room out room ∙ sym block_tests)
