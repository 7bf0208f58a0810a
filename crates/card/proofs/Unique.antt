-- The promise of the lent slot call allows one answer, one next state and one final output.
use mathlib.Core.Path.{◌≡◌, sym, ◌∙◌}
use mathlib.Core.List.{List}
use Prim.Native.Nat.{ℕ}
use Rattle.std.specs.Prelude.{Result}
use Rattle.laws.proofs.Unique.{the_result}
use Rattle.refusals.specs.declared.Refusal.{Refusal}
use Rattle.ports.specs.Served.{slot_answer}
use Rattle.ports.specs.declared.served.Matched.{Matched}
use Rattle.ports.specs.declared.state.State.{State}
use Rattle.ports.specs.declared.state.Mode.{Mode}
use Rattle.ports.proofs.Unique.{slot_answer_unique}
use Rattle.card.specs.Slot.{Lent}

pub slot_once : {m : ℕ} {st : State} {slot : ℕ} {mode : Mode} {block : List ℕ} {link : ℕ} {out : List ℕ} {a b : Result Matched Refusal} {x y : State} {o p : List ℕ}
    → Lent m st slot mode block link out (slot_answer m a) x o → Lent m st slot mode block link out (slot_answer m b) y p → (a ≡ b) × (x ≡ y) × (o ≡ p)
slot_once {m} {a = a} {b = b} r s = (slot_answer_unique m a b (r.answered ∙ sym s.answered), the_result r.moved s.moved, the_result r.granted s.granted)
