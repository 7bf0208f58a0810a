-- Each public call's promise allows one result, and one final content of what was lent. `Learnt` is what the contract tells a
-- caller at the arguments a.
use mathlib.Core.Path.{◌≡◌}
use Rattle.std.specs.Prelude.{Result}
use Rattle.refusals.specs.declared.Refusal.{Refusal}
use Rattle.refusals.proofs.Unique.{answer_unique}
use Rattle.laws.proofs.Unique.{the_result}
use Rattle.imports.specs.Import.{nothing}
use Rattle.imports.specs.declared.answer.Imported.{Imported}
use Rattle.imports.proofs.importing.import_capture.Reads as import-capture

pub import_capture_once : (κs a : _) (r s : Result Imported Refusal) (x y : _) → import-capture.Learnt κs a r x → import-capture.Learnt κs a s y
    → (r ≡ s) × (x.1.1.1.1.1.0.now ≡ y.1.1.1.1.1.0.now)
import_capture_once κs a r s x y p q = (answer_unique nothing r s (the_result p.0 q.0), the_result p.1 q.1)
