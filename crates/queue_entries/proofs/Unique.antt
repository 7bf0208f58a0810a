-- Each public call's promise allows one result, and one final content of what was lent. `Learnt` is what the contract tells a
-- caller at the arguments a.
use mathlib.Core.Path.{◌≡◌}
use Rattle.laws.proofs.Unique.{the_result}
use Rattle.refusals.proofs.Unique.{number_of_unique, answer_unique}
use Rattle.queue_entries.proofs.adding.add.Reads as add
use Rattle.queue_entries.proofs.counting.count.Reads as count

pub add_once : (κs a : _) (r s : _) (x y : _) → add.Learnt κs a r x → add.Learnt κs a s y
    → (r ≡ s) × (x.0.now ≡ y.0.now) × (x.1.1.1.1.0.now ≡ y.1.1.1.1.0.now)
add_once κs a r s x y p q = (number_of_unique r s (the_result p.0 q.0), the_result p.1 q.1, the_result p.2 q.2)

pub count_once : (κs a : _) (r s : _) (x y : _) → count.Learnt κs a r x → count.Learnt κs a s y → r ≡ s
count_once κs a r s x y p q = answer_unique 0 r s (the_result p q)
