-- Each public call's promise allows one result, and one final content of what was lent. `Learnt` is what the contract tells a
-- caller at the arguments a.
use mathlib.Core.Path.{◌≡◌}
use Rattle.laws.proofs.Unique.{the_result}
use Rattle.refusals.proofs.Unique.{number_of_unique, answer_unique}
use Rattle.ledger.specs.declared.book.Ledger.{Ledger}
use Rattle.ledger.proofs.book.Ledger.empty.Reads as empty
use Rattle.ledger.proofs.book.feed.Reads as feed
use Rattle.ledger.proofs.book.figures_of.Reads as figures-of
use Rattle.ledger.proofs.lent.feed_lent.Reads as feed-lent
use Rattle.ledger.proofs.lent.figures_lent.Reads as figures-lent

pub empty-once : (κs a : _) (r s : Ledger) (x y : _) → empty.Learnt κs a r x → empty.Learnt κs a s y → r ≡ s
empty-once κs a r s x y p q = the_result p q

pub feed-once : (κs a r s x y : _) → feed.Learnt κs a r x → feed.Learnt κs a s y → r ≡ s
feed-once κs a r s x y p q = answer_unique _ r s (the_result p q)

pub figures_of-once : (κs a r s x y : _) → figures-of.Learnt κs a r x → figures-of.Learnt κs a s y → r ≡ s
figures_of-once κs a r s x y p q = answer_unique _ r s (the_result p q)

pub feed_lent_once : (κs a r s x y : _) → feed-lent.Learnt κs a r x → feed-lent.Learnt κs a s y → (r ≡ s) × (x.0.now ≡ y.0.now)
feed_lent_once κs a r s x y p q = (number_of_unique r s (the_result p.0 q.0), the_result p.1 q.1)

pub figures_lent_once : (κs a r s x y : _) → figures-lent.Learnt κs a r x → figures-lent.Learnt κs a s y → r ≡ s
figures_lent_once κs a r s x y p q = answer_unique _ r s (the_result p q)
