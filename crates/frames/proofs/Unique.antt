-- Each public call's promise allows one result, and one final content of what was lent. `Learnt` is what the contract tells a
-- caller at the arguments a. Of a returned part it pins down the bytes and the place; the ghost name is no value of the program.
use mathlib.Core.Path.{◌≡◌, sym, ◌∙◌}
use Rattle.std.specs.Prelude.{Result}
use Rattle.laws.proofs.Unique.{the_result}
use Rattle.refusals.specs.declared.Refusal.{Refusal}
use Rattle.refusals.proofs.Unique.{number_of_unique, answer_unique}
use Rattle.frames.specs.declared.config.Config.{Config}
use Rattle.frames.specs.declared.grant.Grant.{Grant}
use Rattle.frames.specs.declared.held.Held.{Held}
use Rattle.frames.proofs.config.read_config.Reads as read-config
use Rattle.frames.proofs.config.write_config.Reads as write-config
use Rattle.frames.proofs.grant.read_grant.Reads as read-grant
use Rattle.frames.proofs.held.read_held.Reads as read_held
use Rattle.frames.proofs.held.write_held.Reads as write-held
use Rattle.frames.proofs.part.host_frame.Reads as host-frame

pub read_config-once : (κs a : _) (r s : Result Config Refusal) (x y : _) → read-config.Learnt κs a r x → read-config.Learnt κs a s y → r ≡ s
read_config-once κs a r s x y p q = answer_unique _ r s (p ∙ sym q)

pub write_config_once : (κs a : _) (r s : Result (Unit {0}) Refusal) (x y : _) → write-config.Learnt κs a r x → write-config.Learnt κs a s y
    → (r ≡ s) × (x.1.0.now ≡ y.1.0.now)
write_config_once κs a r s x y p q = (number_of_unique r s (p.0 ∙ sym q.0), the_result p.1 q.1)

pub read_grant-once : (κs a : _) (r s : Result Grant Refusal) (x y : _) → read-grant.Learnt κs a r x → read-grant.Learnt κs a s y → r ≡ s
read_grant-once κs a r s x y p q = answer_unique _ r s (p ∙ sym q)

pub read_held-once : (κs a : _) (r s : Result Held Refusal) (x y : _) → read_held.Learnt κs a r x → read_held.Learnt κs a s y → r ≡ s
read_held-once κs a r s x y p q = answer_unique _ r s (p ∙ sym q)

pub write_held_once : (κs a : _) (r s : Result (Unit {0}) Refusal) (x y : _) → write-held.Learnt κs a r x → write-held.Learnt κs a s y
    → (r ≡ s) × (x.1.0.now ≡ y.1.0.now)
write_held_once κs a r s x y p q = (number_of_unique r s (p.0 ∙ sym q.0), the_result p.1 q.1)

pub host_frame_once : (κs a r s x y : _) → host-frame.Learnt κs a r x → host-frame.Learnt κs a s y
    → (r.now ≡ s.now) × (r.ref_ptr ≡ s.ref_ptr) × (x.1.1.1.0.now ≡ y.1.1.1.0.now)
host_frame_once κs a r s x y p q = (the_result p.0 q.0, the_result p.1 q.1, the_result p.2 q.2)
