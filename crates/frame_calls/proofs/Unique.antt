-- Each public call's promise allows one result, and one final content of what was lent. `Learnt` is what the contract tells a
-- caller at the arguments a.
use mathlib.Core.Path.{◌≡◌}
use Prim.Native.Nat.{ℕ}
use Rattle.laws.proofs.Unique.{the_result}
use Rattle.frame_calls.proofs.exports.bellacush_read_config.Reads as read-config
use Rattle.frame_calls.proofs.exports.bellacush_read_grant.Reads as read-grant
use Rattle.frame_calls.proofs.exports.bellacush_read_grant3.Reads as read-grant3
use Rattle.frame_calls.proofs.exports.bellacush_write_config.Reads as write-config
use Rattle.frame_calls.proofs.exports.bellacush_write_grant3.Reads as write-grant3

pub read_config-once : (κs a : _) (r s : ℕ) (x y : _) → read-config.Learnt κs a r x → read-config.Learnt κs a s y → (r ≡ s) × (x.1.0.now ≡ y.1.0.now)
read_config-once κs a r s x y p q = (the_result p.0 q.0, the_result p.1 q.1)

pub read_grant-once : (κs a : _) (r s : ℕ) (x y : _) → read-grant.Learnt κs a r x → read-grant.Learnt κs a s y → (r ≡ s) × (x.1.0.now ≡ y.1.0.now)
read_grant-once κs a r s x y p q = (the_result p.0 q.0, the_result p.1 q.1)

pub read_grant3_once : (κs a : _) (r s : ℕ) (x y : _) → read-grant3.Learnt κs a r x → read-grant3.Learnt κs a s y → (r ≡ s) × (x.1.0.now ≡ y.1.0.now)
read_grant3_once κs a r s x y p q = (the_result p.0 q.0, the_result p.1 q.1)

pub write_config_once : (κs a : _) (r s : ℕ) (x y : _) → write-config.Learnt κs a r x → write-config.Learnt κs a s y → (r ≡ s) × (x.1.1.1.1.0.now ≡ y.1.1.1.1.0.now)
write_config_once κs a r s x y p q = (the_result p.0 q.0, the_result p.1 q.1)

pub write_grant3_once : (κs a : _) (r s : ℕ) (x y : _) → write-grant3.Learnt κs a r x → write-grant3.Learnt κs a s y → (r ≡ s) × (x.1.1.1.1.1.0.now ≡ y.1.1.1.1.1.0.now)
write_grant3_once κs a r s x y p q = (the_result p.0 q.0, the_result p.1 q.1)
