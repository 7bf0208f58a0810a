-- Each public call's promise allows one result. `Learnt` is what the contract tells a caller at the arguments a.
use mathlib.Core.Path.{◌≡◌}
use Prim.Native.Nat.{ℕ}
use Rattle.laws.proofs.Unique.{the_result}
use Rattle.body_fates.specs.declared.body.Fate.{Fate}
use Rattle.body_fates.specs.declared.judging.Judged.{Judged}
use Rattle.body_fates.proofs.body.U8FromFate.from.Reads as from
use Rattle.body_fates.proofs.judging.Judged.none.Reads as none
use Rattle.body_fates.proofs.judging.Judged.judge.Reads as judge
use Rattle.body_fates.proofs.judging.Judged.fate_of.Reads as fate-of

pub none_once : (κs a : _) (r s : Judged) (x y : _) → none.Learnt κs a r x → none.Learnt κs a s y → r ≡ s
none_once κs a r s x y p q = the_result p q

pub judge-once : (κs a r s x y : _) → judge.Learnt κs a r x → judge.Learnt κs a s y → x.0.now ≡ y.0.now
judge-once κs a r s x y p q = the_result p q

pub fate_of-once : (κs a : _) (r s : Fate) (x y : _) → fate-of.Learnt κs a r x → fate-of.Learnt κs a s y → r ≡ s
fate_of-once κs a r s x y p q = the_result p q

pub from_once : (κs a : _) (r s : ℕ) (x y : _) → from.Learnt κs a r x → from.Learnt κs a s y → r ≡ s
from_once κs a r s x y p q = the_result p q
