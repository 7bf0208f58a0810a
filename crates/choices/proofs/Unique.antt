-- Each public call's promise allows one result. `Learnt` is what the contract tells a caller at the arguments a.
use mathlib.Core.Path.{◌≡◌}
use mathlib.Core.Bool.{Bool}
use mathlib.Core.List.{List}
use Prim.Native.Nat.{ℕ}
use Rattle.laws.proofs.Unique.{the_result}
use Rattle.choices.specs.declared.work.Work.{Work}
use Rattle.choices.proofs.choice.choose.Reads as choose
use Rattle.choices.proofs.pair.pair_at.Reads as pair-at
use Rattle.choices.proofs.rotation.place_of.Reads as place_of
use Rattle.choices.proofs.rotation.turned.Reads as turned
use Rattle.choices.proofs.join.clear_columns.Reads as clear-columns
use Rattle.choices.proofs.join.join_pair.Reads as join-pair
use Rattle.choices.proofs.sets.any_live.Reads as any-live
use Rattle.choices.proofs.sets.column.Reads as column
use Rattle.choices.proofs.sets.gather.Reads as gather
use Rattle.choices.proofs.sets.sizes.Reads as sizes

pub choose_once : (κs a : _) (r s : ℕ) (x y : _) → choose.Learnt κs a r x → choose.Learnt κs a s y → r ≡ s
choose_once κs a r s x y p q = the_result p q

pub place-of-once : (κs a : _) (r s : ℕ) (x y : _) → place_of.Learnt κs a r x → place_of.Learnt κs a s y → r ≡ s
place-of-once κs a r s x y p q = the_result p q

pub pair_at_once : (κs a r s x y : _) → pair-at.Learnt κs a r x → pair-at.Learnt κs a s y → r ≡ s
pair_at_once κs a r s x y p q =
    λ i. record { initiator = record { 0 = the_result p.0.0 q.0.0 i }; target = record { 0 = the_result p.1.0 q.1.0 i } }

pub turned-once : (κs a : _) (r s : ℕ) (x y : _) → turned.Learnt κs a r x → turned.Learnt κs a s y → r ≡ s
turned-once κs a r s x y p q = the_result p q

pub clear_columns-once : (κs a : _) (r s : List ℕ) (x y : _) → clear-columns.Learnt κs a r x → clear-columns.Learnt κs a s y → r ≡ s
clear_columns-once κs a r s x y p q = the_result p q

pub join-pair-once : (κs a : _) (r s : Work) (x y : _) → join-pair.Learnt κs a r x → join-pair.Learnt κs a s y → r ≡ s
join-pair-once κs a r s x y p q = the_result p q

pub any_live-once : (κs a : _) (r s : Bool) (x y : _) → any-live.Learnt κs a r x → any-live.Learnt κs a s y → r ≡ s
any_live-once κs a r s x y p q = the_result p q

pub column-once : (κs a : _) (r s : ℕ) (x y : _) → column.Learnt κs a r x → column.Learnt κs a s y → r ≡ s
column-once κs a r s x y p q = the_result p q

pub gather_once : (κs a : _) (r s : ℕ) (x y : _) → gather.Learnt κs a r x → gather.Learnt κs a s y → r ≡ s
gather_once κs a r s x y p q = the_result p q

pub sizes-once : (κs a : _) (r s : List ℕ) (x y : _) → sizes.Learnt κs a r x → sizes.Learnt κs a s y → r ≡ s
sizes-once κs a r s x y p q = the_result p q
