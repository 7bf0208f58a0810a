-- Each public call's promise allows one result, and one final content of what was lent. `Learnt` is what the contract tells a
-- caller at the arguments a. Of a returned part it pins down the bytes and the place.
use mathlib.Core.Path.{◌≡◌, refl, sym, ap, ◌∙◌}
use mathlib.Core.Bool.{Bool}
use Prim.Native.Nat.{ℕ, ◌≤◌}
use native.Mathlib.Omega.{arith}
use denote.Ref.{Bor}
use mathlib.Core.List.{List, []}
use Rattle.std.specs.Prelude.{Option, Some, None, Result, Ok, Err, unwrap_or, IfSome, MatchResult}
use Rattle.laws.proofs.Unique.{the_result}
use Rattle.refusals.specs.Numbers.{number}
use Rattle.refusals.specs.declared.Refusal.{Refusal}
use Rattle.refusals.proofs.Unique.{answer_unique, number_unique, refused_is_not_done}
use Rattle.trace_parts.specs.declared.contents.Described.{Described}
use Rattle.trace_parts.specs.declared.contents.Head.{Head}
use Rattle.trace_parts.specs.declared.body.Fields.{Fields}
use Rattle.trace_parts.proofs.layout.ports_sound.Reads as ports-sound
use Rattle.trace_parts.proofs.layout.slots_sound.Reads as slots-sound
use Rattle.trace_parts.proofs.layout.contents_len.Reads as contents-len
use Rattle.trace_parts.proofs.layout.body_size.Reads as body-size
use Rattle.trace_parts.proofs.contents.contents_size.Reads as contents-size
use Rattle.trace_parts.proofs.contents.contents_head.Reads as contents-head
use Rattle.trace_parts.proofs.contents.file_head.Reads as file-head
use Rattle.trace_parts.proofs.contents.read_entry.Reads as read-entry
use Rattle.trace_parts.proofs.body.formed.Reads as formed
use Rattle.trace_parts.proofs.body.complete.Reads as complete
use Rattle.trace_parts.proofs.body.body_sound.Reads as body_sound_lem
use Rattle.trace_parts.proofs.body.sound_from.Reads as sound-from
use Rattle.trace_parts.proofs.body.read_fields.Reads as read-fields
use Rattle.trace_parts.proofs.body.slot_block.Reads as slot-block

pub ports_sound_once : (κs a : _) (r s : Bool) (x y : _) → ports-sound.Learnt κs a r x → ports-sound.Learnt κs a s y → r ≡ s
ports_sound_once κs a r s x y p q = the_result p q

pub slots_sound_once : (κs a : _) (r s : Bool) (x y : _) → slots-sound.Learnt κs a r x → slots-sound.Learnt κs a s y → r ≡ s
slots_sound_once κs a r s x y p q = the_result p q

pub contents_len-once : (κs a : _) (r s : ℕ) (x y : _) → contents-len.Learnt κs a r x → contents-len.Learnt κs a s y → r ≡ s
contents_len-once κs a r s x y p q = the_result p.0 q.0

pub body_size-once : (κs a : _) (r s : ℕ) (x y : _) → body-size.Learnt κs a r x → body-size.Learnt κs a s y → r ≡ s
body_size-once κs a r s x y p q = the_result p.0 q.0

same_size : (n m : ℕ) (r s : Option ℕ) → (unwrap_or r 0 ≡ n) × IfSome r (λ len. (5 ≤ len) × (len ≤ m)) → (unwrap_or s 0 ≡ n) × IfSome s (λ len. (5 ≤ len) × (len ≤ m)) → r ≡ s
same_size n m None None p q = refl
same_size n m None (Some b) p q = absurd (omega (arith, p.0, q.0, q.1.0))
same_size n m (Some a) None p q = absurd (omega (arith, p.0, q.0, p.1.0))
same_size n m (Some a) (Some b) p q = ap Some (p.0 ∙ sym q.0)

pub contents_size-once : (κs a : _) (r s : Option ℕ) (x y : _) → contents-size.Learnt κs a r x → contents-size.Learnt κs a s y → r ≡ s
contents_size-once κs a r s x y p q = same_size _ _ r s p q

pub contents_head-once : (κs a : _) (r s : Result Head Refusal) (x y : _) → contents-head.Learnt κs a r x → contents-head.Learnt κs a s y → r ≡ s
contents_head-once κs a r s x y p q = answer_unique _ r s (p ∙ sym q)

pub file_head-once : (κs a : _) (r s : Result Head Refusal) (x y : _) → file-head.Learnt κs a r x → file-head.Learnt κs a s y → r ≡ s
file_head-once κs a r s x y p q = answer_unique _ r s (p ∙ sym q)

pub read_entry-once : (κs a : _) (r s : Result Described Refusal) (x y : _) → read-entry.Learnt κs a r x → read-entry.Learnt κs a s y → r ≡ s
read_entry-once κs a r s x y p q = answer_unique _ r s (p ∙ sym q)

pub formed-once : (κs a : _) (r s : Bool) (x y : _) → formed.Learnt κs a r x → formed.Learnt κs a s y → r ≡ s
formed-once κs a r s x y p q = the_result p q

pub complete-once : (κs a : _) (r s : Bool) (x y : _) → complete.Learnt κs a r x → complete.Learnt κs a s y → r ≡ s
complete-once κs a r s x y p q = the_result p q

pub body_sound-once : (κs a : _) (r s : Bool) (x y : _) → body_sound_lem.Learnt κs a r x → body_sound_lem.Learnt κs a s y → r ≡ s
body_sound-once κs a r s x y p q = the_result p q

pub sound_from_once : (κs a : _) (r s : Bool) (x y : _) → sound-from.Learnt κs a r x → sound-from.Learnt κs a s y → r ≡ s
sound_from_once κs a r s x y p q = the_result p q

pub read_fields-once : (κs a : _) (r s : Result Fields Refusal) (x y : _) → read-fields.Learnt κs a r x → read-fields.Learnt κs a s y → r ≡ s
read_fields-once κs a r s x y p q = answer_unique _ r s (p ∙ sym q)

-- what a call tells that shows a part of bytes lent, or a refusal
pub part_once : (at : ℕ × ℕ) (k : ℕ) (part : List ℕ) (r s : Result (Bor (List ℕ)) Refusal)
    → MatchResult r (λ b. (b.now ≡ part) × (b.ref_ptr ≡ at) × (k ≡ 0)) (λ why. (number why ≡ k) × (part ≡ []))
    → MatchResult s (λ b. (b.now ≡ part) × (b.ref_ptr ≡ at) × (k ≡ 0)) (λ why. (number why ≡ k) × (part ≡ []))
    → r ≡ s
part_once at k part (Ok a) (Ok b) p q =
    ap (λ now. Ok (record { ref_ptr = a.ref_ptr; now = now })) (p.0 ∙ sym q.0) ∙ ap (λ at. Ok (record { ref_ptr = at; now = b.now })) (p.1 ∙ sym q.1)
part_once at k part (Ok a) (Err e) p q = absurd (refused_is_not_done e (q.0 ∙ p.2))
part_once at k part (Err e) (Ok b) p q = absurd (refused_is_not_done e (p.0 ∙ q.2))
part_once at k part (Err e) (Err f) p q = ap Err (number_unique e f (p.0 ∙ sym q.0))

pub slot_block_once : (κs a r s x y : _) → slot-block.Learnt κs a r x → slot-block.Learnt κs a s y → r ≡ s
slot_block_once κs a r s x y p q = part_once _ _ _ r s p q
