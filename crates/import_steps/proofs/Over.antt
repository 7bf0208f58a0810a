-- Bytes in place of others.
use Rattle.std.proofs.Common.{◌≡◌, ℕ, ◌+◌, ◌-◌, ◌≤◌, List, ◌++◌, length, replicate, ap, ◌∙◌, append_assoc, arith, drop-drop}
use lib.ListN.{length-replicate}
use lib.Seq.{take-append-le, drop-append-le, take-append-add, drop-append-add}
use borrow.Rule.Slice.PartMut.{mid_of, put_mid, mid_len}
use Rattle.import_steps.specs.Laying.{over}

module _ (at : ℕ) (x s : List ℕ) (h : at + length x ≤ length s) where
  -- what follows stays
  pub over_before : (rest : List ℕ) → over at x (s ++ rest) ≡ over at x s ++ rest
  unfolding over
  over_before rest =
      rw (take-append-le at s rest (omega arith), drop-append-le (at + length x) s rest h) (simp append_assoc)

-- what stands before stays
pub over-behind : (p : List ℕ) (at : ℕ) (x s : List ℕ) → over (length p + at) x (p ++ s) ≡ p ++ over at x s
unfolding over
over-behind p at x s =
    let sum : length p + at + length x ≡ length p + (at + length x) = omega arith in
    rw (sum, take-append-add p s at, drop-append-add p s (at + length x)) (append_assoc p _ _)

-- a part that is lent and comes back as x
pub lent_over : (at end : ℕ) (x s last : List ℕ) → end ≡ at + length x → last ≡ x → put_mid at (end - at) s last ≡ over at x s
unfolding over
lent_over at end x s last e is =
    let k : end - at ≡ length x = omega arith in
    rw (is, k, drop-drop (length x) at s)

pub over_blank : (at len end : ℕ) (s last : List ℕ) → end ≡ at + len → end ≤ length s → last ≡ replicate (length (mid_of at (end - at) s)) 0
    → put_mid at (end - at) s last ≡ over at (replicate len 0) s
over_blank at len end s last e room is =
    let long : length (mid_of at (end - at) s) ≡ len = omega (arith, mid_len at end s room) in
    lent_over at end (replicate len 0) s last (rw length-replicate e) (is ∙ ap (λ (k : ℕ). replicate k 0) long)
