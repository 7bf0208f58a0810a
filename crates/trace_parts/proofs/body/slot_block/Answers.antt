-- `trace_parts::body::slot_block` meets its contract.
use mathlib.Core.Path.{◌≡◌, refl, sym, ap, ◌∙◌}
use Prim.Native.Nat.{ℕ, ◌+◌, ◌*◌, ◌-◌}
use native.Mathlib.Nat.{add-zero, add_comm}
use native.Mathlib.Omega.{arith}
use borrow.Author.Rules.{rules}
use Rattle.trace_parts.proofs.BodyLaws.{block}
use Rattle.trace_parts.proofs.body.slot_block.Goals as goal

pub block_len-len-requires : goal.block_len-len-requires
block_len-len-requires c = omega (arith, (block _ _ _ _ _ (sym c.has_block.ensures ∙ c.if-has_block.true)).ports)

-- the part lies within the body
pub slice_bounds-result-end : goal.slice_bounds-result-end
slice_bounds-result-end c =
    let b = block _ _ _ _ _ (sym c.has_block.ensures ∙ c.if-has_block.true) in
    omega (arith, rw (← c.block_len-len.ensures.0) at b.fits)

pub overflow_mul-start : goal.overflow_mul-start
overflow_mul-start c = omega (arith, slice_bounds-result-end c)

pub overflow_add-start : goal.overflow_add-start
overflow_add-start c = omega (arith, slice_bounds-result-end c)

pub overflow_add-end : goal.overflow_add-end
overflow_add-end c = omega (arith, slice_bounds-result-end c)

pub returns-then-has_block : goal.returns-then-has_block
returns-then-has_block c =
    let a = c.args in
    let len = c.block_len-len.result in
    let start = 3 + a.k * len in
    let long : start + len - start ≡ len = omega arith in
    rw (← c.has_block.ensures, c.if-has_block.true, ← c.block_len-len.ensures.0, long)
    (refl, ap (λ (k : ℕ). (a.body.ref_ptr.0, k)) (add_comm start a.body.ref_ptr.1), refl)

pub returns : goal.returns
returns c = rw (← c.has_block.ensures, c.if-has_block.false) (search (rules, add-zero))
