-- `trace_parts::layout::body_len` meets its contract.
use Prim.Native.Nat.{ℕ, ◌*◌, ◌≤◌}
use native.Mathlib.Nat.{mul-le-mul_right}
use native.Mathlib.Omega.{arith}
use Rattle.trace_parts.specs.Layout.{body_len}
use Rattle.trace_parts.proofs.layout.body_len.Goals as goal

-- the blocks of any count that two bytes hold
small : (slots len : ℕ) → slots ≤ 65535 → len ≤ 4096 → slots * len ≤ 65535 * 4096
small slots len h l = omega (arith, mul-le-mul_right len h)

pub overflow_add-result-2 : goal.overflow_add-result-2
overflow_add-result-2 c = omega (arith, small c.args.slots c.block_len.result (omega arith) (omega arith))

pub overflow_mul-result : goal.overflow_mul-result
overflow_mul-result c = omega (arith, overflow_add-result-2 c)

pub overflow_add-result : goal.overflow_add-result
overflow_add-result c = omega (arith, overflow_add-result-2 c)

pub returns : goal.returns
unfolding body_len
returns c =
    let blocks = small c.args.slots c.block_len.result (omega arith) (omega arith) in
    (rw c.block_len.ensures.0, omega arith, omega arith)
