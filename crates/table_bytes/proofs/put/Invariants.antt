use mathlib.Core.Path.{◌≡◌}
use mathlib.Core.List.{◌++◌}
use Prim.Native.Nat.{◌*◌}
use lib.ListN.{length, drop, get_or}
use Rattle.laws.specs.Bytes.{big_endian}
use Rattle.laws.specs.Parts.{parts}
use Rattle.table_bytes.proofs.put.Given as goal

abbrev pub invariant-loop-i : goal.invariant-loop-i
invariant-loop-i l = (l.out ≡ parts (λ k. big_endian 2 (get_or l.set-items k 0)) l.i ++ drop (l.i * 2) l.initial.out) × (length l.out ≡ length l.initial.out)
