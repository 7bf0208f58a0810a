-- `salvages::whole::bodies_len` meets its contract.
use Prim.Native.Nat.{◌≤◌, ◌*◌}
use mathlib.Core.Path.{◌≡◌}
use Rattle.trace_writer.specs.Writer.{start_of}
use Rattle.salvages.proofs.whole.bodies_len.Given as goal

abbrev pub invariant-loop-count : goal.invariant-loop-count
invariant-loop-count l = (l.len ≡ start_of l.n l.slots l.count-index) × (l.len ≤ l.count-index * 268435456)
