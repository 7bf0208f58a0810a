-- `long_check::tables::Entries::made` meets its contract.
use mathlib.Core.Path.{◌≡◌}
use lib.ListN.{length}
use Rattle.long_check.specs.Zeros.{Tables}
use Rattle.long_check.proofs.tables.Entries.made.Given as goal

abbrev pub invariant-loop-k : goal.invariant-loop-k
invariant-loop-k l = (length l.of ≡ 2560) × Tables l.k l.of
