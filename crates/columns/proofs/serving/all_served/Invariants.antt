use mathlib.Core.Path.{◌≡◌}
use mathlib.Core.List.{List}
use Prim.Native.Nat.{ℕ, ◌<◌, ◌^◌}
use lib.ListN.{get_or}
use Rattle.columns.specs.Transpose.{columns}
use Rattle.columns.proofs.Agreement.{Meets}
use Rattle.columns.proofs.serving.all_served.Given as goal

abbrev pub invariant-loop-k : goal.invariant-loop-k
invariant-loop-k l = (rows : List ℕ) → ((i : ℕ) → get_or rows i 0 < 2 ^ 16) → l.sides ≡ columns rows → Meets l.shelf.state l.sides rows l.initial.sets l.k l.board l.sets
