-- `queue_steps::asking::mark_pairs` meets its contract.
use mathlib.Core.Path.{◌≡◌}
use lib.ListN.{get_or, set}
use Rattle.frames.specs.Part.{most_ports}
use Rattle.laws.specs.Steps.{steps}
use Rattle.queue_steps.specs.Asking.{pair_of}
use Rattle.queue_steps.proofs.asking.mark_pairs.Given as goal

abbrev pub invariant-loop-entry : goal.invariant-loop-entry
invariant-loop-entry l = l.marks ≡ steps (λ k s. set s (pair_of most_ports (get_or l.entries k 0)) 1) l.initial.marks l.entry-index
