-- `queues::moving::forward` meets its contract.
use mathlib.Core.Path.{◌≡◌}
use lib.ListN.{length, drop}
use Rattle.frames.specs.Part.{most_ports}
use Rattle.queue_records.specs.Order.{cell_len}
use Rattle.queues.specs.Parting.{forwarded}
use Rattle.queues.proofs.moving.forward.Given as goal

abbrev pub invariant-loop-word : goal.invariant-loop-word
invariant-loop-word l = (length l.out ≡ length l.initial.out) × (forwarded most_ports cell_len l.pool l.leavers l.initial.out ≡ forwarded most_ports cell_len l.pool (drop l.word-index l.leavers) l.out)
