-- `queue_entries::counting::count` meets its contract.
use mathlib.Core.Path.{◌≡◌, sym}
use Prim.Native.Nat.{◌+◌, ◌-◌}
use native.Mathlib.Omega.{arith}
use Rattle.frames.specs.Part.{most_ports}
use Rattle.queue_records.specs.Records.{count_of}
use Rattle.queue_records.specs.Order.{most_cells}
use Rattle.queue_entries.specs.Counting.{counted}
use Rattle.queue_entries.proofs.Counts.{count_room, length_those}
use Rattle.queue_entries.proofs.counting.count.Goals as goal

pub slice_bounds-count_those-end : goal.slice_bounds-count_those-end
slice_bounds-count_those-end c =
    let a = c.args in
    rw c.held-end.ensures.0 (count_room most_ports most_cells a.words.now a.i.0 a.t.0 (sym c.in_ok-can_count.ensures))

pub returns : goal.returns
unfolding counted
returns c =
    let words = c.args.words.now in
    let size : 3 + count_of words - 3 ≡ count_of words = omega arith in
    rw (← c.in_ok-can_count.ensures, c.count_those.ensures, c.held-end.ensures.0, size, length_those)
