-- `queue_steps::asking::requests` meets its contract.
use mathlib.Core.Path.{◌≡◌, ◌∙◌}
use Prim.Native.Nat.{◌+◌, ◌-◌}
use native.Mathlib.Omega.{arith}
use Rattle.frames.specs.Part.{most_ports}
use Rattle.queue_records.specs.Records.{count_of}
use Rattle.queue_steps.proofs.Requests.{marked-requests}
use Rattle.queue_steps.proofs.asking.requests.Goals as goal

pub returns : goal.returns
returns c =
    let words = c.args.words.now in
    let size : 3 + count_of words - 3 ≡ count_of words = omega arith in
    c.rows_of.ensures ∙ rw (c.mark_pairs.ensures, c.held-end.ensures.0, size) (marked-requests most_ports words)
