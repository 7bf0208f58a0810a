use Rattle.trace_parts.specs.Body.{no_fields}
use Rattle.trace_parts.proofs.Defaults.{fields_default}
use Rattle.trace_parts.proofs.Shown.{or_zeros}
use Rattle.replays.specs.Replay.{start_state}
use Rattle.replays.proofs.start_state.Goals as goal

pub returns : goal.returns
unfolding start_state
returns c =
    let fields = or_zeros no_fields _ fields_default _ _ c.unwrap_or_default-fields.ensures in
    rw (← c.read_fields.ensures, ← fields)
