-- `trace_calls::reading::show_trace` meets its contract.
use Rattle.trace_calls.proofs.Heads.{trace_small}
use Rattle.trace_calls.proofs.reading.show_trace.Goals as goal

pub fill_head-requires : goal.fill_head-requires
fill_head-requires c = trace_small _ _ c.trace_head.ensures

pub returns : goal.returns
returns c = rw (← c.trace_head.ensures) c.fill_head.ensures
