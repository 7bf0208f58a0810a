-- `trace_calls::reading::show_contents` meets its contract.
use Rattle.trace_calls.proofs.Heads.{file_small}
use Rattle.trace_calls.proofs.reading.show_contents.Goals as goal

pub fill_head-requires : goal.fill_head-requires
fill_head-requires c = file_small _ _ _ c.file_head.ensures

pub returns : goal.returns
returns c = rw (← c.file_head.ensures) c.fill_head.ensures
