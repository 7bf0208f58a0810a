-- `queue_records::making::wrong_pool` meets its contract.
use mathlib.Core.Path.{refl}
use Rattle.queue_records.specs.Making.{wrong_pool}
use Rattle.queue_records.proofs.making.wrong_pool.Goals as goal

pub returns : goal.returns
unfolding wrong_pool
returns c = refl
