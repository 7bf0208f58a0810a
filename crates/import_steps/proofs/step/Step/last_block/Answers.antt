-- `import_steps::step::Step::last_block` meets its contract.
use Rattle.std.proofs.Common.{arith}
use Rattle.import_steps.specs.Taking.{known}
use Rattle.import_steps.proofs.Placing.{few, block_last}
use Rattle.import_steps.proofs.step.Step.last_block.Goals as goal

pub overflow_mul-result : goal.overflow_mul-result
overflow_mul-result c = let s = c.args.self in omega (arith, few (known s.before) _ _ s.taken)

pub overflow_sub-result : goal.overflow_sub-result
overflow_sub-result c = let s = c.args.self in omega (arith, c.end.ensures.0, block_last (known s.before) _ _ s.taken)

pub returns : goal.returns
returns c = let s = c.args.self in omega (arith, c.end.ensures.0, block_last (known s.before) _ _ s.taken)
