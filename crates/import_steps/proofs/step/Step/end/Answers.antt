-- `import_steps::step::Step::end` meets its contract.
use Rattle.std.proofs.Common.{ap, arith}
use Rattle.frames.specs.Part.{most_ports}
use Rattle.import_steps.specs.Taking.{Known, known}
use Rattle.import_steps.proofs.Rooms.{ends_before_check}
use Rattle.import_steps.proofs.Placing.{some, few}
use Rattle.import_steps.proofs.step.Step.end.Goals as goal

pub overflow_sub-result : goal.overflow_sub-result
overflow_sub-result c = let s = c.args.self in omega (arith, ends_before_check most_ports s.before.state.ports _ _ (some (known s.before) _ _ s.taken) (few (known s.before) _ _ s.taken) c.body_size.ensures.0)

pub returns : goal.returns
returns c =
    let s = c.args.self in
    let slots = ap (λ (q : Known). q.slots) c.took.ensures in
    let e = ends_before_check most_ports s.before.state.ports _ _ (some (known s.before) _ _ s.taken) (few (known s.before) _ _ s.taken) (rw slots at c.body_size.ensures.0) in
    (omega arith, omega (arith, c.body_size.ensures.1))
