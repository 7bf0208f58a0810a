use Rattle.std.proofs.Common.{◌≤◌, length, rules, ◌∙◌}
use Rattle.laws.proofs.Chains.{some_any}
use Rattle.ports.specs.Ready.{fresh}
use Rattle.ports.proofs.Given.{owners_taken}
use Rattle.ports.proofs.state.State.fresh.Goals as goal

pub returns-then-wrong_ports : goal.returns-then-wrong_ports
unfolding fresh
returns-then-wrong_ports c = rw (← c.wrong_ports.ensures, c.if-wrong_ports.true)

pub returns-then-any_above : goal.returns-then-any_above
unfolding fresh
returns-then-any_above c =
    let above = c.any_above.ensures ∙ some_any _ c.args.operators c.args.ports (search rules) in
    rw (← c.wrong_ports.ensures, c.if-wrong_ports.false, ← above, c.if-any_above.true)

pub returns : goal.returns
unfolding fresh
returns c =
    let few : c.args.ports ≤ length c.args.operators = search rules in
    let above = c.any_above.ensures ∙ some_any _ c.args.operators c.args.ports few in
    rw (← c.wrong_ports.ensures, c.if-wrong_ports.false, ← above, c.if-any_above.false, c.at_first.ensures, c.owners_of.ensures, owners_taken c.args.operators c.args.ports few)
