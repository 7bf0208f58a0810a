use Rattle.std.proofs.Common.{rules, ◌≡◌, ◌∙◌, ap, length}
use Rattle.frames.specs.Part.{most_ports}
use Rattle.ledger.specs.Counts.{pairs, above}
use Rattle.ledger.proofs.Chains.{some_row}
use Rattle.ledger.proofs.OverLaws.{tests_over}
use Rattle.ledger.proofs.book.over.Goals as goal

pub returns : goal.returns
returns c =
    let l = c.args.ledger.now in
    let asked : length l.asked ≡ pairs most_ports = search rules in
    let connected : length l.connected ≡ pairs most_ports = search rules in
    let fresh : length l.fresh ≡ pairs most_ports = search rules in
    let withdrawn : length l.withdrawn ≡ pairs most_ports = search rules in
    tests_over most_ports l c.any.ensures.small
    (c.above.ensures ∙ ap (above l.asked l.slots) asked) (c.above-2.ensures ∙ ap (above l.connected l.slots) connected)
    (c.above-3.ensures ∙ ap (above l.fresh l.slots) fresh) (c.above-4.ensures ∙ ap (above l.withdrawn l.slots) withdrawn)
    (c.any.ensures.some ∙ some_row _ l.waiting most_ports (search rules))
