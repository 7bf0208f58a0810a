use Rattle.std.proofs.Common.{ap}
use Rattle.frames.specs.Part.{most_ports}
use Rattle.lcf.proofs.Slots.{by_targets, by_rounds}
use Rattle.lcf.proofs.slot.Due.serve.Goals as goal

pub returns-in_default : goal.returns-in_default
returns-in_default c = by_targets _ c.args.self.mode c.args.work c.in_default.not-Distributed c.opened.ensures c.serve_central.ensures

pub returns : goal.returns
returns c =
    let e = by_rounds most_ports _ _ _ c.args.self.ready _ c.in-Distributed.is c.args.self.limit c.serve_rounds-run.ensures in
    (ap (λ r. r.work.held) e, ap (λ r. r.rounds) e)
