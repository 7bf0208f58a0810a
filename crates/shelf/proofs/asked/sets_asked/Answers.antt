use mathlib.Core.Path.{refl, sym}
use Rattle.std.proofs.lemmas.Result.{err_from_is_err_and}
use Rattle.refusals.proofs.Unique.{refused_is_not_done}
use Rattle.frames.specs.Part.{most_ports}
use Rattle.shelf.proofs.Asking.{block_ports, declined-sets, asked-sets}
use Rattle.shelf.proofs.asked.sets_asked.Goals as goal

pub returns-in_err-check_ports : goal.returns-in_err-check_ports
returns-in_err-check_ports c =
    let p = err_from_is_err_and c.from_residual.result c.from_residual.ensures.1 in
    rw (p.1, p.2) (declined-sets most_ports _ _ _ _ c.in_err-check_ports.ensures (refused_is_not_done _) refl)

pub listen-told-requires : goal.listen-told-requires
listen-told-requires c = block_ports most_ports _ _ (sym c.in_ok-check_ports.ensures)

pub returns : goal.returns
returns c = asked-sets most_ports _ _ _ _ _ c.in_ok-check_ports.ensures refl c.listen-told.ensures c.within.ensures
