-- `frames::held::Held::frame` meets its contract.
use mathlib.Core.List.{◌∷◌}
use Rattle.laws.specs.Bytes.{big_endian}
use Rattle.words.proofs.CheckLaws.{sealed-over}
use Rattle.frames.specs.Width.{narrow}
use Rattle.frames.specs.Held.{held_type, held_body, held_frame}
use Rattle.frames.proofs.held.Held.frame.Goals as goal

pub returns : goal.returns
unfolding held_frame big_endian
returns c =
    rw (c.seal.ensures, c.two_bytes-set.ensures, c.flags.ensures)
    (sealed-over (held_type narrow ∷ held_body narrow c.args.self) 0 0)
