-- `frames::config::Config::frame` meets its contract.
use mathlib.Core.List.{◌∷◌}
use Rattle.laws.specs.Steps.{steps}
use Rattle.laws.specs.Bytes.{big_endian, row}
use Rattle.words.proofs.CheckLaws.{sealed-over}
use Rattle.frames.specs.Width.{narrow}
use Rattle.frames.specs.Config.{config_type, config_fields, config_frame}
use Rattle.frames.proofs.config.Config.frame.Goals as goal

pub returns : goal.returns
unfolding config_frame steps big_endian
returns c =
    rw (c.seal.ensures, c.two_bytes-req.ensures, c.two_bytes-pre.ensures, c.two_bytes-ben.ensures, c.two_bytes-qen.ensures)
    (sealed-over (config_type ∷ row narrow (config_fields c.args.self)) 0 0)
