-- `import_steps::taking::Import::fits` meets its contract.
use Rattle.import_steps.specs.Taking.{fits}
use Rattle.import_steps.proofs.taking.Import.fits.Goals as goal

pub returns : goal.returns
unfolding fits
returns c = rw (c.new_body.ensures, c.stale.ensures, c.packet_len.ensures)
