use Rattle.std.proofs.Common.{rules, sym, ◌∙◌, mod-eq_of_lt, w16, Fits, get_or}
use Rattle.columns.specs.Transpose.{column}
use Rattle.columns.proofs.transpose.column.Goals as goal

pub returns : goal.returns
unfolding column
returns c = let fits : Fits w16 (get_or c.args.columns.now c.args.t 0) = search rules in c.from.ensures ∙ sym (mod-eq_of_lt fits.fits)
