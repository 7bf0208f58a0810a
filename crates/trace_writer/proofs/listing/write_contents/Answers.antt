-- `trace_writer::listing::write_contents` meets its contract.
use mathlib.Core.Path.{◌∙◌}
use lib.Seq.{length-take-le}
use Rattle.std.proofs.lemmas.Result.{err_from_is_err_and}
use Rattle.lent.proofs.Writes.{unfit, short, wrote}
use Rattle.trace_writer.proofs.listing.write_contents.Goals as goal

pub returns-in_err-list : goal.returns-in_err-list
returns-in_err-list c =
    let p = err_from_is_err_and c.from_residual.result c.from_residual.ensures.1 in
    rw (p.1, p.2, c.in_err-list.ensures.0) (unfit _ _ _ _ c.in_err-list.ensures.1)

pub returns-then-out-len : goal.returns-then-out-len
returns-then-out-len c =
    let (n, f, s) = c.in_ok-list.ensures in
    short _ _ _ _ (rw (n, f, s) at c.in_ok-list.list.fits) (rw (c.len-len.ensures.0, s) at c.if-out-len.true)

pub put-requires : goal.put-requires
put-requires c = length-take-le _ _ c.if-out-len.false ∙ c.len-len.ensures.0

pub returns : goal.returns
returns c =
    let (n, f, s) = c.in_ok-list.ensures in
    wrote _ _ _ _ (rw (n, f, s) at c.in_ok-list.list.fits) (rw (c.len-len.ensures.0, s) at c.if-out-len.false) _ (rw (c.put.ensures, c.len-len.ensures.0, n, f, s))
