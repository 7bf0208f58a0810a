-- `trace_writer::sealing::seal_body` meets its contract.
use mathlib.Core.Path.{sym, ap, ◌∙◌}
use Prim.Native.Nat.{ℕ, ◌+◌}
use lib.Seq.{length-take-le}
use Rattle.laws.proofs.Tests.{in_range}
use Rattle.frames.specs.Part.{most_ports}
use Rattle.lent.proofs.Writes.{unfit, short, wrote}
use Rattle.trace_parts.specs.Layout.{body_len}
use Rattle.trace_writer.proofs.Fitting.{body_fits_lem}
use Rattle.trace_writer.proofs.Starts.{size_is}
use Rattle.trace_writer.proofs.sealing.seal_body.Goals as goal

pub returns-then-out-len : goal.returns-then-out-len
returns-then-out-len c =
    let fits = sym c.body_fits.ensures ∙ c.if-body_fits.true in
    let f = body_fits_lem most_ports _ _ _ _ fits in
    let is = size_is most_ports _ _ (in_range f.some f.ports) c.body_size-len.ensures.0 in
    short _ _ _ _ fits (rw is at c.if-out-len.true)

pub slice_bounds-put_body-end-then-body_fits : goal.slice_bounds-put_body-end-then-body_fits
slice_bounds-put_body-end-then-body_fits c = sym (length-take-le _ _ c.if-out-len.false)

pub put_body-requires : goal.put_body-requires
unfolding body_len
put_body-requires c =
    let f = body_fits_lem most_ports _ _ _ _ (sym c.body_fits.ensures ∙ c.if-body_fits.true) in
    let is = size_is most_ports _ _ (in_range f.some f.ports) c.body_size-len.ensures.0 in
    length-take-le _ _ c.if-out-len.false ∙ is ∙ ap (λ (k : ℕ). 3 + k + 2) (sym f.long)

pub returns-then-body_fits : goal.returns-then-body_fits
returns-then-body_fits c =
    let fits = sym c.body_fits.ensures ∙ c.if-body_fits.true in
    let f = body_fits_lem most_ports _ _ _ _ fits in
    let is = size_is most_ports _ _ (in_range f.some f.ports) c.body_size-len.ensures.0 in
    wrote _ _ _ _ fits (rw is at c.if-out-len.false) _ (rw (c.put_body.ensures, is))

pub returns : goal.returns
returns c = unfit _ _ _ _ (sym c.body_fits.ensures ∙ c.if-body_fits.false)
