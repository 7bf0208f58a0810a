-- `salvages::file::Body::put_kept` meets its contract.
use mathlib.Core.Path.{sym, ap, ◌∙◌}
use native.Mathlib.Omega.{arith}
use lib.ListN.{length}
use Rattle.traces.specs.Trace.{body_at}
use Rattle.body_fates.proofs.Sound.{kept_seen}
use Rattle.salvages.proofs.KeptSound.{dropped, taken}
use Rattle.salvages.proofs.Puts.{put_none, put_some}
use Rattle.salvages.proofs.file.Body.put_kept.Goals as goal

pub slice_bounds-copy_from_slice-end : goal.slice_bounds-copy_from_slice-end
slice_bounds-copy_from_slice-end c =
    let file = c.args.self.file.bytes.now in
    let kept = sym (kept_seen c.args.fate) ∙ sym c.if-eq.ensures in
    omega (arith, ap length c.bytes-body.ensures, ap length (taken _ file _ (body_at file) _ c.requires.0 kept), c.requires.1)

pub returns-then-eq : goal.returns-then-eq
returns-then-eq c =
    let file = c.args.self.file.bytes.now in
    let kept = sym (kept_seen c.args.fate) ∙ sym c.if-eq.ensures in
    rw c.copy_from_slice.ensures.after (put_some c.args.at _ _ c.args.out.now (c.bytes-body.ensures ∙ sym (taken _ file _ (body_at file) _ c.requires.0 kept)))

pub returns : goal.returns
returns c =
    let file = c.args.self.file.bytes.now in
    put_none _ _ _ (dropped _ file _ (body_at file) _ c.requires.0 (sym (kept_seen c.args.fate) ∙ sym c.if-eq.ensures))
