-- `imports::capture::Capture::scan` meets its contract: after i turns p is known of the first i records, and their bodies are noted.
use Rattle.std.proofs.Common.{◌≡◌, suc, length, refl, sym, ap, ◌∙◌, add-one}
use Rattle.std.proofs.lemmas.List.{length_push}
use Rattle.std.proofs.lemmas.Result.{err_from_is_err_and}
use Rattle.laws.specs.Steps.{steps}
use Rattle.frames.specs.Part.{most_ports}
use Rattle.captures.specs.Capture.{low_first}
use Rattle.import_steps.specs.Taking.{Known, known, noted}
use Rattle.imports.specs.Cut.{cut}
use Rattle.imports.proofs.Along.{known_at, declined_at, firsts_next, counts_next, noted_first}
use Rattle.imports.proofs.Noting.{length_noted}
use Rattle.imports.proofs.Pieces.{left_all, record_is, left_next, one_of, left_none}
use Rattle.imports.proofs.capture.Capture.scan.Goals as goal

pub loop-record-init : goal.loop-record-init
unfolding cut steps
loop-record-init c =
    let a = c.args in
    let whole = c.chunks_exact-record-items.ensures in
    let start = known a.self.start in
    (rw c.into_iter-record-iterator.ensures.into_iter_gives (left_all _ a.self.bytes.now _ _ (whole.size ∙ c.record_len-len.ensures.0) whole.rest a.self.headed), refl, c.requires.0, c.requires.1, noted_first (low_first a.self.order) a.self.bytes.now start a.self.fresh _ a.firsts.now, noted_first (low_first a.self.order) a.self.bytes.now start a.self.fresh _ a.slots.now)

pub returns-in_err-p-clause-number : goal.returns-in_err-p-clause-number
returns-in_err-p-clause-number c =
    let l = c.loop-record in
    let s = c.args.self in
    let (same, (first, long), _) = c.in-Some.ensures.steps in
    let piece = record_is _ s.bytes.now _ _ (length l.yielded) _ _ _ l.invariant.0 same first long in
    let one = one_of _ s.bytes.now _ _ (length l.yielded) _ _ _ l.invariant.0 same first long in
    let why = err_from_is_err_and c.from_residual.result c.from_residual.ensures.1 in
    rw (why.1, why.2)
    (declined_at (low_first s.order) s.bytes.now (known s.start) s.fresh (length l.yielded) _ c.in_err-p.field-0.0 one (rw (l.invariant.1, piece) at c.in_err-p.ensures))

pub loop-record-preserved : goal.loop-record-preserved
loop-record-preserved c =
    let l = c.loop-record in
    let s = c.args.self in
    let i = length l.yielded in
    let (same, (first, long), _) = c.in-Some.ensures.steps in
    let piece = record_is _ s.bytes.now _ _ i _ _ _ l.invariant.0 same first long in
    let low = low_first s.order in
    let taken : known c.in_ok-p.p ≡ (cut most_ports low s.start.state.ports s.bytes.now (known s.start) (suc i)).known =
    rw (l.invariant.1, piece) at c.in_ok-p.ensures ∙ sym (known_at low s.bytes.now (known s.start) s.fresh i) in
    let firsts = c.note_body.ensures.0 ∙ ap (λ (q : Known). noted q.bodies q.first l.firsts) taken in
    let slots = c.note_body.ensures.1 ∙ ap (λ (q : Known). noted q.bodies q.slots l.slots) taken in
    rw (length_push l.yielded c.in-Some.record, add-one i) (
      left_next _ s.bytes.now _ _ i _ _ _ l.invariant.0 same first long,
      taken,
      ap length firsts ∙ length_noted _ _ l.firsts ∙ l.invariant.2,
      ap length slots ∙ length_noted _ _ l.slots ∙ l.invariant.3,
      rw firsts (firsts_next low s.bytes.now (known s.start) s.fresh i l.firsts l.invariant.2 l.invariant.4),
      rw slots (counts_next low s.bytes.now (known s.start) s.fresh i l.slots l.invariant.3 l.invariant.5),
    )

pub returns-clause-number : goal.returns-clause-number
returns-clause-number c =
    let l = c.loop-record in
    let all = left_none _ c.args.self.bytes.now _ (length l.yielded) _ l.invariant.0 c.in-None.ensures.steps.1.0 in
    rw all at (ap (λ (q : Known). q.number) l.invariant.1)

pub returns-clause-known : goal.returns-clause-known
returns-clause-known c =
    let l = c.loop-record in
    let all = left_none _ c.args.self.bytes.now _ (length l.yielded) _ l.invariant.0 c.in-None.ensures.steps.1.0 in
    let is = rw all at l.invariant.1 in
    let bodies = ap (λ (q : Known). q.bodies) is in
    (is, rw bodies (rw all at l.invariant.4), rw bodies (rw all at l.invariant.5))
