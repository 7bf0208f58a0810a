-- `imports::capture::Capture::lay_bodies` meets its contract: after i turns the first i records are laid.
use Rattle.std.proofs.Common.{◌≡◌, ◌-◌, length, refl, sym, ◌∙◌, add-one, le_refl, arith}
use Rattle.std.proofs.lemmas.List.{length_push}
use Rattle.laws.specs.Steps.{steps}
use Rattle.refusals.proofs.Unique.{refused_is_not_done}
use Rattle.frames.specs.Part.{most_ports}
use Rattle.captures.specs.Capture.{low_first, record_at}
use Rattle.import_steps.specs.Taking.{known, taken}
use Rattle.import_steps.specs.Laying.{lay_number}
use Rattle.imports.specs.Cut.{cut}
use Rattle.imports.specs.Passes.{ended_at}
use borrow.Rule.Slice.PartMut.{mid_of, mid_len}
use Rattle.imports.proofs.Along.{known_at, declined_at, laid_none, lay_zero, closes, laid_turn, shut_last, start-within}
use Rattle.imports.proofs.Lent.{ended-within}
use Rattle.imports.proofs.Pieces.{left_all, record_is, left_next, one_of, left_none}
use Rattle.imports.proofs.capture.Capture.lay_bodies.Goals as goal

pub loop-record-init : goal.loop-record-init
unfolding cut steps
loop-record-init c =
    let s = c.args.self in
    let whole = c.chunks_exact-record-items.ensures in
    (rw c.into_iter-record-iterator.ensures.into_iter_gives (left_all _ s.bytes.now _ _ (whole.size ∙ c.record_len-len.ensures.0) whole.rest s.headed), refl, laid_none (low_first s.order) s.bytes.now (known s.start) s.fresh c.args.region.now)

pub returns-in_err-q : goal.returns-in_err-q
returns-in_err-q c =
    let l = c.loop-record in
    let s = c.args.self in
    let (same, (first, long), _) = c.in-Some.ensures.steps in
    let piece = record_is _ s.bytes.now _ _ (length l.yielded) _ _ _ l.invariant.0 same first long in
    let one = one_of _ s.bytes.now _ _ (length l.yielded) _ _ _ l.invariant.0 same first long in
    let why = declined_at (low_first s.order) s.bytes.now (known s.start) s.fresh (length l.yielded) _ c.in_err-q.field-0.0 one (rw (l.invariant.1, piece) at c.in_err-q.ensures) in
    absurd (refused_is_not_done c.in_err-q.field-0.0 (why ∙ c.requires.0))

pub end_body-start-requires : goal.end_body-start-requires
end_body-start-requires c =
    let l = c.loop-record in
    let s = c.args.self in
    let i = length l.yielded in
    let (same, (first, long), _) = c.in-Some.ensures.steps in
    let piece = record_is _ s.bytes.now _ _ i _ _ _ l.invariant.0 same first long in
    let one = one_of _ s.bytes.now _ _ i _ _ _ l.invariant.0 same first long in
    let is : known c.in_ok-q.q ≡ taken most_ports (low_first s.order) (cut most_ports (low_first s.order) s.start.state.ports s.bytes.now (known s.start) i).known (record_at s.start.state.ports s.bytes.now i) = rw (l.invariant.1, piece) at c.in_ok-q.ensures in
    let closes-now = closes (low_first s.order) s.bytes.now (known s.start) s.fresh i _ l.start c.args.region.now l.region one c.requires.1 l.auto.region l.invariant.2 (known l.p) (known c.in_ok-q.q) l.invariant.1 is in
    closes-now

pub slice_bounds-lay_record-count : goal.slice_bounds-lay_record-count
slice_bounds-lay_record-count c =
    let l = c.loop-record in
    let s = c.args.self in
    let i = length l.yielded in
    let (same, (first, long), _) = c.in-Some.ensures.steps in
    let piece = record_is _ s.bytes.now _ _ i _ _ _ l.invariant.0 same first long in
    let one = one_of _ s.bytes.now _ _ i _ _ _ l.invariant.0 same first long in
    let is : known c.in_ok-q.q ≡ taken most_ports (low_first s.order) (cut most_ports (low_first s.order) s.start.state.ports s.bytes.now (known s.start) i).known (record_at s.start.state.ports s.bytes.now i) = rw (l.invariant.1, piece) at c.in_ok-q.ensures in
    let closes-now = closes (low_first s.order) s.bytes.now (known s.start) s.fresh i _ l.start c.args.region.now l.region one c.requires.1 l.auto.region l.invariant.2 (known l.p) (known c.in_ok-q.q) l.invariant.1 is in
    let within = ended-within (known l.p) (known c.in_ok-q.q) l.start (length l.region) closes-now.0 closes-now.2 in
    omega (arith, c.end_body-start.ensures.0, within, c.end_body-start.auto.region)

pub slice_bounds-lay_record-start : goal.slice_bounds-lay_record-start
slice_bounds-lay_record-start c = omega (arith, slice_bounds-lay_record-count c)

pub returns-in_err-lay_record : goal.returns-in_err-lay_record
returns-in_err-lay_record c =
    let l = c.loop-record in
    let s = c.args.self in
    let i = length l.yielded in
    let (same, (first, long), _) = c.in-Some.ensures.steps in
    let piece = record_is _ s.bytes.now _ _ i _ _ _ l.invariant.0 same first long in
    let one = one_of _ s.bytes.now _ _ i _ _ _ l.invariant.0 same first long in
    let is : known c.in_ok-q.q ≡ taken most_ports (low_first s.order) (cut most_ports (low_first s.order) s.start.state.ports s.bytes.now (known s.start) i).known (record_at s.start.state.ports s.bytes.now i) = rw (l.invariant.1, piece) at c.in_ok-q.ensures in
    let lent = mid_len c.end_body-start.result (length c.end_body-start.new.region) c.end_body-start.new.region (le_refl _) in
    let at-end = rw (l.invariant.1, is) at c.end_body-start.ensures.0 in
    let size : length (mid_of c.end_body-start.result (length c.end_body-start.new.region - c.end_body-start.result) c.end_body-start.new.region) ≡ length c.args.region.now - ended_at (cut most_ports (low_first s.order) s.start.state.ports s.bytes.now (known s.start) i).known (taken most_ports (low_first s.order) (cut most_ports (low_first s.order) s.start.state.ports s.bytes.now (known s.start) i).known (record_at s.start.state.ports s.bytes.now i)) l.start = omega (arith, lent, at-end, c.end_body-start.auto.region, l.auto.region) in
    let none : lay_number most_ports (low_first s.order) (known l.p) c.in-Some.record.now (mid_of c.end_body-start.result (length c.end_body-start.new.region - c.end_body-start.result) c.end_body-start.new.region) ≡ 0 = rw (l.invariant.1, piece) (lay_zero (low_first s.order) s.bytes.now (known s.start) s.fresh i _ l.start c.args.region.now l.region _ one c.requires.0 c.requires.1 l.invariant.2 size) in
    absurd (refused_is_not_done c.in_err-lay_record.field-0.0 (c.in_err-lay_record.ensures.0 ∙ none))

pub loop-record-preserved : goal.loop-record-preserved
loop-record-preserved c =
    let l = c.loop-record in
    let s = c.args.self in
    let i = length l.yielded in
    let (same, (first, long), _) = c.in-Some.ensures.steps in
    let piece = record_is _ s.bytes.now _ _ i _ _ _ l.invariant.0 same first long in
    let one = one_of _ s.bytes.now _ _ i _ _ _ l.invariant.0 same first long in
    let is : known c.in_ok-q.q ≡ taken most_ports (low_first s.order) (cut most_ports (low_first s.order) s.start.state.ports s.bytes.now (known s.start) i).known (record_at s.start.state.ports s.bytes.now i) = rw (l.invariant.1, piece) at c.in_ok-q.ensures in
    rw (length_push l.yielded c.in-Some.record, add-one i) (
      left_next _ s.bytes.now _ _ i _ _ _ l.invariant.0 same first long,
      is ∙ sym (known_at (low_first s.order) s.bytes.now (known s.start) s.fresh i),
      laid_turn (low_first s.order) s.bytes.now (known s.start) s.fresh i _ l.start _ c.args.region.now l.region _ _ _ one c.requires.0 c.requires.1 l.invariant.2 (known l.p) (known c.in_ok-q.q) l.invariant.1 is piece c.end_body-start.ensures.0 c.end_body-start.ensures.1 c.in_ok-lay_record.ensures.1,
    )

pub close_last-requires : goal.close_last-requires
close_last-requires c = start-within _ _ _ _ _ c.loop-record.invariant.2

pub returns : goal.returns
returns c =
    let l = c.loop-record in
    let s = c.args.self in
    let all = left_none _ s.bytes.now _ (length l.yielded) _ l.invariant.0 c.in-None.ensures.steps.1.0 in
    let laid = rw all at l.invariant.2 in
    let known_all = rw all at l.invariant.1 in
    (refl, c.close_last.ensures ∙ rw known_all (shut_last (low_first s.order) s.bytes.now (known s.start) s.fresh _ _ c.args.region.now _ c.requires.1 laid))
