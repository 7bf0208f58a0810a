-- `import_steps::step::Step::open_block` meets its contract.
use Rattle.std.proofs.Common.{◌≡◌, ◌*◌, cond, refl, arith}
use Rattle.laws.specs.Bytes.{big_endian}
use Rattle.trace_parts.specs.Layout.{block_len}
use Rattle.import_steps.specs.Taking.{known, next_slot}
use Rattle.import_steps.specs.Laying.{over, opened, fields_now}
use Rattle.trace_writer.specs.Sealing.{field_bytes}
use Rattle.import_steps.proofs.Over.{over_blank}
use Rattle.import_steps.proofs.Placing.{block_last}
use Rattle.import_steps.proofs.step.Step.open_block.Goals as goal
use Rattle.import_steps.proofs.step.Step.open_block.Goals.{then-not-next_slot, else-not-next_slot}

pub returns-then-same_slot : goal.returns-then-same_slot
unfolding opened
returns-then-same_slot c = rw (← c.same_slot.ensures, c.if-same_slot.true)

pub returns : goal.returns
unfolding opened block_len over big_endian
returns c =
    let s = c.args.self in
    let p = known s.before in
    let last = block_last p _ _ s.taken in
    let begun : c.if-not-next_slot.body ≡ cond (next_slot p s.packet) c.args.body.now (over 0 (field_bytes (fields_now p)) c.args.body.now) = elim c.if-not-next_slot.branch [
      | then-not-next_slot w ↦ rw (w.body-is, ← c.next_slot.ensures, w.if-not-next_slot.true, w.copy_from_slice.ensures.after, w.field_bytes.ensures, w.fields.ensures) refl
      | else-not-next_slot w ↦ rw (w.body-is, ← c.next_slot.ensures, w.if-not-next_slot.false) refl
    ] in
    rw (← c.same_slot.ensures, c.if-same_slot.false, ← begun, ← c.last_block.ensures)
    (over_blank c.last_block.result (s.before.state.ports * 11) c.end.result c.if-not-next_slot.body _ (omega (arith, c.last_block.ensures, c.end.ensures.0, last)) (omega (arith, c.end.ensures.0, c.requires, c.if-not-next_slot.auto.body)) (c.fill.ensures.after (λ y e. e)))
