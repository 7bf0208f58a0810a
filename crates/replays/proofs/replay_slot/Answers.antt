use mathlib.Core.Path.{refl, ap, ◌∙◌}
use mathlib.Core.List.{List}
use Prim.Native.Nat.{ℕ}
use denote.Ref.{Bor}
use Rattle.frames.specs.Part.{most_ports}
use Rattle.refusals.specs.Numbers.{Answer}
use Rattle.trace_parts.specs.Body.{no_fields}
use Rattle.trace_parts.specs.declared.body.Fields.{Fields}
use Rattle.trace_parts.proofs.Defaults.{fields_default}
use Rattle.trace_parts.proofs.Shown.{or_zeros, part_or_empty}
use Rattle.replays.proofs.Replaying.{slot_replayed}
use Rattle.replays.proofs.replay_slot.Goals as goal

pub returns : goal.returns
returns c =
    let fields = or_zeros no_fields _ fields_default _ _ c.unwrap_or_default-fields.ensures ∙ ap (λ (a : Answer Fields). a.fields) c.read_fields.ensures in
    let block = ap (λ (b : Bor (List ℕ)). b.now) c.unwrap_or-block.ensures ∙ part_or_empty _ _ _ _ _ refl c.slot_block.ensures in
    slot_replayed most_ports _ _ _ _ _ _ _ _ _ fields c.from.ensures block c.unanswered.ensures
