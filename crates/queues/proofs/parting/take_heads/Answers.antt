-- `queues::parting::take_heads` meets its contract.
use mathlib.Core.Path.{sym, ◌∙◌}
use Prim.Native.Nat.{◌-◌}
use native.Mathlib.Nat.{le_of_eq}
use borrow.Author.Rules.{rules}
use lib.ListN.{length, drop, length-drop}
use lib.Seq.{length-take-le}
use Rattle.frames.specs.Part.{most_ports}
use Rattle.queues.proofs.Partings.{gone_fit, joined}
use Rattle.queues.proofs.parting.take_heads.Goals as goal

pub slice_bounds-leavers-end : goal.slice_bounds-leavers-end
slice_bounds-leavers-end c =
    let p = c.part-kept in
    gone_fit most_ports c.args.sets c.args.entries.now p.result.0 p.ensures.0 p.new.entries p.ensures.2 p.result.1 c.requires (search rules)

pub slice_bounds-copy_from_slice-end-2 : goal.slice_bounds-copy_from_slice-end-2
slice_bounds-copy_from_slice-end-2 c =
    let p = c.part-kept in
    let few = gone_fit most_ports c.args.sets c.args.entries.now p.result.0 p.ensures.0 p.new.entries p.ensures.2 p.result.1 c.requires (search rules) in
    sym (length-take-le (length p.new.entries - p.result.0) p.result.1 few)

pub copy_from_slice-requires : goal.copy_from_slice-requires
copy_from_slice-requires c =
    let p = c.part-kept in
    let gone = length p.new.entries - p.result.0 in
    length-take-le gone (drop p.result.0 p.new.entries) (le_of_eq (sym (length-drop p.result.0 p.new.entries)))
    ∙ sym (length-take-le gone p.result.1 (gone_fit most_ports c.args.sets c.args.entries.now p.result.0 p.ensures.0 p.new.entries p.ensures.2 p.result.1 c.requires (search rules)))

pub returns : goal.returns
returns c =
    let p = c.part-kept in
    (p.ensures.0, joined most_ports c.args.sets c.args.entries.now p.result.0 p.ensures.0 p.new.entries p.ensures.2 p.result.1 _ p.ensures.1 c.copy_from_slice.ensures.after)
