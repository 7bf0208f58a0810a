-- `trace_writer::listing::Listing::put` meets its contract.
use mathlib.Core.Path.{◌∙◌}
use Prim.Native.Nat.{◌*◌}
use native.Mathlib.Omega.{arith}
use lib.ListN.{length, drop, length-drop}
use Rattle.laws.specs.Bytes.{big_endian}
use Rattle.trace_writer.specs.Writer.{head_bytes, entries_for, contents_of}
use Rattle.trace_writer.proofs.Written.{sealed_parts}
use Rattle.trace_writer.proofs.listing.Listing.put.Goals as goal

pub returns : goal.returns
unfolding contents_of big_endian
returns c =
    let self = c.args.self in
    let count = length self.slots.now in
    let entries = c.split_at_mut-head.result.1.now in
    sealed_parts (head_bytes self.ports count) (entries_for self.ports self.firsts.now self.slots.now) (drop (count * 10) entries) _ _ _ (c.copy_from_slice.ensures.after ∙ rw c.count.ensures at c.head_bytes.ensures) c.put_entries.ensures (length-drop (count * 10) entries ∙ omega (arith, c.requires, c.split_at_mut-head.ensures.back_len)) c.seal.ensures
