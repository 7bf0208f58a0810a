-- `trace_writer::listing::Listing::put_entries` meets its contract: after k turns the first k entries are written, and `offset` is that of body k.
use mathlib.Core.Path.{◌≡◌}
use mathlib.Core.List.{◌++◌}
use Prim.Native.Nat.{◌+◌, ◌*◌, ◌≤◌}
use lib.ListN.{length, drop}
use Rattle.laws.specs.Parts.{parts}
use Rattle.trace_parts.specs.Layout.{contents_len}
use Rattle.trace_writer.specs.Writer.{start_of, entry_bytes, entry_for}
use Rattle.trace_writer.proofs.listing.Listing.put_entries.Given as goal

abbrev pub invariant-loop-k : goal.invariant-loop-k
invariant-loop-k l =
    let slots = l.self.slots.now in
    (l.offset ≡ contents_len (length slots) + start_of l.self.ports slots l.k) × (start_of l.self.ports slots l.k ≤ l.k * 65536)
    × (l.out ≡ parts (λ j. entry_bytes (entry_for l.self.ports l.self.firsts.now slots j)) l.k ++ drop (l.k * 10) l.initial.out) × (length l.out ≡ length l.initial.out)
