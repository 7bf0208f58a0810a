-- What is imported of a capture, in one list: each line names theorems, which stand where they are proved, over definitions in specs/. They are of
-- every call on bytes that answers 0.

-- The first bytes of the output, as many as the call answers, are a trace, and it replays.
pub use Rattle.imported.proofs.Imports.{replays}
-- Its bodies: the offsets of each continue as if no slot had been served in the gap before it, it has at most 360 slots, and the next begins only
-- after 360 or at a gap.
pub use Rattle.imported.proofs.Imports.{in_bodies}
-- The wrap from 4294967295 to 0 is no gap, as a law and computed.
pub use Rattle.imported.proofs.Wrap.{next_is_no_gap, over_the_wrap, gap_at_the_wrap}
-- Its slots are the captured slots, each once and in their order, and their blocks hold for each host the first frame captured and nothing else.
pub use Rattle.imported.proofs.Captured.{captured}
-- Resent frames change nothing but their count: captures whose records that are not resent are the same have one trace, and the count is how many
-- records are resent.
pub use Rattle.imported.proofs.Kept.{resent_changes_nothing}
pub use Rattle.imported.proofs.Resent.{resent_counted}
