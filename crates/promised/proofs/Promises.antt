-- The demands over histories of C calls on one lent state, in one list: each line names theorems, which stand where they are proved, over
-- definitions in specs/. A C call is `CCall` of specs/Call.antt, as it was seen; the state is a list of bytes, the first of which are lent.

-- What a call's promise is worth rests on this: the contract of `bellacush_slot` says that each call keeps its promise.
pub use Rattle.promised.proofs.Contract.{contract}
-- Demand 1, of each call of a history: 8 for wrong lengths and the table's number otherwise, 3 or 4 for a slot that is not due, every lent byte
-- kept by a declined call; and of a served one, no target twice in the table's bytes (demand 3).
pub use Rattle.promised.proofs.Histories.{all_demanded}
-- A slot that comes again gets 3, whatever calls come between. A call in order on a fresh state's bytes is served in the slot that they name.
pub use Rattle.promised.proofs.Histories.{resent_stale}
pub use Rattle.promised.proofs.Pinned.{fresh_bytes, fresh_reads, fresh_serves_in_bytes}
-- Demand 2: a served call is a served slot call on frames, so that `demands` speaks of its bytes; its word has the rounds of rule 6.
pub use Rattle.promised.proofs.Calls.{served_call}
pub use Rattle.promised.proofs.Pinned.{rounds_in-word}
-- Demand 3, the share, in the bytes of the table and of the output.
pub use Rattle.promised.proofs.Histories.{share}
-- What pins the definitions down: a state and a word read back; the mode; qen is unused; cases F and I as C calls, byte for byte.
pub use Rattle.table_bytes.proofs.Trips.{state_reads_back, due_small, owners_small}
pub use Rattle.bellacush.proofs.Trips.{word_number, word-rounds}
pub use Rattle.demands.proofs.SlotCalls.{limit_exactly}
pub use Rattle.promised.proofs.Pinned.{qen_unused_in_bytes}
pub use Rattle.promised.proofs.Worked.{worked}
