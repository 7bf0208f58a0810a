-- The demands, in one list: each line names theorems, which stand where they are proved, over definitions in specs/. A slot call is
-- `SlotCall` of specs/SlotCall.antt: what the step by value and the card's lent call promise to give. `m` is the greatest port count.

-- Demand 1. Each number is the first row of document 01's table that applies.
pub use Rattle.demands.proofs.SlotCalls.{number_by_table}
-- A declined call changes nothing; only the slot due is served, and others get 3 or 4; one that comes again gets 3.
pub use Rattle.demands.proofs.SlotRefusal.{declined_does_nothing, served_when_due, other_declined, stale, early}
pub use Rattle.demands.proofs.Resent.{resent_stale}
-- A call in order is served, and advances the state; a fresh state is in order, and serves first the slot that its caller named.
pub use Rattle.demands.proofs.SlotServed.{served-in_order, served_advances}
pub use Rattle.demands.proofs.Started.{fresh-in_order, fresh_serves, fresh_serves_only}
-- Demand 2. Nothing from nowhere: a connection is an enabled heard host's, first claimed or live, and of ports of one operator. What was given is connected.
pub use Rattle.demands.proofs.SlotConnections.{nothing_from_nowhere, within_operators, absent_unconnected, given-connected}
-- Who is enabled: disabled only by two different heard hosts, so that one host by itself, whatever it votes, changes nothing.
pub use Rattle.demands.proofs.Hosts.{present_exactly, one_disables_nobody}
pub use Rattle.demands.proofs.SlotHosts.{enabled_exactly}
pub use Rattle.demands.proofs.OneHost.{one_port_enabled, one_vote_changes_nothing, one_vote_changes_no_grant}
-- A missing frame is unheard, and qen is unused.
pub use Rattle.demands.proofs.SlotHosts.{missing_unheard}
pub use Rattle.demands.proofs.Qen.{qen_unused, qen_unused_output}
-- The choice is what the rule says, and the rule names one; rule 3, rule 5, and both choices of rule 6; the number of rounds.
pub use Rattle.demands.proofs.Choice.{choice-chosen, chosen-once}
pub use Rattle.demands.proofs.Rules.{planner-chosen, winner-favoured, winner-chosen, grants-chosen, accepted-chosen}
pub use Rattle.demands.proofs.Rounds.{rounds-on_tables, rounds_run, rounds-once}
-- A round with a live request joins a pair, so that the live requests fall, and there are no more rounds than ports. A limit of as many
-- leaves no live request, nor do the other modes: the initiator or the target of each request is held.
pub use Rattle.demands.proofs.Progress.{round_joins, round_falls}
pub use Rattle.demands.proofs.Rounds.{each_joins}
pub use Rattle.demands.proofs.NoneLeft.{leaves_none, busy_on_tables, busy_in_block}
-- What each host is told: its grant frame in the output of a served slot, field by field; it names all that the host holds, and no more. No
-- byte beyond the frames is touched.
pub use Rattle.demands.proofs.SlotGrants.{grant_told, held_named, named_held, beyond_untouched}
-- Frames: what is written reads back, what is read is what would be written, and no two frames read alike.
pub use Rattle.frames.proofs.Trips.{config_reads_back, config_writes_back, config_alike}
pub use Rattle.frames.proofs.Trips.{held_reads_back, held_writes_back, held_alike, held_in_form_lem, held_says}
-- Type 2, which is only read: a frame of fields in form reads as them, and what is read is that frame.
pub use Rattle.frames.proofs.GrantLaws.{grant_reads, grant_writes}
pub use Rattle.frames.proofs.Trips.{grant_alike}
-- Demand 3. The share: of W served slots in which a pair waits, W / n² or more connect it, and say so in its host's grant frame.
pub use Rattle.demands.proofs.SlotShare.{share, waiting_named}
pub use Rattle.demands.proofs.Share.{share as share-on-tables}
-- No target twice: no target is in two initiators' sets, and no two grant frames name one.
pub use Rattle.demands.proofs.SlotConnections.{no_target_twice}
pub use Rattle.demands.proofs.SlotGrants.{no_target_named_twice}
-- Demands 1 and 3 over histories of the card's calls, each lent the state and the output: what was seen behind both references.
pub use Rattle.demands.proofs.LentHistory.{lent_throughout, lent_resent, lent_share}
