-- Two operators on one shelf (document 02, item 9), in one list: each line names theorems, which stand where they are proved, over definitions in specs/.
-- `m` is the greatest port count, and `a` the operator.

-- Whatever the other operator's hosts send, in every mode: the number returned, the next state and the operator's connections are the same, and so are the
-- bytes of its hosts' grant frames; what it sees of the output is the same in declined slots too. The rounds are excepted: they can differ.
pub use Rattle.operators.proofs.Frames.{non_interference, same_grants, same_output}
pub use Rattle.operators.proofs.CCalls.{c_seen}
pub use Rattle.operators.proofs.Worked.{rounds_differ}
-- So are two histories of calls in which its hosts send the same, call by call: of slot calls on frames, of the card's lent calls, and of C calls.
pub use Rattle.operators.proofs.Histories.{histories, lent_histories, c_histories}
-- No connection joins ports of different operators, and no call changes the owners.
pub use Rattle.demands.proofs.SlotConnections.{within_operators}
pub use Rattle.demands.proofs.Histories.{owners_kept}
-- With every port given to one operator nothing changes: the slot and the sets asked are those of a shelf without owners.
pub use Rattle.operators.proofs.One.{one_operator, one_operator_output, one_operator_asked, none_owned}
-- A fresh state has the operators that its caller named, and operator 0 at or above n; 15 for any other number.
pub use Rattle.ports.proofs.Started.{fresh_is, owner_is, owner_past, other_operator}
