-- What the diagonal-first form is worth, in one list: each line names theorems, which stand where they are proved, over definitions in specs/.
-- `m` is the greatest port count.

-- Of W served calls, all in this mode and a pair waiting in each, W / (n + 1) or more connect it, so one in any n + 1; and W / n² times n, so n in
-- any n². Slot calls on frames, the card's lent calls, and C calls.
pub use Rattle.diagonals.proofs.Shares.{once, n_times, lent_once, lent_n_times, c_once, c_n_times}
-- For every n of 2 or more others' requests can keep a pair out for n served slots, so that n + 1 is the best bound.
pub use Rattle.diagonals.proofs.KeptOut.{kept_out, c_kept_out}
