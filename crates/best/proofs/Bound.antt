-- How far from the best, in one list: each line names theorems, which stand where they are proved, over definitions in specs/. `m` is the greatest
-- port count.

-- No conflict-free set of a slot's live requests has more than twice as many pairs as the slot joins after its planned stage: of central and of
-- diagonal-first slots, and of distributed slots whose limit is n or more. Slot calls on frames, and calls on tables. How many it joins is one number.
pub use Rattle.best.proofs.Half.{half, half_on_tables}
pub use Rattle.best.proofs.Counting.{exactly_one}
-- Two is the least such number, for each n of 2 or more and each mode by itself: wherever the live requests form a cross at (I, J) one pair is joined
-- where two could be, and there is such a slot.
pub use Rattle.best.proofs.Cross.{cross_on_frames, cross_on_tables}
pub use Rattle.best.proofs.Least.{twice_reached, least, least-on_tables}
-- Case B: three could be joined, two are. And a limit below n: three could be, one is.
pub use Rattle.best.proofs.Worked.{case_b, limit_too_low}
