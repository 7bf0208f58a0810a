-- Cells of w bytes in a pool: where one lies, and what a copy to its place leaves.
use mathlib.Core.Path.{◌≡◌, ap, ◌∙◌}
use mathlib.Core.List.{List, ◌++◌}
use Prim.Native.Nat.{ℕ, ◌+◌, ◌*◌, ◌-◌, ◌≤◌, ◌<◌}
use native.Mathlib.Nat.{mul-le-mul_right, suc-mul}
use native.Mathlib.Omega.{arith}
use lib.ListN.{length, take, drop, length-append, length-drop}
use lib.Seq.{length-take-le}
use borrow.Rule.Slice.PartMut.{Post-is, put_mid}
use Rattle.queue_records.specs.Queue.{cell_at, stored}

-- cell x of y lies in the pool
pub cell_room : (w x y len : ℕ) → x < y → y * w ≤ len → x * w + w ≤ len
cell_room w x y len h e = omega (arith, mul-le-mul_right w h, suc-mul x w)

pub length_stored : (w : ℕ) (pool : List ℕ) (x : ℕ) (s : List ℕ) → length s ≡ w → x * w + w ≤ length pool → length (stored w pool x s) ≡ length pool
unfolding stored
length_stored w pool x s long room =
    length-append (take (x * w) pool) (s ++ drop (x * w + w) pool)
    ∙ rw (length-append s (drop (x * w + w) pool), length-take-le (x * w) pool (omega arith), length-drop, long) (omega arith)

pub length_cell : (w : ℕ) (pool : List ℕ) (x : ℕ) → x * w + w ≤ length pool → length (cell_at w pool x) ≡ w
length_cell w pool x room = length-take-le w (drop (x * w) pool) (simp length-drop (omega arith))

-- a copy to cell x of the pool
pub copied_in : (w x : ℕ) (pool s : List ℕ) → put_mid (x * w) (x * w + w - x * w) pool s ≡ stored w pool x s
unfolding stored
copied_in w x pool s = ap (λ (l : List ℕ). take (x * w) pool ++ (s ++ l)) (Post-is (x * w) (x * w + w) pool (omega arith))
