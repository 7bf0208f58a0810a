-- A cell is written: it is those bytes, and every other cell is what it was.
use mathlib.Core.Path.{◌≡◌, sym, ap, ◌∙◌}
use mathlib.Core.Logic.{◌⊎◌, inl, inr, ⊎_elim}
use mathlib.Core.List.{List, ◌++◌, append_assoc}
use Prim.Native.Nat.{ℕ, min, ◌+◌, ◌*◌, ◌-◌, ◌≤◌, ◌<◌}
use native.Mathlib.Nat.{mul-le-mul_right, suc-mul}
use native.Mathlib.Decide.{dec_lt}
use native.Mathlib.Omega.{arith}
use lib.ListN.{length, get_or, take, drop, length-append, length-take, length-drop, get_or-append}
use lib.Seq.{length-take-le, take_at, drop_at, get_or-take, get_or-drop, get_or-append-add, ext_get_or}
use Rattle.queue_records.specs.Queue.{cell_at, stored}
use Rattle.queue_records.proofs.Pools.{length_stored}

module _ (w : ℕ) (pool : List ℕ) (x : ℕ) (s : List ℕ) (long : length s ≡ w) (room : x * w + w ≤ length pool) where
  front : length (take (x * w) pool) ≡ x * w
  front = length-take-le (x * w) pool (omega arith)

  pub new_cell : cell_at w (stored w pool x s) x ≡ s
  unfolding stored
  new_cell = ap (take w) (drop_at (take (x * w) pool) (s ++ drop (x * w + w) pool) (x * w) front) ∙ take_at s (drop (x * w + w) pool) w long

  before_it : (k : ℕ) → k < x * w → get_or (stored w pool x s) k 0 ≡ get_or pool k 0
  unfolding stored
  before_it k h = get_or-append (take (x * w) pool) (s ++ drop (x * w + w) pool) 0 k (rw front h) ∙ get_or-take (x * w) pool k 0 h

  behind_it : (d : ℕ) → get_or (stored w pool x s) (x * w + w + d) 0 ≡ get_or pool (x * w + w + d) 0
  unfolding stored
  behind_it d =
      let both : length (take (x * w) pool ++ s) ≡ x * w + w = length-append (take (x * w) pool) s ∙ rw (front, long) in
      ap (λ (l : List ℕ). get_or l (x * w + w + d) 0) (sym (append_assoc (take (x * w) pool) s (drop (x * w + w) pool)))
      ∙ ap (λ k. get_or ((take (x * w) pool ++ s) ++ drop (x * w + w) pool) (k + d) 0) (sym both)
      ∙ get_or-append-add (take (x * w) pool ++ s) (drop (x * w + w) pool) d 0 ∙ get_or-drop (x * w + w) pool d 0

  -- a byte outside the cell
  pub outside : (k : ℕ) → (k < x * w) ⊎ (x * w + w ≤ k) → get_or (stored w pool x s) k 0 ≡ get_or pool k 0
  outside k = ⊎_elim (before_it k) (λ h. let e : x * w + w + (k - (x * w + w)) ≡ k = omega arith in rw e at (behind_it (k - (x * w + w))))

  pub other_cell : (y : ℕ) → (y ≡ x → ⊥) → cell_at w (stored w pool x s) y ≡ cell_at w pool y
  other_cell y other = ext_get_or 0 _ _ same_length same
    where
      same_length : length (cell_at w (stored w pool x s) y) ≡ length (cell_at w pool y)
      same_length =
          length-take w (drop (y * w) (stored w pool x s))
          ∙ ap (min w) (length-drop (y * w) (stored w pool x s) ∙ ap (λ z. z - y * w) (length_stored w pool x s long room) ∙ sym (length-drop (y * w) pool))
          ∙ sym (length-take w (drop (y * w) pool))

      apart : (j : ℕ) → j < w → Dec (y < x) → (y * w + j < x * w) ⊎ (x * w + w ≤ y * w + j)
      apart j h (yes l) = inl (omega (arith, mul-le-mul_right w l, suc-mul y w))
      apart j h (no l) = let g : x < y = omega arith in inr (omega (arith, mul-le-mul_right w g, suc-mul x w))

      same : (j : ℕ) → j < length (cell_at w (stored w pool x s) y) → get_or (cell_at w (stored w pool x s) y) j 0 ≡ get_or (cell_at w pool y) j 0
      same j h =
          let l : j < w = omega (arith, length-take w (drop (y * w) (stored w pool x s))) in
          get_or-take w (drop (y * w) (stored w pool x s)) j 0 l ∙ get_or-drop (y * w) (stored w pool x s) j 0
          ∙ outside (y * w + j) (apart j l (dec_lt y x))
          ∙ sym (get_or-take w (drop (y * w) pool) j 0 l ∙ get_or-drop (y * w) pool j 0)
