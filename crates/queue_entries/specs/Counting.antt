-- How many cells the pair (i, t) holds: on shelves of at most m ports, with pools of at most c cells.
use Rattle.std.specs.Prelude.{ℕ, not, ◌||◌, cond, List, eqb, ltb, leb, length}
use Rattle.refusals.specs.Numbers.{Answer}
use Rattle.queue_records.specs.Records.{ports_of}
use Rattle.queue_records.specs.Order.{in_order}
use Rattle.queue_records.specs.Queue.{waiting}

module _ (m c : ℕ) (words : List ℕ) (i t : ℕ) where
  unfoldable pub count_number : ℕ
  count_number =
      cond (ltb (ports_of words) 1 || ltb m (ports_of words)) 1
      (cond (leb (ports_of words) i || leb (ports_of words) t) 17
      (cond (not (in_order m c words)) 17 0))

  unfoldable pub counted : Answer ℕ
  counted = record { number = count_number; fields = cond (eqb count_number 0) (length (waiting m words i t)) 0 }
