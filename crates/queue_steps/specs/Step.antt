-- The scheduler's slot over the queues: on shelves of at most m ports, with pools of at most c cells of w bytes.
use Rattle.std.specs.Prelude.{ℕ, ◌*◌, Bool, ◌&&◌, cond, List, eqb, ltb, length, replicate}
use Rattle.laws.specs.Sets.{gathered, tabled}
use Rattle.ports.specs.Due.{declined}
use Rattle.ports.specs.declared.state.State.{State}
use Rattle.ports.specs.declared.state.Mode.{Mode}
use Rattle.ports.specs.Answer.{Stepped}
use Rattle.lcf.specs.Slot.{slot_on_tables}
use Rattle.queue_records.specs.Records.{ports_of}
use Rattle.queue_records.specs.Order.{usable}
use Rattle.queue_records.specs.Queue.{waiting}

-- a pair asks if its queue holds a cell
unfoldable pub requests : ℕ → List ℕ → List ℕ
requests m words = tabled m (λ i. gathered (λ t. ltb 0 (length (waiting m words i t))) m) m

-- the scheduler's slot on these requests; nothing is planned
abbrev pub scheduled : ℕ → List ℕ → State → ℕ → Mode → Stepped
scheduled m words st slot mode = slot_on_tables m st slot mode (requests m words) (replicate m 0)

-- the records and the pool can be used, and are of the shelf whose state this is
unfoldable pub fits : ℕ → ℕ → ℕ → List ℕ → State → ℕ → Bool
fits m c w words st len = usable m c w words len && eqb (ports_of words) st.ports

-- a slot of the scheduler, and 7 if it is served and the output is too short
unfoldable pub roomy : ℕ → ℕ → State → ℕ → Stepped → Stepped
roomy m w st room r = cond (eqb r.answer.number 0) (cond (ltb room (st.ports * w)) (declined m st 7) r) r

-- 17, then the scheduler's numbers, then 7; the pool has len bytes, and the output room for so many
module _ (m c w : ℕ) (words : List ℕ) (st : State) (slot : ℕ) (mode : Mode) where
  unfoldable pub stepped : ℕ → ℕ → Stepped
  stepped len room = cond (fits m c w words st len) (roomy m w st room (scheduled m words st slot mode)) (declined m st 17)
