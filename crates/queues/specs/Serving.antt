-- One slot over the queues: on shelves of at most m ports, with pools of at most c cells of w bytes.
use Rattle.std.specs.Prelude.{ℕ, cond, List, ◌++◌, eqb, length}
use Rattle.ports.specs.declared.state.State.{State}
use Rattle.ports.specs.declared.state.Mode.{Mode}
use Rattle.ports.specs.Answer.{Stepped}
use Rattle.queue_records.specs.Records.{ports_of, cells_of, held_of, free_of, words_of}
use Rattle.queue_steps.specs.Step.{stepped}
use Rattle.queues.specs.Parting.{leaving, staying, forwarded}

-- the granted heads are gone, and their cells are free
unfoldable pub moved : ℕ → List ℕ → List ℕ → List ℕ
moved m sets words = words_of (ports_of words) (cells_of words) (staying m sets (held_of words)) (leaving m sets (held_of words) ++ free_of words)

module _ (m c w : ℕ) (words : List ℕ) (st : State) (slot : ℕ) (mode : Mode) (pool out : List ℕ) where
  -- what the scheduler answers, or the number that declines
  abbrev pub answered : Stepped
  answered = stepped m c w words st slot mode (length pool) (length out)

  unfoldable pub slot_words : List ℕ
  slot_words = cond (eqb answered.answer.number 0) (moved m answered.answer.sets words) words

  unfoldable pub slot_output : List ℕ
  slot_output = cond (eqb answered.answer.number 0) (forwarded m w pool (leaving m answered.answer.sets (held_of words)) out) out
