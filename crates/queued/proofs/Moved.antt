-- A slot is served: each granted queue loses its head, and every other queue stays.
use mathlib.Core.Path.{◌≡◌, refl, ap, ◌∙◌}
use mathlib.Core.Bool.{Bool, true, false, ◌&&◌, cond}
use mathlib.Core.List.{List, [], ◌∷◌, map}
use Prim.Native.Nat.{ℕ}
use lib.Dec.{eqb}
use lib.ListN.{drop}
use lib.Seq.{take-append_seam}
use Rattle.laws.specs.Sets.{asks}
use Rattle.ports.specs.declared.state.State.{State}
use Rattle.ports.specs.declared.state.Mode.{Mode}
use Rattle.queue_records.specs.Entries.{cell_of, of_pair, those}
use Rattle.queue_records.specs.Records.{held_of}
use Rattle.queue_records.specs.Queue.{cell_at, waiting, queue_of}
use Rattle.queues.specs.Parting.{staying}
use Rattle.queues.specs.Serving.{moved, answered, slot_words}
use Rattle.queued.proofs.Heads.{those_stay}

map_drop : (b : Bool) (f : ℕ → List ℕ) (s : List ℕ) → map f (cond b (drop 1 s) s) ≡ cond b (drop 1 (map f s)) (map f s)
map_drop true f [] = refl
map_drop true f (x ∷ s) = refl
map_drop false f s = refl

module _ (m w : ℕ) (sets words pool : List ℕ) (i t : ℕ) where
  moved-waiting : waiting m (moved m sets words) i t ≡ cond (asks sets i t) (drop 1 (waiting m words i t)) (waiting m words i t)
  unfolding moved
  moved-waiting = ap (those (of_pair m i t)) (take-append_seam (staying m sets (held_of words)) _) ∙ those_stay m i t (held_of words) sets

  moved_queue : queue_of m w (moved m sets words) pool i t ≡ cond (asks sets i t) (drop 1 (queue_of m w words pool i t)) (queue_of m w words pool i t)
  unfolding queue_of
  moved_queue = ap (map (λ e. cell_at w pool (cell_of m e))) moved-waiting ∙ map_drop (asks sets i t) (λ e. cell_at w pool (cell_of m e)) (waiting m words i t)

module _ (m c w : ℕ) (words : List ℕ) (st : State) (slot : ℕ) (mode : Mode) (pool out : List ℕ) (i t : ℕ) where
  pub served_queue : let r = answered m c w words st slot mode pool out in
      queue_of m w (slot_words m c w words st slot mode pool out) pool i t
      ≡ cond (eqb r.answer.number 0 && asks r.answer.sets i t) (drop 1 (queue_of m w words pool i t)) (queue_of m w words pool i t)
  unfolding slot_words
  served_queue = go (eqb (answered m c w words st slot mode pool out).answer.number 0)
    where
      sets : List ℕ
      sets = (answered m c w words st slot mode pool out).answer.sets

      go : (b : Bool) → queue_of m w (cond b (moved m sets words) words) pool i t ≡ cond (b && asks sets i t) (drop 1 (queue_of m w words pool i t)) (queue_of m w words pool i t)
      go true = moved_queue m w sets words pool i t
      go false = refl
