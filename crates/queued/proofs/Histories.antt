-- Over any history of calls: first in, first out; what came in is what went out and what is held.
use mathlib.Core.Path.{◌≡◌, refl, sym, ap, ◌∙◌}
use mathlib.Core.Bool.{true}
use mathlib.Core.List.{List, [], ◌∷◌, ◌++◌, append_assoc, append-nil}
use Prim.Native.Nat.{ℕ, ◌+◌}
use lib.ListN.{length, length-append}
use Rattle.demands.specs.History.{after}
use Rattle.queue_records.specs.Order.{in_order}
use Rattle.queued.specs.Shelf.{Shelf, Call, next, queue, comes, goes}
use Rattle.queued.specs.History.{through, came, went}
use Rattle.queued.proofs.Calls.{one_call, stays_in_order, same_pool}

-- over any kind of call: what each takes from a list and leaves of it is what was there and what it brings
module _ {S C A : Type 0} (next : S → C → S) (list : S → List A) (comes goes : S → C → List A)
    (each : (s : S) (x : C) → goes s x ++ list (next s x) ≡ list s ++ comes s x) where
  pub in_and_out : (calls : List C) (s : S) → through next goes s calls ++ list (after next s calls) ≡ list s ++ through next comes s calls
  unfolding through after
  in_and_out [] s = sym (append-nil (list s))
  in_and_out (x ∷ calls) s =
      append_assoc (goes s x) _ _
      ∙ ap (λ (l : List A). goes s x ++ l) (in_and_out calls (next s x))
      ∙ sym (append_assoc (goes s x) (list (next s x)) _)
      ∙ ap (λ (l : List A). l ++ through next comes (next s x) calls) (each s x)
      ∙ append_assoc (list s) (comes s x) _

module _ (m c w : ℕ) where
  -- What went out of a pair's queue, and then what it holds, is what it held and what came: each cell once, in the order in which they went in.
  pub first_in_first_out : (i t : ℕ) (s : Shelf) (calls : List Call)
      → went m c w i t s calls ++ queue m c w i t (after (next m c w) s calls) ≡ queue m c w i t s ++ came m c w i t s calls
  first_in_first_out i t s calls = in_and_out (next m c w) (queue m c w i t) (comes m c w i t) (goes m c w i t) (one_call m c w i t) calls s

  -- Cells in equals cells out plus cells held, for a queue that was empty.
  pub in_out_held : (i t : ℕ) (s : Shelf) (calls : List Call) → queue m c w i t s ≡ []
      → length (came m c w i t s calls) ≡ length (went m c w i t s calls) + length (queue m c w i t (after (next m c w) s calls))
  in_out_held i t s calls empty = sym (ap length (first_in_first_out i t s calls ∙ ap (λ (l : List (List ℕ)). l ++ came m c w i t s calls) empty)) ∙ length-append (went m c w i t s calls) _

  pub history_in_order : (calls : List Call) (s : Shelf) → in_order m c s.words ≡ true → in_order m c (after (next m c w) s calls).words ≡ true
  unfolding after
  history_in_order [] s e = e
  history_in_order (x ∷ calls) s e = history_in_order calls (next m c w s x) (stays_in_order m c w s x e)

  pub history_pool : (calls : List Call) (s : Shelf) → length (after (next m c w) s calls).pool ≡ length s.pool
  unfolding after
  history_pool [] s = refl
  history_pool (x ∷ calls) s = history_pool calls (next m c w s x) ∙ same_pool m c w s x
