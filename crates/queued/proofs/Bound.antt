-- Demand 3 on the queues: a cell at the head of a queue is forwarded within n² served slots. A pair whose queue holds a cell asks, nothing is
-- planned and nobody is disabled, so the pair has its share.
use mathlib.Core.Path.{◌≡◌, refl, sym, ap, ◌∙◌}
use mathlib.Core.Bool.{Bool, true, false, cond, true≢false}
use mathlib.Core.List.{List, [], ◌∷◌, ◌++◌}
use Prim.Native.Nat.{ℕ, ◌+◌, ◌*◌, ◌≤◌, ◌<◌}
use native.Mathlib.Nat.{le-div_iff_mul-le, mul-le-mul_right}
use native.Mathlib.Decide.{dec_lt}
use native.Mathlib.Omega.{arith}
use lib.Dec.{eqb}
use lib.ListN.{length, take, replicate, length-map}
use borrow.Author.Tests.{eqb-true, eqb-false, lt-ltb}
use Rattle.laws.specs.Sets.{asks}
use Rattle.laws.proofs.Members.{asks-empty}
use Rattle.laws.proofs.Tests.{both}
use Rattle.ports.specs.declared.state.Mode.{Mode}
use Rattle.ports.specs.Answer.{Stepped}
use Rattle.lcf.specs.Advance.{advance}
use Rattle.demands.specs.Call as tables
use Rattle.demands.specs.History.{Below, how_many, InEach, InServed, ByValue, Moves, First, Fair}
use Rattle.demands.specs.Refusal.{InOrder}
use Rattle.demands.specs.Share.{Waits}
use Rattle.demands.proofs.Calls.{served_call}
use Rattle.demands.proofs.Share.{tables_fair}
use Rattle.demands.proofs.Turns.{fair_share, by_value}
use Rattle.queue_records.specs.Queue.{waiting, queue_of}
use Rattle.queue_steps.specs.Step.{requests}
use Rattle.queue_steps.proofs.Serves.{Served, served as known}
use Rattle.queue_steps.proofs.Requests.{waits_asks}
use Rattle.queued.specs.Shelf.{Shelf, Call, Cell, Slot, number, next, served, queue, grants, comes, goes}
use Rattle.queued.specs.History.{through, went}
use Rattle.queued.proofs.Calls.{one_call, not_served_keeps}

module _ (m c w : ℕ) where
  -- the scheduler's call of a slot
  abbrev pub on_tables : Shelf → ℕ → Mode → tables.Call
  on_tables s slot mode = record { slot = slot; mode = mode; req = requests m s.words; pre = replicate m 0 }

  module _ (s : Shelf) (slot : ℕ) (mode : Mode) (out : List ℕ) (e : served m c w s (Slot slot mode out) ≡ true) where
    pub is_served : Served m c w s.words s.state (length s.pool) slot mode (length out)
    unfolding served number
    is_served = known m c w s.words s.state (length s.pool) slot mode (length out) (eqb-true _ 0 e)

    at_tables : tables.served m s.state (on_tables s slot mode) ≡ true
    unfolding served number
    at_tables = sym (ap (λ (r : Stepped). eqb r.answer.number 0) is_served.is_run) ∙ e

    pub in_order : InOrder m s.state
    in_order = (served_call m s.state (on_tables s slot mode) (eqb-true _ 0 at_tables)).in_order

  keeps : (s : Shelf) (x : Call) → ByValue s x → served m c w s x ≡ false → (next m c w s x).state ≡ s.state
  unfolding served next number
  keeps s (Cell i t bytes) k e = refl
  keeps s (Slot slot mode out) k e = not_served_keeps m c w s.words s.state slot mode (length s.pool) (length out) (eqb-false _ 0 e)

  advances : (s : Shelf) (x : Call) → ByValue s x → served m c w s x ≡ true → (next m c w s x).state ≡ advance s.state
  unfolding next served
  advances s (Cell i t bytes) k e = absurd (true≢false (sym e))
  advances s (Slot slot mode out) k e =
      ap (λ (r : Stepped). r.state) (is_served s slot mode out e).is_run ∙ (tables_fair m 0 0).moves.served_advances s.state (on_tables s slot mode) tt (at_tables s slot mode out e)

  pub moves : Moves (λ (s : Shelf). s.state) ByValue (next m c w) (served m c w)
  moves = record { declined_keeps = keeps; served_advances = advances }

  module _ (i t : ℕ) (hi : i < m) (ht : t < m) where
    -- the queue holds a cell
    abbrev Holds : Shelf → Call → Type 0
    Holds s x = 0 < length (queue m c w i t s)

    asking : (s : Shelf) → 0 < length (queue m c w i t s) → asks (requests m s.words) i t ≡ true
    unfolding queue_of
    asking s h = waits_asks m s.words i t hi ht ∙ lt-ltb 0 _ (rw (length-map (waiting m s.words i t) _) at h)

    favours : (s : Shelf) (x : Call) → ByValue s x → served m c w s x ≡ true → Holds s x → First i t s.state → grants m c w i t s x ≡ true
    unfolding served grants
    favours s (Cell j u bytes) k e h f = absurd (true≢false (sym e))
    favours s (Slot slot mode out) k e h f =
        let waits : Waits s.state.ports (requests m s.words) (replicate m 0) i t = record { asked = asking s h; plans_nothing = λ u l. asks-empty m i u; unplanned = λ j l. asks-empty m j t } in
        let hit = (tables_fair m i t).favours s.state (on_tables s slot mode) tt (at_tables s slot mode out e) waits f in
        rw e (ap (λ (r : Stepped). asks r.answer.sets i t) (is_served s slot mode out e).is_run ∙ (both (tables.served m s.state (on_tables s slot mode)) _ hit).1)

    fair : Fair (λ (s : Shelf). s.state) ByValue (next m c w) (served m c w) (grants m c w i t) Holds (First i t)
    fair = record { moves = moves; favours = favours }

    -- the head stays until the pair is granted
    head_stays : (s : Shelf) (x : Call) (h : List ℕ) (rest : List (List ℕ)) → queue m c w i t s ≡ h ∷ rest → grants m c w i t s x ≡ false
        → queue m c w i t (next m c w s x) ≡ h ∷ (rest ++ comes m c w i t s x)
    unfolding goes
    head_stays s x h rest is not_yet = rw (not_yet, is) at (one_call m c w i t s x)

    waits_on : (calls : List Call) (s : Shelf) (h : List ℕ) (rest : List (List ℕ)) → queue m c w i t s ≡ h ∷ rest → how_many (next m c w) (grants m c w i t) s calls ≡ 0
        → InServed (next m c w) (served m c w) Holds s calls
    unfolding how_many InEach
    waits_on [] s h rest is none = tt
    waits_on (x ∷ calls) s h rest is none = go (grants m c w i t s x) refl none (waits_on calls (next m c w s x) h (rest ++ comes m c w i t s x))
      where
        N : ℕ
        N = how_many (next m c w) (grants m c w i t) (next m c w s x) calls

        holds : 0 < length (queue m c w i t s)
        holds = rw is (omega arith)

        go : (b : Bool) → grants m c w i t s x ≡ b → cond b 1 0 + N ≡ 0
            → (queue m c w i t (next m c w s x) ≡ h ∷ (rest ++ comes m c w i t s x) → N ≡ 0 → InServed (next m c w) (served m c w) Holds (next m c w s x) calls)
            → (served m c w s x ≡ true → Holds s x) × InServed (next m c w) (served m c w) Holds (next m c w s x) calls
        go true y z later = absurd (omega arith)
        go false y z later = (λ _. holds, later (head_stays s x h rest is y) (omega arith))

    first_out : (calls : List Call) (s : Shelf) (h : List ℕ) (rest : List (List ℕ)) → queue m c w i t s ≡ h ∷ rest → 0 < how_many (next m c w) (grants m c w i t) s calls
        → (more : List (List ℕ)) × (went m c w i t s calls ≡ h ∷ more)
    unfolding how_many through goes
    first_out [] s h rest is some = absurd (omega arith)
    first_out (x ∷ calls) s h rest is some = go (grants m c w i t s x) refl some (first_out calls (next m c w s x) h (rest ++ comes m c w i t s x))
      where
        N : ℕ
        N = how_many (next m c w) (grants m c w i t) (next m c w s x) calls

        later : List (List ℕ)
        later = went m c w i t (next m c w s x) calls

        go : (b : Bool) → grants m c w i t s x ≡ b → 0 < cond b 1 0 + N
            → (queue m c w i t (next m c w s x) ≡ h ∷ (rest ++ comes m c w i t s x) → 0 < N → (more : List (List ℕ)) × (later ≡ h ∷ more))
            → (more : List (List ℕ)) × (cond b (take 1 (queue m c w i t s)) [] ++ later ≡ h ∷ more)
        go true y z before_it = (later, rw is)
        go false y z before_it = before_it (head_stays s x h rest is y) (omega arith)

    -- The head of the queue is the first cell to go out, within n² served slots, whatever else is called meanwhile.
    pub head_forwarded : (s : Shelf) (calls : List Call) (h : List ℕ) (rest : List (List ℕ)) → Below s.state → i < s.state.ports → t < s.state.ports
        → queue m c w i t s ≡ h ∷ rest → s.state.ports * s.state.ports ≤ how_many (next m c w) (served m c w) s calls
        → (more : List (List ℕ)) × (went m c w i t s calls ≡ h ∷ more)
    head_forwarded s calls h rest below i< t< is enough = go (dec_lt 0 (how_many (next m c w) (grants m c w i t) s calls))
      where
        n : ℕ
        n = s.state.ports

        square : 0 < n * n
        square = omega (arith, mul-le-mul_right n i<)

        go : Dec (0 < how_many (next m c w) (grants m c w i t) s calls) → (more : List (List ℕ)) × (went m c w i t s calls ≡ h ∷ more)
        go (yes some) = first_out calls s h rest is some
        go (no none) =
            let waits = waits_on calls s h rest is (omega arith) in
            let share = fair_share fair s calls (by_value (next m c w) calls s) below i< t< waits in
            let once = (le-div_iff_mul-le {k = n * n} {x = 1} {y = how_many (next m c w) (served m c w) s calls} square).1 (omega arith) in
            absurd (omega arith)
