-- A request that waits W slots and is then connected is one fresh request.
use mathlib.Core.Path.{◌≡◌, refl, sym, ap, ◌∙◌}
use mathlib.Core.Bool.{Bool, true, false, cond, and-false}
use mathlib.Core.List.{List, [], ◌∷◌}
use Prim.Native.Nat.{ℕ, ◌+◌, ◌≤◌, ◌<◌}
use native.Mathlib.Nat.{zero-add}
use native.Mathlib.Omega.{arith}
use lib.ListN.{length}
use borrow.Author.Tests.{lt-ltb, eqb-true}
use Rattle.laws.specs.Sets.{asks}
use Rattle.laws.proofs.Tests.{every}
use Rattle.ports.specs.declared.state.State.{State}
use Rattle.ledger.specs.Counts.{most_slots}
use Rattle.ledger.specs.History.{Feed, asked, connected, waited, is_asked, is_connected, is_withdrawn, how_often, is_open}
use Rattle.ledger.specs.Shows.{told, Shows}
use Rattle.ledger.specs.declared.book.Ledger.{Ledger}
use Rattle.ledger.specs.declared.book.Figures.{Figures}
use Rattle.ledger.proofs.Balance.{balance}
use Rattle.ledger.proofs.Told.{no_feed}
use Rattle.demands.specs.Block.{Asks}
use Rattle.demands.specs.History.{after, how_many, InEach, InServed}
use Rattle.demands.specs.SlotCall.{SlotCall, sets}
use Rattle.demands.proofs.SlotCalls.{whole}
use Rattle.demands.proofs.Asked.{asked_exactly}
use Rattle.charted.specs.Chart.{Chart, started, feed_of, is_served, charted, figures, Waits, OneRequest}
use Rattle.charted.proofs.Calls.{declined_keeps, served_shows, all_calls}

module _ (m i t : ℕ) where
  -- a served call whose block asks the pair feeds it as asked
  feeds_asked : (s : Chart) (c : SlotCall) → is_served m s c ≡ true → Asks s.state.ports s.state.owners c.block i t → asked i t (feed_of m s.state c) ≡ true
  feeds_asked s c e a =
      every (every (lt-ltb i _ a.initiator) (lt-ltb t _ a.target)) ((asked_exactly m s.state.ports s.state.owners c.block (whole m s.state c (eqb-true _ 0 e)) i t).1 a)

  -- one slot more in which the pair waits: asked once more, and neither connected nor withdrawn
  pub record OneMore (w : ℕ) (h h' : List Feed) : Type 0 where
    pub slots : length h' ≡ length h + w
    pub asks-more : how_often (is_asked i t) h' ≡ how_often (is_asked i t) h + w
    pub connects_none : how_often (is_connected i t) h' ≡ how_often (is_connected i t) h
    pub withdraws_none : how_often (is_withdrawn i t) h' ≡ how_often (is_withdrawn i t) h

  none_more : (h : List Feed) → OneMore 0 h h
  none_more h = record { slots = omega arith; asks-more = omega arith; connects_none = refl; withdraws_none = refl }

  one_waits : (f : Feed) (h : List Feed) → asked i t f ≡ true → connected i t f ≡ false → OneMore 1 h (f ∷ h)
  unfolding how_often
  one_waits f h a c = record {
    slots = omega arith;
    asks-more = rw a;
    connects_none = rw (c, and-false) (omega arith);
    withdraws_none = rw (a, and-false) (omega arith);
  }

  both_more : (v w : ℕ) (h h' h'' : List Feed) → OneMore v h h' → OneMore w h' h'' → OneMore (v + w) h h''
  both_more v w h h' h'' p q = record {
    slots = omega (arith, p.slots, q.slots);
    asks-more = omega (arith, p.asks-more, q.asks-more);
    connects_none = q.connects_none ∙ p.connects_none;
    withdraws_none = q.withdraws_none ∙ p.withdraws_none;
  }

  -- the history that the ledger shows after calls in which the pair waits
  pub record After (w : ℕ) (h : List Feed) (l : Ledger) : Type 0 where
    pub history : List Feed
    pub shows : Shows m history l
    pub more : OneMore w h history

  waiting : (calls : List SlotCall) (s : Chart) (h : List Feed) → Shows m h s.ledger → InServed (charted m) (is_served m) (Waits m i t) s calls
      → length h + how_many (charted m) (is_served m) s calls ≤ most_slots
      → After (how_many (charted m) (is_served m) s calls) h (after (charted m) s calls).ledger
  unfolding after how_many InEach
  waiting [] s h shows w few = record { history = h; shows = shows; more = none_more h }
  waiting (c ∷ calls) s h shows (w, ws) few = go (is_served m s c) refl (waiting calls (charted m s c))
    where
      rest : ℕ
      rest = how_many (charted m) (is_served m) (charted m s c) calls

      go : (b : Bool) → is_served m s c ≡ b
          → ((g : List Feed) → Shows m g (charted m s c).ledger → InServed (charted m) (is_served m) (Waits m i t) (charted m s c) calls → length g + rest ≤ most_slots
          → After rest g (after (charted m) (charted m s c) calls).ledger)
          → After (cond b 1 0 + rest) h (after (charted m) (charted m s c) calls).ledger
      go false e after-rest =
          let left : length h + (0 + rest) ≤ most_slots = rw e at few in
          rw zero-add (after-rest h (rw (declined_keeps m s c e) shows) ws (omega arith))
      go true e after-rest =
          let f = feed_of m s.state c in
          let now = w e in
          let left : length h + (1 + rest) ≤ most_slots = rw e at few in
          let r = after-rest (f ∷ h) (served_shows m s c h shows e (omega arith)) ws (omega arith) in
          let out : connected i t f ≡ false = rw (now.left_out, and-false) in
          record { history = r.history; shows = r.shows; more = both_more 1 rest h (f ∷ h) r.history (one_waits f h (feeds_asked s c e now.asked) out) r.more }

  -- and then it is connected
  connected_then : (f : Feed) (h : List Feed) → asked i t f ≡ true → connected i t f ≡ true
      → (how_often (is_asked i t) (f ∷ h) ≡ how_often (is_asked i t) h + 1) × (how_often (is_connected i t) (f ∷ h) ≡ how_often (is_connected i t) h + 1)
      × (how_often (is_withdrawn i t) (f ∷ h) ≡ how_often (is_withdrawn i t) h) × (is_open i t (f ∷ h) ≡ 0)
  unfolding how_often waited
  connected_then f h a c = (rw a, rw (a, c), rw (a, and-false) (omega arith), rw (a, c))

  -- of these two figures, and of the balance, one fresh request is left
  one_request : (w : ℕ) (h h' : List Feed) (f : Feed) → OneMore w h h' → asked i t f ≡ true → connected i t f ≡ true → is_open i t h ≡ 0
      → OneRequest w (told h i t) (told (f ∷ h') i t)
  one_request w h h' f more a c closed =
      let (asks-one, connects-one, withdraws_none, Open-none) = connected_then f h' a c in
      record {
        asked = omega (arith, more.asks-more);
        connected = omega (arith, more.connects_none);
        fresh = omega (arith, balance i t h, balance i t (f ∷ h'), more.connects_none, more.withdraws_none);
        withdrawn = withdraws_none ∙ more.withdraws_none;
        closed = Open-none;
      }

  -- Whatever was called before on a shelf that began with an empty ledger: if the pair is not open, waits in every served slot of `calls`
  -- and is connected in the one after these, its figures tell one request.
  module _ (i< : i < m) (t< : t < m) (st : State) (earlier calls : List SlotCall) (last : SlotCall) where
    abbrev s : Chart
    s = after (charted m) (started m st) earlier

    abbrev w : ℕ
    w = how_many (charted m) (is_served m) s calls

    abbrev now : Chart
    now = after (charted m) s calls

    pub one_fresh : (figures m s i t).isopen ≡ 0 → InServed (charted m) (is_served m) (Waits m i t) s calls → is_served m now last ≡ true
        → Asks now.state.ports now.state.owners last.block i t → asks (sets m now.state last) i t ≡ true → s.ledger.slots + w < most_slots
        → OneRequest w (figures m s i t) (figures m (charted m now last) i t)
    one_fresh closed waits e a connects few =
        let begun = all_calls m earlier (started m st) (record { history = []; shows = no_feed m }) in
        let r = waiting calls s begun.history begun.shows waits (omega (arith, begun.shows.slots)) in
        let is-connected = every (every (lt-ltb i _ a.initiator) (lt-ltb t _ a.target)) connects in
        let served = served_shows m now last r.history r.shows e (omega (arith, begun.shows.slots, r.more.slots)) in
        let first = begun.shows.figures i t i< t< in
        rw (first, served.figures i t i< t<)
        (one_request w begun.history r.history (feed_of m now.state last) r.more (feeds_asked now last e a) is-connected
        (sym (ap (λ (x : Figures). x.isopen) first) ∙ closed))
