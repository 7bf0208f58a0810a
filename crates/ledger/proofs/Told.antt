-- An empty ledger that was fed shows the figures of the feeds that were counted.
use mathlib.Core.Path.{◌≡◌, refl, sym, ap, ap₂, ◌∙◌}
use mathlib.Core.Logic.{◌⊎◌}
use mathlib.Core.Bool.{Bool, true, false, not, ◌&&◌, ◌||◌, cond, or-false}
use mathlib.Core.List.{List, [], ◌∷◌}
use Prim.Native.Nat.{ℕ, ◌+◌, ◌≤◌, ◌<◌}
use native.Mathlib.Numerals.{add-one}
use native.Mathlib.Omega.{arith}
use lib.Dec.{eqb, ltb, leb}
use lib.ListN.{length, get_or}
use borrow.Author.Tests.{ltb-true, ne_eqb, le-ltb, lt-leb}
use Rattle.laws.specs.Steps.{some}
use Rattle.laws.specs.Sets.{asks}
use Rattle.laws.proofs.Rows.{no_bits}
use Rattle.laws.proofs.Members.{asks-empty}
use Rattle.laws.proofs.Steps.{some_true}
use Rattle.laws.proofs.Tests.{refuted}
use Rattle.ports.specs.Tables.{within}
use Rattle.ports.proofs.Seen.{asks-within}
use Rattle.ledger.specs.Counts.{pairs, pair, raised, most_slots}
use Rattle.ledger.specs.Events.{happened}
use Rattle.ledger.specs.Ledger.{empty, figures_of, high, over, refusal, number, next}
use Rattle.ledger.specs.History.{Feed, Event, inside, asked, waited, is_asked, is_connected, is_fresh, is_withdrawn, how_often, is_open}
use Rattle.ledger.specs.Shows.{fed_with, fed, counted, told, Shows}
use Rattle.ledger.specs.declared.book.Ledger.{Ledger}
use Rattle.ledger.specs.declared.book.Figures.{Figures}
use Rattle.ledger.proofs.EventLaws.{asks-meet, asks-less}
use Rattle.ledger.proofs.CountLaws.{raised-pair}
use Rattle.ledger.proofs.OverLaws.{any_of}
use Rattle.ledger.proofs.Balance.{fresh-waited, balance, open_or_not, often_below, open_below}
use Rattle.ledger.proofs.Feeds.{feed_cases}

-- zero at every pair of an empty ledger
pub no_feed : (m : ℕ) → Shows m [] (empty m)
unfolding empty figures_of how_often waited
no_feed m = record { slots = refl; figures = λ i t h g. rw (no_bits (pairs m) (pair m i t), asks-empty m i t) }

-- the pair waited if the ledger says so
open_waited : (a b : Bool) → ◌≡◌ {A = ℕ} (cond a 1 0) (cond b 1 0) → a ≡ b
open_waited true true e = refl
open_waited true false e = absurd (omega arith)
open_waited false true e = absurd (omega arith)
open_waited false false e = refl

-- what a slot has outside of its ports does not matter to a pair that is asked
asked_and : (r a c : Bool) → ((r && a) && c) ≡ ((r && a) && (r && c))
asked_and true a c = refl
asked_and false a c = refl

asked_not : (r a c : Bool) → ((r && a) && not c) ≡ ((r && a) && not (r && c))
asked_not true a c = refl
asked_not false a c = refl

same_figures : {a b c d e v w x y z : ℕ} → a ≡ v → b ≡ w → c ≡ x → d ≡ y → e ≡ z
    → ◌≡◌ {A = Figures} (record { asked = a; connected = b; fresh = c; withdrawn = d; isopen = e }) (record { asked = v; connected = w; fresh = x; withdrawn = y; isopen = z })
same_figures p q r s t = rw (p, q, r, s, t)

-- one feed more
module _ (m : ℕ) (f : Feed) (h : List Feed) (l : Ledger) (s : Shows m h l) where
  module _ (i t : ℕ) (i< : i < m) (t< : t < m) where
    before : figures_of m l i t ≡ told h i t
    before = s.figures i t i< t<

    was_waiting : asks l.waiting i t ≡ waited i t h
    unfolding figures_of
    was_waiting = open_waited _ _ (ap (λ (x : Figures). x.isopen) before)

    now : asks (within f.ports f.asked) i t ≡ asked i t f
    now = asks-within f.ports f.asked i t

    one_more : (p : Event) (counts rows : List ℕ) → get_or counts (pair m i t) 0 ≡ how_often p h → asks rows i t ≡ p f h
        → get_or (raised m rows counts) (pair m i t) 0 ≡ how_often p (f ∷ h)
    unfolding how_often
    one_more p counts rows e q = raised-pair m rows counts i t i< t< ∙ rw (e, q)

    pub one_feed : figures_of m (next m l f.ports f.asked f.connected) i t ≡ told (f ∷ h) i t
    unfolding next happened figures_of waited
    one_feed = same_figures
        (one_more (is_asked i t) l.asked _ (ap (λ (x : Figures). x.asked) before) now)
        (one_more (is_connected i t) l.connected _ (ap (λ (x : Figures). x.connected) before)
        (asks-meet m _ _ i t i< ∙ ap (λ b. b && asks f.connected i t) now ∙ asked_and (inside i t f) _ _))
        (one_more (is_fresh i t) l.fresh _ (ap (λ (x : Figures). x.fresh) before)
        (asks-less m _ _ i t i< ∙ ap₂ (λ a w. a && not w) now was_waiting ∙ sym (fresh-waited i t f h)))
        (one_more (is_withdrawn i t) l.withdrawn _ (ap (λ (x : Figures). x.withdrawn) before)
        (asks-less m _ _ i t i< ∙ ap₂ (λ w a. w && not a) was_waiting now))
        (ap (λ b. cond b 1 0) (asks-less m _ _ i t i< ∙ ap (λ b. b && not (asks f.connected i t)) now ∙ asked_not (inside i t f) _ _))

  pub next_shows : Shows m (f ∷ h) (next m l f.ports f.asked f.connected)
  unfolding next
  next_shows = record { slots = ap (λ x. x + 1) s.slots ∙ add-one (length h); figures = one_feed }

pub shows : (m : ℕ) (feeds : List Feed) → Shows m (counted m feeds) (fed m feeds)
unfolding fed counted
shows m [] = no_feed m
shows m (f ∷ feeds) =
    let s = shows m feeds in
    feed_cases m (fed m feeds) f.ports f.asked f.connected
    (λ r. Shows m (cond (eqb r.number 0) (f ∷ counted m feeds) (counted m feeds)) r.fields)
    (λ z. next_shows m f (counted m feeds) (fed m feeds) s)
    (λ ne. rw (ne_eqb _ 0 ne) s)

-- ---- what a ledger that shows a history is worth

module _ (m : ℕ) (h : List Feed) (l : Ledger) (s : Shows m h l) where
  abbrev figures : ℕ → ℕ → Figures
  figures = figures_of m l

  module _ (i t : ℕ) (i< : i < m) (t< : t < m) where
    pub shown_balance : (figures i t).fresh ≡ (figures i t).connected + (figures i t).withdrawn + (figures i t).isopen
    shown_balance = rw (s.figures i t i< t<) (balance i t h)

    pub shown_open : ((figures i t).isopen ≡ 0) ⊎ ((figures i t).isopen ≡ 1)
    shown_open = rw (s.figures i t i< t<) (open_or_not i t h)

  -- no figure is above the slots counted
  never_over : over m l ≡ false
  unfolding over high
  never_over = refuted _ (λ e.
      let (i, i<, f) = some_true (λ i. some (λ t. high l.slots (figures i t)) m) m e in
      let (t, t<, p) = some_true (λ t. high l.slots (figures i t)) m f in
      let no : (x : ℕ) → x ≤ length h → ltb l.slots x ≡ true → ⊥ = λ x b q. omega (arith, ltb-true l.slots x q, s.slots) in
      any_of _ _ _ _ _ (no (how_often (is_asked i t) h) (often_below (is_asked i t) h)) (no (how_often (is_connected i t) h) (often_below (is_connected i t) h))
      (no (how_often (is_fresh i t) h) (often_below (is_fresh i t) h)) (no (how_often (is_withdrawn i t) h) (often_below (is_withdrawn i t) h))
      (no (is_open i t h) (open_below i t h)) (rw (s.figures i t i< t<) at p))

  -- so 13 comes only when all slots are counted
  pub shown-number : (n : ℕ) → number m l n ≡ cond (ltb n 1 || ltb m n) 1 (cond (leb most_slots (length h)) 13 0)
  unfolding number refusal
  shown-number n = rw (never_over, s.slots, or-false)

  -- and until then a feed of 1 to m ports is counted
  pub feed_shows : (f : Feed) → 1 ≤ f.ports → f.ports ≤ m → length h < most_slots → Shows m (f ∷ h) (fed_with m l f).fields
  feed_shows f some most few = feed_cases m l f.ports f.asked f.connected (λ r. Shows m (f ∷ h) r.fields) (λ z. next_shows m f h l s)
      (λ ne. absurd (ne (shown-number f.ports ∙ rw (le-ltb f.ports 1 some, le-ltb m f.ports most, lt-leb most_slots (length h) few))))

-- ---- so for every history of feeds, from the empty ledger

module _ (m : ℕ) (feeds : List Feed) where
  pub ledger_balance : (i t : ℕ) → i < m → t < m → let f = figures_of m (fed m feeds) i t in f.fresh ≡ f.connected + f.withdrawn + f.isopen
  ledger_balance = shown_balance m _ _ (shows m feeds)

  pub ledger_open : (i t : ℕ) → i < m → t < m → let f = figures_of m (fed m feeds) i t in (f.isopen ≡ 0) ⊎ (f.isopen ≡ 1)
  ledger_open = shown_open m _ _ (shows m feeds)

  pub feed-number : (n : ℕ) → number m (fed m feeds) n ≡ cond (ltb n 1 || ltb m n) 1 (cond (leb most_slots (length (counted m feeds))) 13 0)
  feed-number = shown-number m _ _ (shows m feeds)
