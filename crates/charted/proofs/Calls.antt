-- One call: a declined one changes nothing, and a served one is one slot more of the history that the ledger shows.
use mathlib.Core.Path.{◌≡◌}
use mathlib.Core.Bool.{true, false}
use mathlib.Core.List.{List, [], ◌∷◌}
use Prim.Native.Nat.{ℕ, ◌<◌}
use lib.ListN.{length}
use borrow.Author.Tests.{eqb-true}
use Rattle.laws.proofs.Tests.{arms}
use Rattle.ledger.specs.Counts.{most_slots}
use Rattle.ledger.specs.History.{Feed}
use Rattle.ledger.specs.Shows.{Shows}
use Rattle.ledger.specs.declared.book.Ledger.{Ledger}
use Rattle.ledger.proofs.Feeds.{feed_cases}
use Rattle.ledger.proofs.Told.{next_shows, feed_shows}
use Rattle.demands.specs.History.{after, ByValue, Moves}
use Rattle.demands.specs.SlotCall.{SlotCall}
use Rattle.demands.proofs.SlotCalls.{whole}
use Rattle.demands.proofs.SlotShare.{slots_move}
use Rattle.charted.specs.Chart.{Chart, feed_of, is_served, charted}

pub charts_move : (m : ℕ) → Moves (λ s. s.state) ByValue (charted m) (is_served m)
unfolding charted
charts_move m = record {
  declined_keeps = λ s c k e. (slots_move m).declined_keeps s.state c tt e;
  served_advances = λ s c k e. (slots_move m).served_advances s.state c tt e;
}

pub declined_keeps : (m : ℕ) (s : Chart) (c : SlotCall) → is_served m s c ≡ false → charted m s c ≡ s
unfolding charted
declined_keeps m s c e = rw ((slots_move m).declined_keeps s.state c tt e, e)

pub served_shows : (m : ℕ) (s : Chart) (c : SlotCall) (h : List Feed) → Shows m h s.ledger → is_served m s c ≡ true → length h < most_slots
    → Shows m (feed_of m s.state c ∷ h) (charted m s c).ledger
unfolding charted
served_shows m s c h shows e few =
    let w = whole m s.state c (eqb-true _ 0 e) in
    rw e (feed_shows m h s.ledger shows (feed_of m s.state c) w.some_port w.ports_at_most few)

-- whatever is called, the ledger goes on to show a history
pub record SomeHistory (m : ℕ) (l : Ledger) : Type 0 where
  pub history : List Feed
  pub shows : Shows m history l

one_call : (m : ℕ) (s : Chart) (c : SlotCall) → SomeHistory m s.ledger → SomeHistory m (charted m s c).ledger
unfolding charted
one_call m s c r =
    let f = feed_of m s.state c in
    arms (SomeHistory m) (is_served m s c) _ _
    (λ e. feed_cases m s.ledger f.ports f.asked f.connected (λ a. SomeHistory m a.fields)
    (λ z. record { history = f ∷ r.history; shows = next_shows m f r.history s.ledger r.shows }) (λ ne. r))
    (λ e. r)

pub all_calls : (m : ℕ) (calls : List SlotCall) (s : Chart) → SomeHistory m s.ledger → SomeHistory m (after (charted m) s calls).ledger
unfolding after
all_calls m [] s r = r
all_calls m (c ∷ calls) s r = all_calls m calls (charted m s c) (one_call m s c r)
