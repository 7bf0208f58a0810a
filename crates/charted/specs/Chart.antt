-- A shelf whose ledger is fed after each served slot, and only then, on shelves of at most m ports.
use Rattle.std.specs.Prelude.{◌≡◌, Bool, false, cond, ℕ, ◌+◌}
use Rattle.laws.specs.Sets.{asks}
use Rattle.ports.specs.declared.state.State.{State}
use Rattle.shelf.specs.Asked.{sets_asked}
use Rattle.ledger.specs.Ledger.{empty, figures_of}
use Rattle.ledger.specs.History.{Feed}
use Rattle.ledger.specs.Shows.{fed_with}
use Rattle.ledger.specs.declared.book.Ledger.{Ledger}
use Rattle.ledger.specs.declared.book.Figures.{Figures}
use Rattle.demands.specs.Block.{Asks}
use Rattle.demands.specs.SlotCall.{SlotCall, next, sets, served}

pub record Chart : Type 0 where
  pub state : State
  pub ledger : Ledger

-- with an empty ledger
abbrev pub started : ℕ → State → Chart
started m st = record { state = st; ledger = empty m }

-- what a slot call feeds: n, the sets asked of its block, and the sets connected of its answer
abbrev pub feed_of : ℕ → State → SlotCall → Feed
feed_of m st c = record { ports = st.ports; asked = (sets_asked m st.ports st.owners c.block).fields; connected = sets m st c }

-- a slot call, and the feed after it if it is served
abbrev pub is_served : ℕ → Chart → SlotCall → Bool
is_served m s c = served m s.state c

unfoldable pub charted : ℕ → Chart → SlotCall → Chart
charted m s c = record {
  state = next m s.state c;
  ledger = cond (is_served m s c) (fed_with m s.ledger (feed_of m s.state c)).fields s.ledger;
}

-- what the chart shows of a pair
abbrev pub figures : ℕ → Chart → ℕ → ℕ → Figures
figures m s = figures_of m s.ledger

-- the pair (i, t) waits in a call: its block asks it, and its answer does not connect it
pub record Waits (m i t : ℕ) (s : Chart) (c : SlotCall) : Type 0 where
  pub asked : Asks s.state.ports s.state.owners c.block i t
  pub left_out : asks (sets m s.state c) i t ≡ false

-- the figures before a pair's request, and after it was asked in w slots, and connected in the slot after these: one fresh request
pub record OneRequest (w : ℕ) (before now : Figures) : Type 0 where
  pub asked : now.asked ≡ before.asked + w + 1
  pub connected : now.connected ≡ before.connected + 1
  pub fresh : now.fresh ≡ before.fresh + 1
  pub withdrawn : now.withdrawn ≡ before.withdrawn
  pub closed : now.isopen ≡ 0
