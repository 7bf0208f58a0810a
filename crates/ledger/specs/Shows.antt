-- An empty ledger that is fed, on shelves of at most m ports, and the history that its figures are to tell.
use Rattle.std.specs.Prelude.{ℕ, ◌<◌, ◌≡◌, cond, List, [], ◌∷◌, eqb, length, replicate}
use Rattle.refusals.specs.Numbers.{Answer}
use Rattle.ledger.specs.Ledger.{empty, figures_of, feed}
use Rattle.ledger.specs.Lent.{words_len, lent_feed}
use Rattle.ledger.specs.History.{Feed, is_asked, is_connected, is_fresh, is_withdrawn, how_often, is_open}
use Rattle.ledger.specs.declared.book.Ledger.{Ledger}
use Rattle.ledger.specs.declared.book.Figures.{Figures}

-- one feed
abbrev pub fed_with : ℕ → Ledger → Feed → Answer Ledger
fed_with m l f = feed m l f.ports f.asked f.connected

-- an empty ledger after the feeds, the latest first; and those of them that were counted
unfoldable pub fed : ℕ → List Feed → Ledger
fed m [] = empty m
fed m (f ∷ before) = (fed_with m (fed m before) f).fields

unfoldable pub counted : ℕ → List Feed → List Feed
counted m [] = []
counted m (f ∷ before) = cond (eqb (fed_with m (fed m before) f).number 0) (f ∷ counted m before) (counted m before)

-- the same in lent words, which zeros fill at the start
unfoldable pub lent_fed : ℕ → List Feed → List ℕ
lent_fed m [] = replicate (words_len m) 0
lent_fed m (f ∷ before) = lent_feed m (lent_fed m before) f.ports f.asked f.connected

-- the history's figures of a pair
abbrev pub told : List Feed → ℕ → ℕ → Figures
told history i t =
    record {
      asked = how_often (is_asked i t) history;
      connected = how_often (is_connected i t) history;
      fresh = how_often (is_fresh i t) history;
      withdrawn = how_often (is_withdrawn i t) history;
      isopen = is_open i t history;
    }

-- a ledger shows a history: its slots, and the figures of each pair
pub record Shows (m : ℕ) (history : List Feed) (l : Ledger) : Type 0 where
  pub slots : l.slots ≡ length history
  pub figures : (i t : ℕ) → i < m → t < m → figures_of m l i t ≡ told history i t
