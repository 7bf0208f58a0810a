-- A history computed, on a shelf of two ports: pair (0, 1) waits, is connected, comes anew, and is withdrawn when a slot of one
-- port ignores it; two feeds between these are declined. And a ledger of no slots with an open pair is declined.
use mathlib.Core.Path.{◌≡◌, refl}
use mathlib.Core.List.{List, [], ◌∷◌}
use Prim.Native.Nat.{ℕ}
use Rattle.laws.specs.Steps.{steps}
use Rattle.ports.specs.Tables.{within}
use Rattle.ledger.specs.Counts.{raised}
use Rattle.ledger.specs.Events.{meet, less, happened}
use Rattle.ledger.specs.Ledger.{empty, figures_of, high, over, refusal, number, next, feed}
use Rattle.ledger.specs.Lent.{ledger_of, words_of, lent_number, lent_feed}
use Rattle.ledger.specs.History.{Feed, waited, is_fresh, how_often}
use Rattle.ledger.specs.Shows.{fed, counted, told, lent_fed}

abbrev pub slot : ℕ → ℕ → ℕ → Feed
slot n row set = record { ports = n; asked = row ∷ 0 ∷ []; connected = set ∷ 0 ∷ [] }

abbrev pub four : List Feed
four = slot 1 2 0 ∷ slot 2 2 0 ∷ slot 2 2 2 ∷ slot 2 2 0 ∷ []

abbrev pub six : List Feed
six = slot 1 2 0 ∷ slot 2 2 0 ∷ slot 3 2 2 ∷ slot 2 2 2 ∷ slot 0 0 0 ∷ slot 2 2 0 ∷ []

pub history : told four 0 1 ≡ record { asked = 3; connected = 1; fresh = 2; withdrawn = 1; isopen = 0 }
unfolding how_often waited is_fresh
history = refl

pub declined : counted 2 six ≡ four
unfolding steps within meet less happened raised empty figures_of high over refusal number next feed fed counted
declined = refl

pub words : lent_fed 2 six ≡ 4 ∷ 0 ∷ 3 ∷ 0 ∷ 0 ∷ 0 ∷ 1 ∷ 0 ∷ 0 ∷ 0 ∷ 2 ∷ 0 ∷ 0 ∷ 0 ∷ 1 ∷ 0 ∷ 0 ∷ 0 ∷ 0 ∷ []
unfolding steps within meet less happened raised figures_of high over refusal number next ledger_of words_of lent_number lent_feed lent_fed
words = refl

pub open_in_none : number 1 (record { slots = 0; asked = 0 ∷ []; connected = 0 ∷ []; fresh = 0 ∷ []; withdrawn = 0 ∷ []; waiting = 1 ∷ [] }) 1 ≡ 13
unfolding steps figures_of high over refusal number
open_in_none = refl
