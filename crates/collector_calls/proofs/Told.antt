-- Two slots of a shelf of two ports, fed and shown as C calls, byte for byte and word for word: one computed statement over the definitions.
use mathlib.Core.Path.{◌≡◌, refl}
use mathlib.Core.List.{List, [], ◌∷◌}
use Prim.Native.Nat.{ℕ}
use lib.ListN.{replicate}
use Rattle.laws.specs.Steps.{steps}
use Rattle.laws.specs.Bytes.{number_from}
use Rattle.lent.specs.Filled.{fitted_number, filled_after}
use Rattle.ports.specs.Tables.{within}
use Rattle.ledger.specs.Counts.{raised}
use Rattle.ledger.specs.Events.{meet, less, happened}
use Rattle.ledger.specs.Ledger.{figures_of, shown, high, over, refusal, number, next}
use Rattle.ledger.specs.Lent.{words_len, ledger_of, words_of, lent_number, lent_feed, lent_shown}
use Rattle.table_bytes.specs.Table.{table_of}
use Rattle.collector_calls.specs.Ledger.{tables_fit, feed_words, figures_after}

-- (0, 1) and (1, 0) are asked and wait; then (0, 1) is connected, (1, 0) is not asked again, and (1, 1) is asked and waits
unfoldable pub fed : List ℕ
fed =
    feed_words 2
    (feed_words 2 (replicate (words_len 2) 0) 2 (0 ∷ 2 ∷ 0 ∷ 1 ∷ []) (0 ∷ 0 ∷ 0 ∷ 0 ∷ []))
    2 (0 ∷ 2 ∷ 0 ∷ 2 ∷ []) (0 ∷ 2 ∷ 0 ∷ 0 ∷ [])

-- the slots; asked, connected, fresh and withdrawn of (0, 0), (0, 1), (1, 0) and (1, 1); the sets that wait
pub words_fed : fed ≡ 2 ∷ 0 ∷ 2 ∷ 1 ∷ 1 ∷ 0 ∷ 1 ∷ 0 ∷ 0 ∷ 0 ∷ 1 ∷ 1 ∷ 1 ∷ 0 ∷ 0 ∷ 1 ∷ 0 ∷ 0 ∷ 2 ∷ []
unfolding fed feed_words tables_fit table_of steps number_from lent_number lent_feed ledger_of words_of number refusal over high figures_of next happened within meet less raised
words_fed = refl

-- asked, connected, fresh, withdrawn, open
pub figures-told : (figures_after 2 fed 0 1 (replicate 5 9) ≡ 2 ∷ 1 ∷ 1 ∷ 0 ∷ 0 ∷ [])
    × (figures_after 2 fed 1 0 (replicate 5 9) ≡ 1 ∷ 0 ∷ 1 ∷ 1 ∷ 0 ∷ [])
    × (figures_after 2 fed 1 1 (replicate 5 9) ≡ 1 ∷ 0 ∷ 1 ∷ 0 ∷ 1 ∷ [])
unfolding fitted_number filled_after lent_shown ledger_of shown figures_of
figures-told = rw words_fed (refl, refl, refl)
