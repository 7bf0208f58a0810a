-- The C form of the ledger's calls: tables in bytes, the ledger and a pair's figures in words.
use Rattle.std.specs.Prelude.{ℕ, Bool, ◌&&◌, cond, List, [], ◌∷◌, eqb, length}
use Rattle.laws.specs.Bytes.{row}
use Rattle.refusals.specs.Numbers.{Answer}
use Rattle.lent.specs.Filled.{fitted_number, filled_after}
use Rattle.table_bytes.specs.State.{state_len, state_of}
use Rattle.table_bytes.specs.Table.{table_len, table_of}
use Rattle.shelf.specs.Asked.{sets_asked}
use Rattle.ledger.specs.Lent.{lent_number, lent_feed, lent_shown}
use Rattle.ledger.specs.declared.book.Figures.{Figures}

-- the sets asked of a block, by the ports and the owners in the bytes of a state
module _ (m : ℕ) (state block table : List ℕ) where
  unfoldable pub asked_fits : Bool
  asked_fits = eqb (length state) state_len && eqb (length table) (table_len m)

  unfoldable pub asked_of : Answer (List ℕ)
  asked_of = sets_asked m (state_of state).ports (state_of state).owners block

  abbrev pub asked_number : ℕ
  asked_number = fitted_number asked_fits asked_of.number

  abbrev pub asked_table : List ℕ
  asked_table = filled_after asked_number (row 2 asked_of.fields) table

-- the feed, by the bytes of both tables
module _ (m : ℕ) (words : List ℕ) (n : ℕ) (asked connected : List ℕ) where
  unfoldable pub tables_fit : Bool
  tables_fit = eqb (length asked) (table_len m) && eqb (length connected) (table_len m)

  abbrev pub feed_number : ℕ
  feed_number = fitted_number tables_fit (lent_number m words n)

  unfoldable pub feed_words : List ℕ
  feed_words = cond tables_fit (lent_feed m words n (table_of m asked) (table_of m connected)) words

-- a pair's figures in their order
abbrev pub figure_words : Figures → List ℕ
figure_words f = f.asked ∷ f.connected ∷ f.fresh ∷ f.withdrawn ∷ f.isopen ∷ []

abbrev pub figures_len : ℕ
figures_len = 5

module _ (m : ℕ) (words : List ℕ) (i t : ℕ) (figures : List ℕ) where
  abbrev pub figures_number : ℕ
  figures_number = fitted_number (eqb (length figures) figures_len) (lent_shown m words i t).number

  abbrev pub figures_after : List ℕ
  figures_after = filled_after figures_number (figure_words (lent_shown m words i t).fields) figures
