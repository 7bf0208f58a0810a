-- The ends of a feed in the C form, which leaves the words to the ledger's own.
use mathlib.Core.Path.{◌≡◌, refl, sym}
use mathlib.Core.Bool.{Bool, true, false, not, ◌&&◌, ◌||◌, true≢false}
use mathlib.Core.List.{List}
use Prim.Native.Nat.{ℕ}
use lib.ListN.{length}
use lib.Dec.{eqb}
use borrow.Author.Tests.{eqb-true}
use Rattle.lent.specs.Filled.{fitted_number}
use Rattle.ledger.specs.Lent.{lent_number, lent_feed}
use Rattle.table_bytes.specs.Table.{table_len, table_in}
use Rattle.table_bytes.proofs.Fits.{table_read}
use Rattle.collector_calls.specs.Ledger.{tables_fit, feed_number, feed_words}

not_both : (a b : Bool) → (not a || not b) ≡ true → (a && b) ≡ false
not_both false b e = refl
not_both true false e = refl
not_both true true e = sym e

both_so : (a b : Bool) → (not a || not b) ≡ false → (a ≡ true) × (b ≡ true)
both_so true true e = (refl, refl)
both_so true false e = absurd (true≢false e)
both_so false b e = absurd (true≢false e)

module _ (m : ℕ) (words : List ℕ) (n : ℕ) (asked connected : List ℕ) where
  abbrev Fed : ℕ → List ℕ → Type 0
  Fed number left = (number ≡ feed_number m words n asked connected) × (left ≡ feed_words m words n asked connected)

  untouched : tables_fit m words n asked connected ≡ false → Fed 8 words
  unfolding fitted_number feed_words
  untouched e = rw e (refl, refl)

  abbrev wrong_length : Bool
  wrong_length = not (eqb (length asked) (table_len m)) || not (eqb (length connected) (table_len m))

  pub wrong_tables : wrong_length ≡ true → Fed 8 words
  unfolding tables_fit
  wrong_tables e = untouched (not_both _ _ e)

  pub fed : (a c left : List ℕ) (number : ℕ) → wrong_length ≡ false → a ≡ table_in m asked → c ≡ table_in m connected
      → (number ≡ lent_number m words n) × (left ≡ lent_feed m words n a c) → Fed number left
  unfolding fitted_number feed_words tables_fit
  fed a c left number e is-a is_c (is_number, is_left) =
      let (long, also) = both_so _ _ e in
      rw (long, also, ← table_read m asked (eqb-true _ _ long), ← table_read m connected (eqb-true _ _ also), ← is-a, ← is_c) (is_number, is_left)
