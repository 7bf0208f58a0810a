-- The ends of the C call that salvages: words of another length; and words that tell how salvaging ended.
use mathlib.Core.Path.{◌≡◌}
use mathlib.Core.List.{List}
use Prim.Native.Nat.{ℕ}
use lib.ListN.{length}
use borrow.Author.Tests.{eq-eqb, ne_eqb}
use Rattle.lent.proofs.Fills as lent
use Rattle.salvages.specs.declared.whole.Salvaged.{Salvaged}
use Rattle.std.specs.Prelude.{Result, eqb}
use Rattle.refusals.specs.Numbers.{answer_of}
use Rattle.refusals.specs.declared.Refusal.{Refusal}
use Rattle.salvages.specs.Salvage.{no_salvage, salvage_answer, salvage_output, salvage_fates}
use Rattle.salvage_calls.specs.Salvaging.{salvaged_words, salvaged_words_len, salvaged_number, salvaged_shown, salvaged_output, salvaged_fates}

module _ (m : ℕ) (file out fates shown : List ℕ) where
  -- the promise of a call that answers so and leaves that
  abbrev Ends : ℕ → List ℕ → List ℕ → List ℕ → Type 0
  Ends r o f w =
      (r ≡ salvaged_number m file out fates shown) × (o ≡ salvaged_output m file out fates shown) × (f ≡ salvaged_fates m file out fates shown) × (w ≡ salvaged_shown m file out fates shown)

  pub unfit : (length shown ≡ salvaged_words_len → ⊥) → Ends 8 out fates shown
  unfolding salvaged_output salvaged_fates
  unfit h =
      let e = ne_eqb (length shown) salvaged_words_len h in
      let (number, words) = lent.unfit _ _ _ _ e in
      (number, rw e, rw e, words)

  pub filled : length shown ≡ salvaged_words_len → (o f : List ℕ) → o ≡ salvage_output m file out fates → f ≡ salvage_fates m file out fates
      → (made : Result Salvaged Refusal) → answer_of no_salvage made ≡ salvage_answer m file out fates → (r : ℕ) (w : List ℕ)
      → lent.Ends (eqb (length shown) salvaged_words_len) (answer_of no_salvage made).number (salvaged_words (answer_of no_salvage made).fields) shown r w → Ends r o f w
  unfolding salvaged_output salvaged_fates
  filled fits o f output told made answer r w ends =
      let e = eq-eqb (length shown) salvaged_words_len fits in
      let (number, words) = rw answer at ends in
      (number, rw e output, rw e told, words)
