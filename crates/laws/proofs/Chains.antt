-- What a chain of the library gives, as steps.
use Rattle.std.proofs.Common.{◌≡◌, ℕ, zero, suc, ◌≤◌, Bool, true, false, ◌||◌, List, length, get_or, take, refl, sym, ap, ◌∙◌, arith, add-one}
use Rattle.std.specs.List.{list_any}
use Rattle.std.proofs.lemmas.List.Folds.{list_any_more}
use Rattle.laws.specs.Steps.{steps, some}

either_way : (a b : Bool) → (a || b) ≡ (b || a)
either_way true true = refl
either_way true false = refl
either_way false true = refl
either_way false false = refl

-- some of the first n elements have p
pub some_any : (p : ℕ → Bool) (xs : List ℕ) (n : ℕ) → n ≤ length xs → list_any p (take n xs) ≡ some (λ k. p (get_or xs k 0)) n
unfolding steps
some_any p xs zero h = refl
some_any p xs (suc n) h =
    ap (λ k. list_any p (take k xs)) (sym (add-one n)) ∙ list_any_more p xs n 0 (omega arith)
    ∙ either_way (list_any p (take n xs)) (p (get_or xs n 0)) ∙ ap (λ b. p (get_or xs n 0) || b) (some_any p xs n (omega arith))
