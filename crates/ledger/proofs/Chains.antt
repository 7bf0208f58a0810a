-- What a chain of the library makes of a table: what it finds in its rows, and a table of the same numbers.
use Rattle.std.proofs.Common.{◌≡◌, sym, ◌∙◌, ap, ℕ, Bool, List, length, get_or, take_all, arith}
use Rattle.std.proofs.Math.Seq.{ext_get_or}
use Rattle.std.specs.Array.{IsMapOf}
use Rattle.std.specs.Fn.{Called}
use Rattle.std.specs.List.{list_any}
use denote.Param.Members.{Mut}
use Rattle.laws.specs.Steps.{some}
use Rattle.laws.proofs.Chains.{some_any}

-- one of n rows has p
pub some_row : (p : ℕ → Bool) (xs : List ℕ) (n : ℕ) → length xs ≡ n → list_any p xs ≡ some (λ k. p (get_or xs k 0)) n
some_row p xs n long = ap (list_any p) (sym (take_all n xs (omega (arith, long)))) ∙ some_any p xs n (omega (arith, long))

-- a conversion that keeps each number
pub each_kept : {F : Type 0} (g : Mut F (ℕ × Unit {0}) ℕ) (f : F) (xs ys : List ℕ) (n : ℕ) → length xs ≡ n
    → ((p : F) (x y : ℕ) (q : F) → Called g p (x, tt) y q → y ≡ x) → IsMapOf g f xs ys n → ys ≡ xs
each_kept g f xs ys n long each m = ext_get_or 0 ys xs (m.long ∙ sym long) (λ i l.
    let (p, q, c) = m.at i 0 0 (omega (arith, m.long)) in
    each p _ _ q c)
