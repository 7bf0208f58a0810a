-- What the operators given to the first ports say of them.
use Rattle.std.proofs.Common.{◌≡◌, ℕ, ◌≤◌, cond, eqb, List, length, take, ap, ◌∙◌}
use Rattle.std.proofs.lemmas.List.{length-take-le, get_or-take}
use Rattle.laws.specs.Sets.{with}
use Rattle.laws.proofs.Loops.{same_steps}
use Rattle.ports.specs.Owners.{owners_of}

pub owners_taken : (operators : List ℕ) (n : ℕ) → n ≤ length operators → owners_of (take n operators) (length (take n operators)) ≡ owners_of operators n
owners_taken operators n few =
    ap (owners_of (take n operators)) (length-take-le n operators few)
    ∙ same_steps _ _ 0 n (λ p s h. ap (λ x. cond (eqb x 1) (with s p) s) (get_or-take n operators p 0 h))
