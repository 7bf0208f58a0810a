-- What is common to the calls of the C form that fill something lent.
use Rattle.std.specs.Prelude.{ℕ, Bool, cond, List, eqb}

-- 8 if what is lent has another length, before the call's own number
unfoldable pub fitted_number : Bool → ℕ → ℕ
fitted_number fits number = cond fits number 8

-- what was lent, filled; or as it was, where the call declines
unfoldable pub filled_after : ℕ → List ℕ → List ℕ → List ℕ
filled_after number filled lent = cond (eqb number 0) filled lent
