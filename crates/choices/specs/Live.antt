-- Whether a request is live.
use Rattle.std.specs.Prelude.{ℕ, Bool, false, not, ◌||◌, List, eqb, get_or}
use Rattle.laws.specs.Steps.{steps}

-- a request of the first k initiators is live
abbrev pub any_live : List ℕ → ℕ → Bool
any_live live = steps (λ i found. not (eqb (get_or live i 0) 0) || found) false
