-- The C form of a fresh state: an operator number for each of m ports, a byte each.
use Rattle.std.specs.Prelude.{ℕ, Bool, ◌&&◌, List, eqb, length}
use Rattle.lent.specs.Filled.{fitted_number, filled_after}
use Rattle.ports.specs.Ready.{fresh}
use Rattle.table_bytes.specs.State.{state_len, state_bytes}

module _ (m n due : ℕ) (operators state : List ℕ) where
  unfoldable pub fresh_fits : Bool
  fresh_fits = eqb (length operators) m && eqb (length state) state_len

  -- 8 for either length, then 1 and 15
  abbrev pub fresh_number : ℕ
  fresh_number = fitted_number fresh_fits (fresh m n due operators).number

  -- the bytes of the fresh state; or as they were, where the call declines
  abbrev pub fresh_state : List ℕ
  fresh_state = filled_after fresh_number (state_bytes (fresh m n due operators).fields) state
