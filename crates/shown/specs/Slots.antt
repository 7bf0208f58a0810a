-- States and tables of the programs' small slots.
use Rattle.std.specs.Prelude.{ℕ, ◌-◌, ◌/◌, ◌%◌, List, ◌∷◌, replicate}
use Rattle.ports.specs.declared.state.State.{State}

-- n ports at offsets (i, j)
abbrev pub state_at : ℕ → ℕ → ℕ → ℕ → State
state_at n i j due = record { ports = n; initiator = record { 0 = i }; target = record { 0 = j }; due = due; owners = 0 }

-- m rows, the first four being the four digits of a hexadecimal number, row 0 the last
abbrev pub rows_of : ℕ → ℕ → List ℕ
rows_of m digits = digits % 16 ∷ digits / 16 % 16 ∷ digits / 256 % 16 ∷ digits / 4096 ∷ replicate (m - 4) 0
