-- The table of document 01: the numbers of a slot call, in the order in which they are tested.
use Rattle.std.specs.Prelude.{◌≡◌, ◌⊎◌, ℕ, ◌*◌, ◌^◌, ◌≤◌, ◌<◌, length}
use Rattle.frames.specs.Part.{frame_len, told_len}
use Rattle.ports.specs.Due.{behind}
use Rattle.ports.specs.declared.state.State.{State}
use Rattle.ports.specs.declared.state.Mode.{Mode}
use Rattle.ports.specs.declared.state.Mode.TheVariants.{Central, Distributed, Diagonal}
use Rattle.demands.specs.SlotCall.{SlotCall}

-- the round limit is outside 1 to m
abbrev pub WrongLimit : ℕ → Mode → Type 0
WrongLimit m Central = ⊥
WrongLimit m (Distributed limit) = (limit < 1) ⊎ (m < limit)
WrongLimit m Diagonal = ⊥

-- one row: x is its number where it applies, and otherwise what the rows below it say
pub data Row (number : ℕ) (applies : Type 0) (below : ℕ → Type 0) (x : ℕ) : Type 0 where
  given : applies → x ≡ number → Row number applies below x
  passed : (applies → ⊥) → below x → Row number applies below x

-- x is the number that the table gives the call, on shelves of at most m ports: 0 if no row applies
abbrev pub Table : ℕ → State → SlotCall → ℕ → Type 0
Table m st c =
    Row 1 ((st.ports < 1) ⊎ (m < st.ports))
    (Row 2 ((st.ports ≤ st.initiator.0) ⊎ (st.ports ≤ st.target.0))
    (Row 3 ((1 ≤ behind st c.slot) × (behind st c.slot ≤ 2 ^ 31))
    (Row 4 (2 ^ 31 < behind st c.slot)
    (Row 5 (WrongLimit m c.mode)
    (Row 6 (length c.block ≡ st.ports * frame_len st.ports → ⊥)
    (Row 7 (length c.out < st.ports * told_len st.ports)
    (λ x. x ≡ 0)))))))
