-- The share of a pair in the diagonal-first form (document 02, item 7): in slot calls on frames, in the card's lent calls and in C calls.
use Rattle.std.specs.Prelude.{◌≡◌, List, ℕ, ◌+◌, ◌*◌, ◌/◌}
use Rattle.ports.specs.Modes.{diagonal_mode}
use Rattle.ports.specs.declared.state.State.{State}
use Rattle.ports.specs.declared.state.Mode.TheVariants.{Diagonal}
use Rattle.demands.specs.SlotCall.{SlotCall}
use Rattle.demands.specs.LentCall.{LentCall}
use Rattle.demands.specs.SlotShare as frames
use Rattle.promised.specs.Call.{CCall}
use Rattle.promised.specs.Share as bytes

-- the call is in this mode, and the pair waits in it by demand 3's premises
abbrev pub Waiting : ℕ → ℕ → State → SlotCall → Type 0
Waiting i t st c = (c.mode ≡ Diagonal) × frames.Waiting i t st c

abbrev pub LentWaiting : ℕ → ℕ → State → LentCall → Type 0
LentWaiting i t st d = Waiting i t st d.call

abbrev pub CWaiting : ℕ → ℕ → ℕ → List ℕ → CCall → Type 0
CWaiting m i t state d = (d.handed.mode ≡ diagonal_mode m) × bytes.Waiting i t state d

-- of so many slots of n ports: one in any n + 1, and n in any n²
abbrev pub one_in_any : ℕ → ℕ → ℕ
one_in_any n slots = slots / (n + 1)

abbrev pub n_in_any : ℕ → ℕ → ℕ
n_in_any n slots = slots / (n * n) * n
