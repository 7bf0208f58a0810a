-- Means of the columns, no rule: what is kept from target to target. Rule 5 itself is `central` of the crate of that name.
use Rattle.std.specs.Prelude.{ℕ, ◌<◌, cond, List}
use Rattle.std.specs.Int.Bits.{bit_and}
use Rattle.laws.specs.Steps.{steps}
use Rattle.laws.specs.Sets.{has, without}
use Rattle.choices.specs.Choice.{place}
use Rattle.ports.specs.declared.state.State.{State}
use Rattle.columns.specs.Transpose.{column}
use Rattle.columns.specs.Planes.{more, less, winner}
use Rattle.columns.specs.declared.planes.Planes.{Planes}
use Rattle.columns.specs.declared.serving.Board.{Board}
use Rattle.columns.specs.declared.serving.Served.{Served}

abbrev pub no_planes : Planes
no_planes = record { ones = 0; twos = 0; fours = 0; eights = 0 }

-- the first k columns added up
abbrev pub counted : List ℕ → ℕ → Planes
counted ws = steps (λ t p. more p (column ws t)) no_planes

abbrev pub target : State → ℕ → ℕ
target st k = place st.ports st.target.0 k

abbrev pub favoured : State → ℕ → ℕ
favoured st k = place st.ports st.initiator.0 k

abbrev pub among : State → List ℕ → ℕ → Board → ℕ
among st ws k b = bit_and b.free (column ws (target st k))

abbrev pub won : State → List ℕ → ℕ → Board → ℕ
won st ws k b = winner (among st ws k b) (less b.planes (column ws (target st k))) (favoured st k)

-- the winner's number is that of an initiator
abbrev pub InRange : State → List ℕ → ℕ → Board → Type 0
InRange st ws k b = won st ws k b < 16

unfoldable pub serve : State → List ℕ → ℕ → Board → Served
serve st ws k b =
    let joined = has (among st ws k b) (won st ws k b) in
    record {
      board = record { free = cond joined (without b.free (won st ws k b)) b.free; planes = less b.planes (column ws (target st k)) };
      target = target st k;
      winner = won st ws k b;
      joined = joined;
    }
