-- Rule 5 alone, on tables as the C form lays them out.
use Rattle.std.specs.Prelude.{ℕ, List, replicate}
use Rattle.ports.specs.declared.state.State.{State}
use Rattle.ports.specs.Due.{orderly}
use Rattle.choices.specs.declared.work.Work.{Work}
use Rattle.central.specs.Central.{central}
use Rattle.table_bytes.specs.Table.{table_in, table_put}

abbrev pub state_at : ℕ → ℕ → ℕ → State
state_at n i j = record { ports = n; initiator = record { 0 = i }; target = record { 0 = j }; due = 0; owners = 0 }

-- nothing is held yet
abbrev pub asking : ℕ → List ℕ → Work
asking m live = record { live = live; held = replicate m 0 }

-- the sets held after rule 5, as bytes
unfoldable pub sets_after : ℕ → ℕ → ℕ → ℕ → List ℕ → List ℕ → List ℕ
sets_after m n i j live =
    let st = orderly m (state_at n i j) in
    table_put m (central st (asking m (table_in m live)) st.ports).held
