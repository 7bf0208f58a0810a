-- Rule 7, the advance.
use Rattle.std.specs.Prelude.{◌+◌, ◌%◌, ◌^◌, cond, ◌==◌}
use Rattle.ports.specs.declared.state.State.{State}

unfoldable pub advance : State → State
advance st =
    let i = (st.initiator.0 + 1) % st.ports in
    record { ports = st.ports; initiator = record { 0 = i }; target = record { 0 = cond (i == 0) ((st.target.0 + 1) % st.ports) st.target.0 }; due = (st.due + 1) % 2 ^ 32; owners = st.owners }
