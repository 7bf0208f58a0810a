-- Rules 1 to 4 on frames: who is heard, and the slot up to its live requests.
use Rattle.std.specs.Prelude.{ℕ}
use Rattle.ports.specs.Due.{orderly}
use Rattle.ports.specs.declared.state.State.{State}
use Rattle.hearing.specs.Heard.{counted}
use Rattle.planned.specs.Planned.{start}
use Rattle.shelf.specs.declared.by_value.Begun.{Begun}
use Rattle.shelf.specs.declared.hosts.Hosts.{Hosts}

unfoldable pub begun_of : ℕ → State → Hosts → Begun
begun_of m st hosts =
    record {
      heard = hosts.heard;
      work = start (orderly m st) (counted st.ports st.owners hosts.heard hosts.ben hosts.req) (counted st.ports st.owners hosts.heard hosts.ben hosts.pre);
    }
