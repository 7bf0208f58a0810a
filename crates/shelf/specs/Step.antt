-- One slot on frames: rules 1 to 7, and the numbers 1 to 7.
use Rattle.std.specs.Prelude.{ℕ, ◌*◌, cond, List, eqb, ltb, length}
use Rattle.frames.specs.Part.{frame_len, told_len}
use Rattle.frames.specs.Frame.{differs}
use Rattle.ports.specs.Due.{due_number, declined}
use Rattle.ports.specs.declared.state.State.{State}
use Rattle.ports.specs.declared.state.Mode.{Mode}
use Rattle.ports.specs.Answer.{Stepped}
use Rattle.hearing.specs.Heard.{counted}
use Rattle.lcf.specs.Slot.{slot_on_tables}
use Rattle.shelf.specs.Hosts.{hosts_of}
use Rattle.shelf.specs.Grants.{granted}
use Rattle.shelf.specs.declared.hosts.Hosts.{Hosts}

-- the numbers 1 to 7, in their order, on shelves of at most m ports; 0 if none applies
unfoldable pub refusal : ℕ → State → ℕ → Mode → List ℕ → List ℕ → ℕ
refusal m st slot mode block out =
    cond (differs (due_number m st slot mode) 0) (due_number m st slot mode)
    (cond (differs (length block) (st.ports * frame_len st.ports)) 6
    (cond (ltb (length out) (st.ports * told_len st.ports)) 7 0))

-- rules 1 and 2, then the slot on what counts of req and pre
unfoldable pub slot_on_hosts : ℕ → State → ℕ → Mode → Hosts → Stepped
slot_on_hosts m st slot mode hosts =
    slot_on_tables m st slot mode (counted st.ports st.owners hosts.heard hosts.ben hosts.req) (counted st.ports st.owners hosts.heard hosts.ben hosts.pre)

-- the next state, the number, the sets and the rounds
unfoldable pub stepped : ℕ → State → ℕ → Mode → List ℕ → List ℕ → Stepped
stepped m st slot mode block out =
    cond (eqb (refusal m st slot mode block out) 0)
    (slot_on_hosts m st slot mode (hosts_of m st.ports block))
    (declined m st (refusal m st slot mode block out))

-- what the output holds: the grants of a slot that was served, and otherwise what it held
unfoldable pub output : ℕ → State → ℕ → Mode → List ℕ → ℕ → List ℕ → List ℕ
output m st slot mode block link out =
    let answer = (stepped m st slot mode block out).answer in
    cond (eqb answer.number 0) (granted st.ports (hosts_of m st.ports block).heard link answer.sets out) out
