-- A shelf of one operator, and the definitions of rules 1 and 2, of the slot and of the sets asked as they stood before ports had owners.
use Rattle.std.specs.Prelude.{◌≡◌, cond, List, ℕ, ◌<◌, eqb, length, get_or, replicate}
use Rattle.laws.specs.Sets.{tabled}
use Rattle.refusals.specs.Numbers.{Answer}
use Rattle.ports.specs.Owners.{operator}
use Rattle.ports.specs.Tables.{within}
use Rattle.ports.specs.Due.{declined}
use Rattle.ports.specs.declared.state.State.{State}
use Rattle.ports.specs.declared.state.Mode.{Mode}
use Rattle.ports.specs.Answer.{Stepped}
use Rattle.hearing.specs.Heard.{present}
use Rattle.lcf.specs.Slot.{slot_on_tables}
use Rattle.shelf.specs.Asked.{block_number}
use Rattle.shelf.specs.Hosts.{hosts_of}
use Rattle.shelf.specs.Grants.{granted}
use Rattle.shelf.specs.Step.{refusal}
use Rattle.shelf.specs.declared.hosts.Hosts.{Hosts}

-- all of n ports are one operator's, whatever the owners say at or above n
abbrev pub OneOperator : ℕ → ℕ → Type 0
OneOperator n owners = (p q : ℕ) → p < n → q < n → operator owners p ≡ operator owners q

-- req or pre as it counts: empty for a host that is unheard or disabled
unfoldable pub counted_one : ℕ → ℕ → List ℕ → List ℕ → List ℕ
counted_one n heard ben rows = tabled (length rows) (λ i. cond (present n heard ben i) (get_or rows i 0) 0) n

-- rules 1 and 2, then the slot on what counts of req and pre
unfoldable pub slot_on_hosts_one : ℕ → State → ℕ → Mode → Hosts → Stepped
slot_on_hosts_one m st slot mode hosts =
    slot_on_tables m st slot mode (counted_one st.ports hosts.heard hosts.ben hosts.req) (counted_one st.ports hosts.heard hosts.ben hosts.pre)

-- the next state, the number, the sets and the rounds
unfoldable pub stepped_one : ℕ → State → ℕ → Mode → List ℕ → List ℕ → Stepped
stepped_one m st slot mode block out =
    cond (eqb (refusal m st slot mode block out) 0)
    (slot_on_hosts_one m st slot mode (hosts_of m st.ports block))
    (declined m st (refusal m st slot mode block out))

-- what the output holds
unfoldable pub output_one : ℕ → State → ℕ → Mode → List ℕ → ℕ → List ℕ → List ℕ
output_one m st slot mode block link out =
    let answer = (stepped_one m st slot mode block out).answer in
    cond (eqb answer.number 0) (granted st.ports (hosts_of m st.ports block).heard link answer.sets out) out

-- the sets asked
unfoldable pub sets_asked_one : ℕ → ℕ → List ℕ → Answer (List ℕ)
sets_asked_one m n block =
    let hosts = hosts_of m n block in
    cond (eqb (block_number m n block) 0)
    (record { number = 0; fields = within n (counted_one n hosts.heard hosts.ben hosts.req) })
    (record { number = block_number m n block; fields = replicate m 0 })
