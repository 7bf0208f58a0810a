-- The slot call on frames, as the demands speak of it.
use Rattle.std.specs.Prelude.{Bool, List, ℕ, eqb}
use Rattle.ports.specs.declared.state.State.{State}
use Rattle.ports.specs.declared.state.Mode.{Mode}
use Rattle.ports.specs.Answer.{Stepped}
use Rattle.shelf.specs.Hosts.{hosts_of}
use Rattle.shelf.specs.Step.{stepped, output}
use Rattle.demands.specs.Call.{Call, counting}

-- a slot number, a mode with its limit, the block as the hosts sent it, the link word, and the bytes of the output that is lent
pub record SlotCall : Type 0 where
  pub slot : ℕ
  pub mode : Mode
  pub block : List ℕ
  pub link : ℕ
  pub out : List ℕ

-- what it gives on shelves of at most m ports: the next state, the number, the sets and the rounds
abbrev pub called : ℕ → State → SlotCall → Stepped
called m st c = stepped m st c.slot c.mode c.block c.out

abbrev pub next : ℕ → State → SlotCall → State
next m st c = (called m st c).state

abbrev pub number : ℕ → State → SlotCall → ℕ
number m st c = (called m st c).answer.number

abbrev pub sets : ℕ → State → SlotCall → List ℕ
sets m st c = (called m st c).answer.sets

-- served, and not declined
abbrev pub served : ℕ → State → SlotCall → Bool
served m st c = eqb (number m st c) 0

-- the bytes that the output holds after it
abbrev pub output_after : ℕ → State → SlotCall → List ℕ
output_after m st c = output m st c.slot c.mode c.block c.link c.out

-- the call on tables that it comes to: what counts of the hosts' req and pre, by rules 1 and 2
abbrev pub on_tables : ℕ → State → SlotCall → Call
on_tables m st c =
    let hosts = hosts_of m st.ports c.block in
    counting st hosts.heard hosts.ben (record { slot = c.slot; mode = c.mode; req = hosts.req; pre = hosts.pre })
