-- A call of the card's `slot` as it was seen: the call, its answer, and what stood behind both references after it.
use Rattle.std.specs.Prelude.{◌≡◌, ◌⊎◌, Bool, true, ◌&&◌, List, ℕ, ◌^◌, ◌<◌, eqb, replicate}
use Rattle.laws.specs.Sets.{asks}
use Rattle.ports.specs.declared.state.State.{State}
use Rattle.ports.specs.Answer.{Answer}
use Rattle.lcf.specs.Advance.{advance}
use Rattle.card.specs.Slot.{Lent}
use Rattle.demands.specs.SlotCall.{SlotCall}
use Rattle.demands.specs.SlotShare as slots

pub record LentCall : Type 0 where
  pub call : SlotCall
  pub answer : Answer
  pub state : State
  pub out : List ℕ

-- it kept its promise on the state st
abbrev pub Kept : ℕ → State → LentCall → Type 0
Kept m st d = let c = d.call in Lent m st c.slot c.mode c.block c.link c.out d.answer d.state d.out

abbrev pub next : State → LentCall → State
next st d = d.state

abbrev pub served : State → LentCall → Bool
served st d = eqb d.answer.number 0

-- it is served, the pair (i, t) is in its answer, and host i's grant frame in the lent output has t in its set
abbrev pub connects : ℕ → ℕ → State → LentCall → Bool
connects i t st d = served st d && (asks d.answer.sets i t && slots.names st.ports d.out i t)

abbrev pub Waiting : ℕ → ℕ → State → LentCall → Type 0
Waiting i t st d = slots.Waiting i t st d.call

-- what is demanded of each call of a history
pub record Demanded (m : ℕ) (st : State) (d : LentCall) : Type 0 where
  -- a declined call keeps the state and the output, and answers with no connection and no round
  pub declined_keeps : (d.answer.number ≡ 0 → ⊥) → (d.state ≡ st) × (d.out ≡ d.call.out) × (d.answer.sets ≡ replicate m 0) × (d.answer.rounds ≡ 0)
  pub served_advances : d.answer.number ≡ 0 → d.state ≡ advance st
  -- a slot other than the one due gets 3 or 4
  pub other_declined : d.call.slot < 2 ^ 32 → (d.call.slot ≡ st.due → ⊥) → (d.answer.number ≡ 3) ⊎ (d.answer.number ≡ 4)
  pub no_target_twice : (i j t : ℕ) → asks d.answer.sets i t ≡ true → asks d.answer.sets j t ≡ true → i ≡ j
