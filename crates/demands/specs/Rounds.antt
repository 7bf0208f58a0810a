-- Rule 6: how many rounds a slot has, said without counting them as they are run.
use Rattle.std.specs.Prelude.{◌≡◌, ◌⊎◌, true, List, ℕ, ◌≤◌, ◌<◌}
use Rattle.laws.specs.Steps.{steps}
use Rattle.laws.specs.Sets.{asks}
use Rattle.ports.specs.declared.state.State.{State}
use Rattle.ports.specs.declared.state.Mode.{Mode}
use Rattle.ports.specs.declared.state.Mode.TheVariants.{Central, Distributed, Diagonal}
use Rattle.choices.specs.Join.{join_live}
use Rattle.distributed.specs.Distributed.{round}
use Rattle.planned.specs.Planned.{start}
use Rattle.choices.specs.declared.work.Work.{Work}
use Rattle.demands.specs.SlotCall.{SlotCall, sets, on_tables}

-- a request of one of n initiators is live
pub record SomeLive (n : ℕ) (live : List ℕ) : Type 0 where
  pub initiator : ℕ
  pub target : ℕ
  pub below : initiator < n
  pub asked : asks live initiator target ≡ true

-- what r rounds make of the work s
abbrev pub after_rounds : State → Work → ℕ → Work
after_rounds st = steps (λ k. round st)

-- r rounds are run on s: each begins with a live request, the limit allows them, and they stop at the limit or when no live request remains
pub record RoundsRun (st : State) (limit : ℕ) (s : Work) (r : ℕ) : Type 0 where
  pub each_live : (k : ℕ) → k < r → SomeLive st.ports (after_rounds st s k).live
  pub allowed : r ≤ limit
  pub stopped : (r ≡ limit) ⊎ (SomeLive st.ports (after_rounds st s r).live → ⊥)

-- the favoured pair comes before the rounds
abbrev pub begun : State → Work → Work
begun st s = join_live s st.initiator.0 st.target.0

-- a slot has r rounds and ends with these sets, s being the work after the planned stage: only the distributed form has rounds
abbrev pub RoundsOf : State → Mode → Work → ℕ → List ℕ → Type 0
RoundsOf st Central s r sets = r ≡ 0
RoundsOf st Diagonal s r sets = r ≡ 0
RoundsOf st (Distributed limit) s r sets = RoundsRun st limit (begun st s) r × (sets ≡ (after_rounds st (begun st s) r).held)

-- the slot call c has r rounds
abbrev pub HasRounds : ℕ → State → SlotCall → ℕ → Type 0
HasRounds m st c r = let tables = on_tables m st c in RoundsOf st c.mode (start st tables.req tables.pre) r (sets m st c)
