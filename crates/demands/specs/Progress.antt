-- What a round of the distributed form achieves (rule 6), and what is left when a slot ends.
use Rattle.std.specs.Prelude.{◌≡◌, ◌⊎◌, true, false, List, ℕ, suc, ◌≤◌, ◌<◌, length}
use Rattle.laws.specs.Sets.{asks}
use Rattle.ports.specs.declared.state.State.{State}
use Rattle.ports.specs.declared.state.Mode.{Mode}
use Rattle.ports.specs.declared.state.Mode.TheVariants.{Central, Distributed, Diagonal}
use Rattle.choices.specs.declared.work.Work.{Work}
use Rattle.demands.specs.Rounds.{after_rounds}

-- there is a row for each of n ports, and what is live is of the ports
pub record Within (n : ℕ) (s : Work) : Type 0 where
  pub rows : n ≤ length s.live
  pub room : n ≤ length s.held
  pub inside : (i t : ℕ) → asks s.live i t ≡ true → (i < n) × (t < n)

-- a pair is joined whose request was live: its initiator holds the target, and asks for nothing more
pub record Joins (before after : Work) : Type 0 where
  pub initiator : ℕ
  pub target : ℕ
  pub asked : asks before.live initiator target ≡ true
  pub held : asks after.held initiator target ≡ true
  pub over : (u : ℕ) → asks after.live initiator u ≡ false

-- the live requests fall: none is new, and one is live no longer
pub record Falls (before after : List ℕ) : Type 0 where
  pub none_new : (i t : ℕ) → asks after i t ≡ true → asks before i t ≡ true
  pub initiator : ℕ
  pub target : ℕ
  pub was : asks before initiator target ≡ true
  pub gone : asks after initiator target ≡ false

-- each of r rounds on s joins a pair, so that the live requests fall, and there are no more rounds than ports
pub record RoundsJoin (st : State) (s : Work) (r : ℕ) : Type 0 where
  pub joins : (k : ℕ) → k < r → Joins (after_rounds st s k) (after_rounds st s (suc k))
  pub falls : (k : ℕ) → k < r → Falls (after_rounds st s k).live (after_rounds st s (suc k)).live
  pub ports_at_most : r ≤ st.ports

-- the modes that leave no live request of n ports: the central and the diagonal-first form, and the distributed form with a limit of n or more
abbrev pub Full : ℕ → Mode → Type 0
Full n Central = Unit {0}
Full n (Distributed limit) = n ≤ limit
Full n Diagonal = Unit {0}

-- initiator i holds a target, or target t is held; both where the pair is connected
abbrev pub Busy : List ℕ → ℕ → ℕ → Type 0
Busy sets i t = ((u : ℕ) × (asks sets i u ≡ true)) ⊎ ((j : ℕ) × (asks sets j t ≡ true))
