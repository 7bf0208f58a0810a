-- How far from the best (document 02, item 11): over what is live and what was given, then of slot calls on frames and of calls on tables.
use Rattle.std.specs.Prelude.{◌≡◌, true, List, ℕ, ◌*◌, ◌≤◌, ◌<◌, length}
use Rattle.laws.specs.Sets.{asks}
use Rattle.ports.specs.declared.state.State.{State}
use Rattle.ports.specs.declared.state.Mode.{Mode}
use Rattle.demands.specs.Call as tables
use Rattle.demands.specs.Origin as at_tables
use Rattle.demands.specs.SlotCall.{SlotCall, number, sets}
use Rattle.demands.specs.Block.{Given, Live}
use Rattle.best.specs.Pairs.{Pair, ConflictFree, Exactly}

-- what a slot joins after its planned stage: the pairs of its table that were not given in rule 3
pub record Joined (Given : ℕ → ℕ → Type 0) (sets : List ℕ) (i t : ℕ) : Type 0 where
  pub connected : asks sets i t ≡ true
  pub not_given : Given i t → ⊥

-- no conflict-free set of its live requests has more than k times as many pairs as it joins after its planned stage
pub record AtMost (k : ℕ) (Live Given : ℕ → ℕ → Type 0) (sets : List ℕ) : Type 0 where
  pub joined : List Pair
  pub exactly : Exactly (Joined Given sets) joined
  pub at_most : (pairs : List Pair) → ConflictFree Live pairs → length pairs ≤ k * length joined

-- k is enough for slots of n ports in a mode, on shelves of at most m: for every served slot call
abbrev pub Enough : ℕ → ℕ → Mode → ℕ → Type 0
Enough m n mode k = (st : State) (c : SlotCall) → st.ports ≡ n → c.mode ≡ mode → number m st c ≡ 0
    → AtMost k (Live st c.block) (Given st c.block) (sets m st c)

-- and for every served call on tables that have a row for each port
abbrev pub EnoughOnTables : ℕ → ℕ → Mode → ℕ → Type 0
EnoughOnTables m n mode k = (st : State) (c : tables.Call) → st.ports ≡ n → c.mode ≡ mode → tables.number m st c ≡ 0 → n ≤ length c.req
    → AtMost k (at_tables.Live st c.req c.pre) (at_tables.Given st c.pre) (tables.sets m st c)

-- the bound of item 11: twice as many
abbrev pub factor : ℕ
factor = 2

-- the best: a conflict-free set of live requests, and none has more pairs
pub record Best (Live : ℕ → ℕ → Type 0) (best : List Pair) : Type 0 where
  pub conflict_free : ConflictFree Live best
  pub no_more : (pairs : List Pair) → ConflictFree Live pairs → length pairs ≤ length best

-- the best has so many pairs, and the slot joins so many after its planned stage
pub record Compared (Live Given : ℕ → ℕ → Type 0) (sets : List ℕ) (could did : ℕ) : Type 0 where
  pub best : List Pair
  pub is_best : Best Live best
  pub best_has : length best ≡ could
  pub joined : List Pair
  pub exactly : Exactly (Joined Given sets) joined
  pub joined-has : length joined ≡ did

-- a served slot of n ports in a mode that joins a pair, and in which the best has exactly k times as many as it joins
pub record Reached (m n : ℕ) (mode : Mode) (k : ℕ) : Type 0 where
  pub state : State
  pub call : SlotCall
  pub ports : state.ports ≡ n
  pub in_mode : call.mode ≡ mode
  pub served : number m state call ≡ 0
  pub joins : ℕ
  pub some : 0 < joins
  pub compared : Compared (Live state call.block) (Given state call.block) (sets m state call) (k * joins) joins
