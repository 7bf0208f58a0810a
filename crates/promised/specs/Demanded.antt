-- What is demanded of a C call on one lent state.
use Rattle.std.specs.Prelude.{◌≡◌, ◌⊎◌, true, List, ℕ, ◌^◌, ◌<◌}
use Rattle.laws.specs.Sets.{asks}
use Rattle.lcf.specs.Advance.{advance}
use Rattle.demands.specs.SlotCall as frames
use Rattle.demands.specs.Numbers.{Table}
use Rattle.table_bytes.specs.State.{state_of}
use Rattle.promised.specs.Call.{CCall, number, rounds, on_frames, Lengths}
use Rattle.promised.specs.Share.{holds}

-- a served C call is a served slot call on frames: what is proved of that one holds of these bytes
pub record Served (m : ℕ) (state : List ℕ) (d : CCall) : Type 0 where
  pub at_frames : frames.number m (state_of state) (on_frames m d) ≡ 0
  pub same_state : state_of d.left.state ≡ frames.next m (state_of state) (on_frames m d)
  pub same_table : (i t : ℕ) → holds d.left.table i t ≡ asks (frames.sets m (state_of state) (on_frames m d)) i t
  pub same_output : d.left.out ≡ frames.output_after m (state_of state) (on_frames m d)
  pub same_rounds : rounds d ≡ (frames.called m (state_of state) (on_frames m d)).answer.rounds

pub record Demanded (m : ℕ) (state : List ℕ) (d : CCall) : Type 0 where
  -- wrong lengths get 8, and all other calls the number of document 01's table
  pub wrong_lengths : (Lengths m state d → ⊥) → number d ≡ 8
  pub number_by_table : Lengths m state d → Table m (state_of state) (on_frames m d) (number d)
  -- a slot other than the one due gets 3 or 4
  pub other_declined : Lengths m state d → d.handed.slot < 2 ^ 32 → (d.handed.slot ≡ (state_of state).due → ⊥) → (number d ≡ 3) ⊎ (number d ≡ 4)
  -- a declined call keeps every lent byte, and reports no round
  pub declined_keeps : (number d ≡ 0 → ⊥) → (d.left.state ≡ state) × (d.left.out ≡ d.handed.out) × (d.left.table ≡ d.handed.table) × (rounds d ≡ 0)
  -- a served call leaves the bytes of the advanced state, and no target twice in the table's bytes
  pub served_advances : number d ≡ 0 → state_of d.left.state ≡ advance (state_of state)
  pub no_target_twice : number d ≡ 0 → (i j t : ℕ) → holds d.left.table i t ≡ true → holds d.left.table j t ≡ true → i ≡ j
