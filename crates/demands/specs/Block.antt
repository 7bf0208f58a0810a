-- Rules 1 to 4, said of the frames in a slot block of n hosts.
use Rattle.std.specs.Prelude.{◌≡◌, true, false, List, ℕ, ◌*◌, ◌<◌, length}
use Rattle.laws.specs.Parts.{part}
use Rattle.laws.specs.Sets.{has}
use Rattle.refusals.specs.Numbers.{Answer}
use Rattle.frames.specs.Config.{read_config}
use Rattle.frames.specs.Part.{frame_len}
use Rattle.frames.specs.declared.config.Config.{Config}
use Rattle.ports.specs.Owners.{operator}
use Rattle.ports.specs.declared.state.State.{State}
use Rattle.choices.specs.Choice.{place}
use Rattle.demands.specs.Choice.{target_start}

-- the bytes of the frame of host h
abbrev pub frame_part : ℕ → List ℕ → ℕ → List ℕ
frame_part n block h = part (h * frame_len n) (frame_len n) block

-- what it reads as: the number, 0 if the frame is correct, and the fields
abbrev pub says : ℕ → List ℕ → ℕ → Answer Config
says n block h = read_config (frame_part n block h)

-- rule 1: host h is heard
abbrev pub Heard : ℕ → List ℕ → ℕ → Type 0
Heard n block h = (says n block h).number ≡ 0

-- ports a and b are of one operator
abbrev pub Allied : ℕ → ℕ → ℕ → Type 0
Allied owners a b = operator owners a ≡ operator owners b

-- target t is in the req of host h, and of its operator; and so in its pre
pub record Requests (n owners : ℕ) (block : List ℕ) (h t : ℕ) : Type 0 where
  pub asked : has (says n block h).fields.req t ≡ true
  pub allied : Allied owners h t

pub record Plans (n owners : ℕ) (block : List ℕ) (h t : ℕ) : Type 0 where
  pub planned : has (says n block h).fields.pre t ≡ true
  pub allied : Allied owners h t

-- rule 2: host h is heard, is of host i's operator and has bit i clear in ben
pub record Clears (n owners : ℕ) (block : List ℕ) (i h : ℕ) : Type 0 where
  pub heard : Heard n block h
  pub allied : Allied owners i h
  pub clear : has (says n block h).fields.ben i ≡ false

-- rule 2: host i is heard, and no two different hosts of n clear its bit
pub record Enabled (n owners : ℕ) (block : List ℕ) (i : ℕ) : Type 0 where
  pub heard : Heard n block i
  pub not_by_two : (g h : ℕ) → g < n → h < n → Clears n owners block i g → Clears n owners block i h → g ≡ h

-- document 02, item 1: target t is asked by host i, both below n: the host is heard and enabled, and t is in its req
pub record Asks (n owners : ℕ) (block : List ℕ) (i t : ℕ) : Type 0 where
  pub initiator : i < n
  pub target : t < n
  pub enabled : Enabled n owners block i
  pub asked : Requests n owners block i t

-- demand 3: host i is enabled, asks for t and plans nothing, and no enabled host plans t
pub record Waits (n owners : ℕ) (block : List ℕ) (i t : ℕ) : Type 0 where
  pub enabled : Enabled n owners block i
  pub asked : Requests n owners block i t
  pub plans_nothing : (u : ℕ) → u < n → Plans n owners block i u → ⊥
  pub unplanned : (h : ℕ) → h < n → Enabled n owners block h → Plans n owners block h t → ⊥

-- rule 3: host h is enabled and plans target t
pub record Claimant (n owners : ℕ) (block : List ℕ) (t h : ℕ) : Type 0 where
  pub enabled : Enabled n owners block h
  pub plans : Plans n owners block h t

-- rule 3: target t is given to host i, its first claimant in the rotation that starts at (I + t - J) mod n
pub record Given (st : State) (block : List ℕ) (i t : ℕ) : Type 0 where
  pub initiator : i < st.ports
  pub target : t < st.ports
  pub claimant : Claimant st.ports st.owners block t i
  pub turn : ℕ
  pub turn_below : turn < st.ports
  pub in_turn : place st.ports (target_start st t) turn ≡ i
  pub first : (k : ℕ) → k < turn → Claimant st.ports st.owners block t (place st.ports (target_start st t) k) → ⊥

-- rule 4: enabled host i asks for target t, is given no target, and t is given to nobody
pub record Live (st : State) (block : List ℕ) (i t : ℕ) : Type 0 where
  pub initiator : i < st.ports
  pub target : t < st.ports
  pub enabled : Enabled st.ports st.owners block i
  pub asked : Requests st.ports st.owners block i t
  pub given_none : (u : ℕ) → Given st block i u → ⊥
  pub given_to_none : (j : ℕ) → Given st block j t → ⊥

-- two frames, both correct or neither, say the same but for qen
pub record AllButQen (a b : Answer Config) : Type 0 where
  pub same_number : a.number ≡ b.number
  pub same_req : a.fields.req ≡ b.fields.req
  pub same_pre : a.fields.pre ≡ b.fields.pre
  pub same_ben : a.fields.ben ≡ b.fields.ben

-- rule 2: two blocks of one length differ in qen alone, host by host
pub record QenAlone (n : ℕ) (a b : List ℕ) : Type 0 where
  pub same_length : length a ≡ length b
  pub each : (h : ℕ) → h < n → AllButQen (says n a h) (says n b h)
