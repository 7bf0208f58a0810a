-- What an operator's hosts send to a slot call on frames, and what it sees of the call. `own` says which ports are the operator's.
use Rattle.std.specs.Prelude.{◌≡◌, Bool, true, List, ℕ, ◌*◌, ◌<◌, length, get_or, drop}
use Rattle.frames.specs.Part.{told_len}
use Rattle.ports.specs.Owners.{of}
use Rattle.ports.specs.declared.state.State.{State}
use Rattle.ports.specs.Answer.{Stepped}
use Rattle.demands.specs.Block.{frame_part}
use Rattle.demands.specs.SlotCall.{SlotCall, called, output_after}
use Rattle.demands.specs.SlotShare.{grant_part}

-- two blocks of one length, in which its hosts, of n, sent the same frames
pub record SameFrames (own : ℕ → Bool) (n : ℕ) (block block' : List ℕ) : Type 0 where
  pub as_long : length block ≡ length block'
  pub frames : (h : ℕ) → h < n → own h ≡ true → frame_part n block h ≡ frame_part n block' h

-- two calls that differ in the others' frames and in what the output held, and in nothing else
pub record SameToIt (own : ℕ → Bool) (n : ℕ) (c d : SlotCall) : Type 0 where
  pub slot : c.slot ≡ d.slot
  pub mode : c.mode ≡ d.mode
  pub frames : SameFrames own n c.block d.block
  pub link : c.link ≡ d.link
  pub room : length c.out ≡ length d.out

-- two answers that are the same to it: the number, the next state, and the sets of its own initiators. The rounds may differ.
pub record Unaffected (own : ℕ → Bool) (r v : Stepped) : Type 0 where
  pub number : r.answer.number ≡ v.answer.number
  pub state : r.state ≡ v.state
  pub sets : (i : ℕ) → own i ≡ true → get_or r.answer.sets i 0 ≡ get_or v.answer.sets i 0
  pub as_long : length r.answer.sets ≡ length v.answer.sets

-- two outputs of n hosts that are the same to it: its hosts' grant frames, and the bytes from the last grant frame on
pub record SeenAlike (own : ℕ → Bool) (n : ℕ) (out out' : List ℕ) : Type 0 where
  pub grants : (i : ℕ) → i < n → own i ≡ true → grant_part n out i ≡ grant_part n out' i
  pub rest : drop (n * told_len n) out ≡ drop (n * told_len n) out'

-- what operator a sends to two slot calls, and what it sees of them, on one state
abbrev pub Sent : ℕ → State → SlotCall → SlotCall → Type 0
Sent a st c d = SameToIt (of st.owners a) st.ports c d × SeenAlike (of st.owners a) st.ports c.out d.out

abbrev pub Seen : ℕ → ℕ → State → SlotCall → SlotCall → Type 0
Seen a m st c d = Unaffected (of st.owners a) (called m st c) (called m st d) × SeenAlike (of st.owners a) st.ports (output_after m st c) (output_after m st d)
