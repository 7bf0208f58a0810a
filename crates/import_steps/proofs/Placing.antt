-- What a record that is taken lets the call do that lays it, and how that call ends.
use Rattle.std.proofs.Common.{◌≡◌, ℕ, ◌+◌, ◌-◌, ◌*◌, ◌<◌, ◌≤◌, Bool, List, length, take, drop, refl, ◌∙◌, le_refl, arith, length-drop, length-take-le, le-ltb, lt-ltb, eq-eqb, ne_eqb}
use Rattle.frames.specs.Part.{most_ports}
use Rattle.frames.specs.Frame.{room_number}
use Rattle.trace_parts.specs.Body.{block_at}
use Rattle.captures.specs.Capture.{packet_len, record_len, packet_in, frame_of}
use Rattle.captures.specs.declared.packet.Packet.{Packet}
use Rattle.import_steps.specs.Taking.{Known, took, step_number, numbered, taken}
use Rattle.import_steps.specs.Laying.{last_block, placed, lay_number, lay_output}
use Rattle.import_steps.proofs.Fitting.{Taken, stepped, fitting, took-some, took_number}
use Rattle.import_steps.proofs.Rooms.{block_next, frame_within}

module _ (p : Known) (bytes : List ℕ) (k : Packet) (e : step_number most_ports p (length bytes) k ≡ 0) where
  abbrev n : ℕ
  n = p.state.ports

  abbrev slots : ℕ
  slots = (took p k).slots

  step : Taken most_ports p (length bytes) k
  step = stepped most_ports p (length bytes) k e

  pub some : 1 ≤ n
  some = step.start.some

  pub few : n ≤ most_ports
  few = step.start.ports

  -- the last block, and the frame in it
  pub block_last : last_block n slots + n * 11 ≡ block_at n slots
  block_last = block_next n slots (took-some p k)

  pub frame_last : last_block n slots + k.host * 11 + 11 ≤ block_at n slots
  frame_last = omega (arith, block_last, frame_within n k.host (fitting p k step.fits).host)

  -- the frame stands behind the host
  pub long : length bytes ≡ 32
  unfolding record_len packet_len
  long = step.long

  pub frame_is : take (length bytes - 21) (drop 21 bytes) ≡ frame_of n bytes
  unfolding frame_of
  frame_is = rw long

  pub frame_long : length (take (length bytes - 21) (drop 21 bytes)) ≡ 11
  frame_long = let whole = long in length-take-le (length bytes - 21) (drop 21 bytes) (rw length-drop (le_refl _)) ∙ omega arith

module _ (low : Bool) (p : Known) (r : List ℕ) where
  abbrev k : Packet
  k = packet_in low r

  abbrev number : ℕ
  number = step_number most_ports p (length r) k

  abbrev Ends : List ℕ → ℕ → List ℕ → Type 0
  Ends body number left = (number ≡ lay_number most_ports low p r body) × (left ≡ lay_output most_ports low p r body)

  pub declined : (body : List ℕ) → (number ≡ 0 → ⊥) → Ends body number body
  unfolding lay_number lay_output taken numbered
  declined body e = rw (ne_eqb _ _ e, ne_eqb _ _ e, ne_eqb _ _ e) (refl, refl)

  zero : number ≡ 0 → (took p k).number ≡ 0
  zero e = took_number p k ∙ (stepped most_ports p (length r) k e).number

  pub too_short : (body : List ℕ) → number ≡ 0 → length body < block_at p.state.ports (took p k).slots → Ends body 7 body
  unfolding lay_number lay_output taken room_number
  too_short body e h = rw (eq-eqb _ _ e, eq-eqb _ _ (zero e), lt-ltb _ _ h) (refl, refl)

  pub laid : (body left : List ℕ) → number ≡ 0 → block_at p.state.ports (took p k).slots ≤ length body → left ≡ placed p k (frame_of p.state.ports r) body → Ends body 0 left
  unfolding lay_number lay_output taken room_number
  laid body left e h l = rw (eq-eqb _ _ e, eq-eqb _ _ (zero e), le-ltb _ _ h) (refl, l)
