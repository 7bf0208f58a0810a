-- C calls: the word, the state's bytes, and the bytes of the output and of the table that an operator sees.
use mathlib.Core.Path.{◌≡◌, refl, sym, ap, ◌∙◌}
use mathlib.Core.List.{List, []}
use Prim.Native.Nat.{ℕ, ◌*◌, ◌≤◌, ◌<◌}
use native.Mathlib.Nat.{mul-le-mul_right}
use native.Mathlib.Decide.{dec_lt, ℕ_discrete}
use native.Mathlib.Omega.{arith}
use lib.ListN.{length, get_or, take, drop, drop_of_length-le}
use Rattle.laws.specs.Bytes.{big_endian, row}
use Rattle.laws.specs.Parts.{part}
use Rattle.laws.proofs.Bytes.{length_big}
use Rattle.laws.proofs.Parts.{length_parts, part_at}
use Rattle.frames.specs.Part.{most_ports}
use Rattle.ports.specs.Modes.{mode_of}
use Rattle.ports.specs.Owners.{of}
use Rattle.ports.specs.declared.state.State.{State}
use Rattle.demands.specs.SlotCall as frames
use Rattle.table_bytes.specs.State.{state_of}
use Rattle.promised.specs.Call.{CCall, number, Kept, on_frames, Lengths}
use Rattle.promised.proofs.Calls.{lengths?, number_there, wrong_lengths, declined_keeps, served_left}
use Rattle.operators.specs.Unaffected.{SameToIt, Unaffected}
use Rattle.operators.specs.Histories.{CSent, CSeen}
use Rattle.operators.proofs.Frames.{non_interference, same_output}

-- the bytes of one set, of two rows of sets that agree there
set_bytes : (w : ℕ) (xs ys : List ℕ) (i : ℕ) → length xs ≡ length ys → get_or xs i 0 ≡ get_or ys i 0 → part (i * w) w (row w xs) ≡ part (i * w) w (row w ys)
set_bytes w xs ys i long e = go (dec_lt i (length xs))
  where
    set : List ℕ → ℕ → List ℕ
    set xs i = big_endian w (get_or xs i 0)

    there : (xs : List ℕ) → i < length xs → part (i * w) w (row w xs) ≡ set xs i
    there xs l = part_at (set xs) w (λ k. length_big w _) (length xs) i l

    none : (xs : List ℕ) → length xs ≤ i → drop (i * w) (row w xs) ≡ []
    none xs l =
        let short : length (row w xs) ≤ i * w = omega (arith, length_parts (set xs) w (λ k. length_big w _) (length xs), mul-le-mul_right w l) in
        drop_of_length-le (row w xs) short

    go : Dec (i < length xs) → part (i * w) w (row w xs) ≡ part (i * w) w (row w ys)
    go (yes l) = there xs l ∙ ap (big_endian w) e ∙ sym (there ys (rw (← long) l))
    go (no l) = ap (take w) (none xs (omega arith) ∙ sym (none ys (omega arith)))

module _ (a m : ℕ) (most : m ≤ most_ports) (state : List ℕ) (d e : CCall) (kept : Kept m state d) (kept' : Kept m state e) (same : CSent a state d e) where
  abbrev st : State
  st = state_of state

  at_frames : SameToIt (of st.owners a) st.ports (on_frames m d) (on_frames m e)
  at_frames = record { slot = same.slot; mode = ap (mode_of m) same.mode; frames = same.frames; link = same.link; room = same.room }

  alike : Unaffected (of st.owners a) (frames.called m st (on_frames m d)) (frames.called m st (on_frames m e))
  alike = non_interference a m st (on_frames m d) (on_frames m e) at_frames

  -- both have the right lengths, or neither
  there : Lengths m state d → Lengths m state e
  there right = record { nine = rw (← same.lent) right.nine; two_each = rw (← same.rows) right.two_each }

  back : Lengths m state e → Lengths m state d
  back right = record { nine = rw same.lent right.nine; two_each = rw same.rows right.two_each }

  same_number : number d ≡ number e
  same_number = go (lengths? m state d)
    where
      go : Dec (Lengths m state d) → number d ≡ number e
      go (yes right) = number_there m state d kept right ∙ alike.number ∙ sym (number_there m state e kept' (there right))
      go (no wrong) = wrong_lengths m state d kept wrong ∙ sym (wrong_lengths m state e kept' (λ right. wrong (back right)))

  pub c_seen : CSeen a state d e
  c_seen = go (ℕ_discrete (number d) 0)
    where
      go : Dec (number d ≡ 0) → CSeen a state d e
      go (yes done) =
          let left = served_left m state d kept done in
          let left' = served_left m state e kept' (sym same_number ∙ done) in
          record {
            number = same_number;
            state = rw (left, left', same.lent, alike.state) refl;
            output = rw (left, left') (same_output a m st (on_frames m d) (on_frames m e) at_frames most same.output);
            table = λ i o. rw (left, left') (set_bytes 2 (frames.sets m st (on_frames m d)) (frames.sets m st (on_frames m e)) i alike.as_long (alike.sets i o));
          }
      go (no some) =
          let left = declined_keeps m state d kept some in
          let left' = declined_keeps m state e kept' (λ z. some (same_number ∙ z)) in
          record { number = same_number; state = rw (left, left') refl; output = rw (left, left') same.output; table = rw (left, left') same.table }
