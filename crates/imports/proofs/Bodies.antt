-- A body more: its bytes, and that all bodies are sound.
use mathlib.Core.Path.{◌≡◌, sym, ap, ◌∙◌}
use mathlib.Core.Logic.{⊎_elim}
use mathlib.Core.Bool.{true}
use mathlib.Core.List.{List, [], ◌∷◌, ◌++◌, map, map-append}
use Prim.Native.Nat.{ℕ, suc, ◌+◌, ◌*◌, ◌≤◌, ◌<◌}
use native.Mathlib.Nat.{suc-mul, le_of_suc-le-suc, eq-or-lt_of_le}
use native.Mathlib.Omega.{arith}
use lib.ListN.{length, get_or, length-append, length-map, get_or-append}
use lib.Seq.{get_or_at}
use Rattle.frames.specs.Part.{most_ports, frame_len}
use Rattle.trace_parts.specs.Layout.{block_len, most_slots}
use Rattle.trace_parts.specs.Body.{formed, body_sound}
use Rattle.trace_parts.specs.declared.body.Fields.{Fields}
use Rattle.trace_writer.proofs.Fitting.{length_body}
use Rattle.trace_writer.proofs.SealedBodies as sealed
use Rattle.imports.specs.Cut.{Record, frame_for, block_of, Body, blocks_of, body_bytes, joined_bytes}
use Rattle.imports.specs.Import.{counts_of}
use Rattle.imports.proofs.Lists.{length_snoc, joined_map}
use Rattle.imports.proofs.Blocks.{length_block}

-- every body is sound for its slot count
abbrev pub SoundBodies : ℕ → List Body → Type 0
SoundBodies n bs = (k : ℕ) → k < length bs → body_sound most_ports n (get_or (counts_of bs) k 0) (get_or (map (body_bytes n) bs) k []) ≡ true

-- the bytes of a slot more
pub long_more : (n : ℕ) (slots : List (List Record)) (rs : List Record) → length (blocks_of n slots) ≡ length slots * block_len n
    → ((h : ℕ) → length (frame_for n rs h) ≡ frame_len n) → length (blocks_of n (slots ++ (rs ∷ []))) ≡ suc (length slots) * block_len n
long_more n slots rs long framed =
    ap length (joined_map (block_of n) slots rs) ∙ length-append (blocks_of n slots) (block_of n rs) ∙ rw (long, length_block n rs framed) (sym (suc-mul (length slots) (block_len n)))

length_bytes : (n : ℕ) (b : Body) → length (body_bytes n b) ≡ 3 + length (blocks_of n b.slots) + 2
unfolding body_bytes
length_bytes n b = length_body b.fields (blocks_of n b.slots)

-- the bytes of the open body behind others
pub open_length : (n : ℕ) (bs : List Body) (first : ℕ) (f : Fields) (slots : List (List Record)) (rs : List Record)
    → length (blocks_of n slots) ≡ length slots * block_len n → ((h : ℕ) → length (frame_for n rs h) ≡ frame_len n)
    → length (joined_bytes n (bs ++ (record { first = first; fields = f; slots = slots ++ (rs ∷ []) } ∷ []))) ≡ length (joined_bytes n bs) + (5 + suc (length slots) * block_len n)
open_length n bs first f slots rs long framed =
    let b : Body = record { first = first; fields = f; slots = slots ++ (rs ∷ []) } in
    let blocks = long_more n slots rs long framed in
    let size : length (body_bytes n b) ≡ 5 + suc (length slots) * block_len n = length_bytes n b ∙ rw blocks (omega arith) in
    ap length (joined_map (body_bytes n) bs b) ∙ length-append (joined_bytes n bs) (body_bytes n b) ∙ ap (λ (z : ℕ). length (joined_bytes n bs) + z) size

pub open_sound : (n : ℕ) (b : Body) → 1 ≤ n → n ≤ most_ports → 1 ≤ length b.slots → length b.slots ≤ most_slots n → formed n b.fields ≡ true
    → length (blocks_of n b.slots) ≡ length b.slots * block_len n → body_sound most_ports n (length b.slots) (body_bytes n b) ≡ true
unfolding body_bytes
open_sound n b some ports least most form long =
    sealed.sound_back n (length b.slots) b.fields (blocks_of n b.slots) (record { some = some; ports = ports; least = least; most = most; long = long; form = form })

module _ (n : ℕ) (bs : List Body) (b : Body) where
  abbrev SoundAt : ℕ → Type 0
  SoundAt k = body_sound most_ports n (get_or (counts_of (bs ++ (b ∷ []))) k 0) (get_or (map (body_bytes n) (bs ++ (b ∷ []))) k []) ≡ true

  sound_last : (k : ℕ) → k ≡ length bs → body_sound most_ports n (length b.slots) (body_bytes n b) ≡ true → SoundAt k
  sound_last k e one =
      rw (map-append (λ (c : Body). length c.slots) bs (b ∷ []), map-append (body_bytes n) bs (b ∷ []), get_or_at (counts_of bs) (length b.slots) [] 0 k (length-map bs (λ (c : Body). length c.slots) ∙ sym e), get_or_at (map (body_bytes n) bs) (body_bytes n b) [] [] k (length-map bs (body_bytes n) ∙ sym e)) one

  sound_before : (k : ℕ) → k < length bs → SoundBodies n bs → SoundAt k
  sound_before k l each =
      let counts : k < length (counts_of bs) = rw (length-map bs (λ (c : Body). length c.slots)) l in
      let bytes : k < length (map (body_bytes n) bs) = rw (length-map bs (body_bytes n)) l in
      rw (map-append (λ (c : Body). length c.slots) bs (b ∷ []), map-append (body_bytes n) bs (b ∷ []), get_or-append (counts_of bs) (length b.slots ∷ []) 0 k counts, get_or-append (map (body_bytes n) bs) (body_bytes n b ∷ []) [] k bytes) (each k l)

  pub sound_more : SoundBodies n bs → body_sound most_ports n (length b.slots) (body_bytes n b) ≡ true → SoundBodies n (bs ++ (b ∷ []))
  sound_more each one k l =
      ⊎_elim (λ e. sound_last k e one) (λ b. sound_before k b each) (eq-or-lt_of_le (le_of_suc-le-suc (rw (length_snoc bs b) at l)))
