-- What a caller has whose call was answered 0: a trace that keeps the sound bodies of the file, in the front of the output, and the fate of each body.
use mathlib.Core.Path.{◌≡◌, refl, ◌∙◌}
use mathlib.Core.Bool.{Bool, true, false, cond}
use mathlib.Core.List.{List}
use Prim.Native.Nat.{ℕ, ◌<◌}
use native.Mathlib.Omega.{arith}
use lib.Dec.{ltb}
use lib.ListN.{length, get_or, take, drop, get_or-append}
use lib.Seq.{take_at}
use Rattle.laws.specs.Bytes.{Bytes}
use Rattle.frames.specs.Frame.{room_number, written}
use Rattle.frames.specs.Part.{most_ports}
use Rattle.trace_parts.specs.Contents.{count_of, contents_sound}
use Rattle.trace_writer.specs.Parts.{listed}
use Rattle.trace_writer.proofs.Places.{length_listed, get_d_listed}
use Rattle.kept_bodies.specs.Keeps.{Keeps}
use Rattle.salvages.specs.Salvage.{told_at, salvaged, salvage_number, salvage_answer, salvage_output, salvage_fates}
use Rattle.kept_bodies.proofs.Salvages.{keeps}
use Rattle.salvages.proofs.Wholes.{origin}

module _ (m : ℕ) (s out fates : List ℕ) (e : salvage_number m s out fates ≡ 0) where
  pub had_contents : contents_sound m s ≡ true
  unfolding salvage_number
  had_contents = go (contents_sound m s) e
    where
      go : (b : Bool) → cond b (cond (ltb (length fates) (count_of s)) 7 (room_number (length (salvaged m s)) out)) 14 ≡ 0 → b ≡ true
      go true z = refl
      go false z = absurd (omega arith)

  pub output : take (salvage_answer m s out fates).fields.len (salvage_output m s out fates) ≡ salvaged m s
  unfolding salvage_answer written
  output = rw e (take_at (salvaged m s) (drop (length (salvaged m s)) out) (length (salvaged m s)) refl)

  pub told : (k : ℕ) → k < count_of s → get_or (salvage_fates m s out fates) k 0 ≡ told_at m s k
  unfolding written
  told k l =
      rw e
      (get_or-append (listed (told_at m s) (count_of s)) (drop (count_of s) fates) 0 k (rw (length_listed (told_at m s) (count_of s)) l)
      ∙ get_d_listed (told_at m s) (count_of s) k l)

pub call_keeps : (s out fates : List ℕ) → Bytes s → salvage_number most_ports s out fates ≡ 0
    → Keeps most_ports s (take (salvage_answer most_ports s out fates).fields.len (salvage_output most_ports s out fates)) (origin most_ports s)
call_keeps s out fates bytes e = rw (output most_ports s out fates e) (keeps s bytes (had_contents most_ports s out fates e))
