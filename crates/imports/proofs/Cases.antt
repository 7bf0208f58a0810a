-- A record more, case by case: it is declined, or it is of the open slot, of the next slot, or of a new body.
use mathlib.Core.Path.{◌≡◌, refl, ◌∙◌}
use mathlib.Core.Bool.{Bool, true, false}
use mathlib.Core.List.{[], ◌∷◌, ◌++◌}
use Prim.Native.Nat.{ℕ, ◌+◌}
use lib.Dec.{eqb}
use lib.ListN.{length}
use borrow.Author.Tests.{eqb-true, eqb-false, eq-eqb}
use Rattle.frames.specs.Part.{most_ports}
use Rattle.captures.specs.Capture.{packet_in}
use Rattle.captures.specs.declared.packet.Packet.{Packet}
use Rattle.import_steps.specs.Taking.{Known, same_slot, next_slot, heard, slot_begun, took, step_number, numbered, taken}
use Rattle.import_steps.specs.Laying.{fields_now}
use Rattle.import_steps.proofs.Fitting.{Taken, stepped, took_number}
use Rattle.imports.specs.Cut.{Record, Cut, all_bodies, cut_more}

abbrev pub next_of : Known → Packet → Known
next_of p k = slot_begun p k p.first (p.slots + 1) p.bodies

abbrev pub new_of : Known → Packet → Known
new_of p k = slot_begun p k k.slot 1 (p.bodies + 1)

abbrev pub declined_cut : Cut → ℕ → Cut
declined_cut g number = record { known = numbered number g.known; bodies = g.bodies; fields = g.fields; slots = g.slots; records = g.records }

abbrev pub same_cut : Cut → Record → Packet → Cut
same_cut g r k = record { known = heard g.known k; bodies = g.bodies; fields = g.fields; slots = g.slots; records = g.records ++ (r ∷ []) }

abbrev pub next_cut : Cut → Record → Packet → Cut
next_cut g r k = record { known = next_of g.known k; bodies = g.bodies; fields = g.fields; slots = g.slots ++ (g.records ∷ []); records = r ∷ [] }

abbrev pub new_cut : Cut → Record → Packet → Cut
new_cut g r k = record { known = new_of g.known k; bodies = all_bodies g; fields = fields_now g.known; slots = []; records = r ∷ [] }

module _ (low : Bool) (r : Record) (g : Cut) (P : Cut → Type 0) where
  abbrev p : Known
  p = g.known

  abbrev k : Packet
  k = packet_in low r

  abbrev number : ℕ
  number = step_number most_ports p (length r) k

  abbrev Ok : Type 0
  Ok = Taken most_ports p (length r) k

  took_same : same_slot p k ≡ true → took p k ≡ heard p k
  unfolding took
  took_same b = rw b

  took-next : same_slot p k ≡ false → next_slot p k ≡ true → took p k ≡ next_of p k
  unfolding took
  took-next b c = rw (b, c)

  took_new : same_slot p k ≡ false → next_slot p k ≡ false → took p k ≡ new_of p k
  unfolding took
  took_new b c = rw (b, c)

  pub cases : ((number ≡ 0 → ⊥) → P (declined_cut g number))
      → (Ok → same_slot p k ≡ true → P (same_cut g r k))
      → (Ok → same_slot p k ≡ false → next_slot p k ≡ true → P (next_cut g r k))
      → (Ok → same_slot p k ≡ false → next_slot p k ≡ false → P (new_cut g r k))
      → P (cut_more most_ports low r g)
  unfolding cut_more taken numbered
  cases declined same next new = go (eqb number 0) refl
    where
      zero : Ok → eqb (took p k).number 0 ≡ true
      zero ok = eq-eqb _ _ (took_number p k ∙ ok.number)

      next_case : (b : Bool) → next_slot p k ≡ b → Ok → eqb number 0 ≡ true → same_slot p k ≡ false → P (cut_more most_ports low r g)
      next_case true c ok a b = rw (a, zero ok, b, c, took-next b c) (next ok b c)
      next_case false c ok a b = rw (a, zero ok, b, c, took_new b c) (new ok b c)

      same_case : (b : Bool) → same_slot p k ≡ b → Ok → eqb number 0 ≡ true → P (cut_more most_ports low r g)
      same_case true b ok a = rw (a, zero ok, b, took_same b) (same ok b)
      same_case false b ok a = next_case (next_slot p k) refl ok a b

      go : (b : Bool) → eqb number 0 ≡ b → P (cut_more most_ports low r g)
      go true a = same_case (same_slot p k) refl (stepped most_ports p (length r) k (eqb-true number 0 a)) a
      go false a = rw (a, a) (declined (eqb-false number 0 a))
