-- A capture, cut into bodies, these into slots, and a slot into the records of its packets: what each record adds.
use Rattle.std.specs.Prelude.{ℕ, Bool, false, cond, List, [], ◌∷◌, ◌++◌, map, eqb, length, get_or, replicate}
use Rattle.laws.specs.Steps.{steps}
use Rattle.laws.specs.Parts.{parts}
use Rattle.frames.specs.Part.{frame_len}
use Rattle.trace_parts.specs.declared.body.Fields.{Fields}
use Rattle.trace_writer.specs.Sealing.{body_of}
use Rattle.captures.specs.Capture.{packet_in, frame_of, record_at}
use Rattle.import_steps.specs.Taking.{Known, begun, same_slot, next_slot, taken}
use Rattle.import_steps.specs.Laying.{fields_now}

abbrev pub Record : Type 0
Record = List ℕ

-- the host of a record
abbrev pub host_of : Record → ℕ
host_of r = (packet_in false r).host

-- the first frame for a host among the records of a slot counts; if there is none, the frame is zeros
unfoldable pub frame_for : ℕ → List Record → ℕ → List ℕ
frame_for n [] h = replicate (frame_len n) 0
frame_for n (r ∷ rs) h = cond (eqb (host_of r) h) (frame_of n r) (frame_for n rs h)

-- the block of a slot
unfoldable pub block_of : ℕ → List Record → List ℕ
block_of n rs = parts (frame_for n rs) n

-- a body: its first slot, its fields, and the records of each of its slots
pub record Body : Type 0 where
  pub first : ℕ
  pub fields : Fields
  pub slots : List (List Record)

-- lists one after the other
unfoldable pub joined : List (List ℕ) → List ℕ
joined xs = parts (λ k. get_or xs k []) (length xs)

-- the blocks of slots, the bytes of a body, and of bodies
abbrev pub blocks_of : ℕ → List (List Record) → List ℕ
blocks_of n slots = joined (map (block_of n) slots)

unfoldable pub body_bytes : ℕ → Body → List ℕ
body_bytes n b = body_of b.fields (blocks_of n b.slots)

abbrev pub joined_bytes : ℕ → List Body → List ℕ
joined_bytes n bs = joined (map (body_bytes n) bs)

-- what is known; the bodies that are complete; the open body, in which the open slot's records stand by themselves
pub record Cut : Type 0 where
  pub known : Known
  pub bodies : List Body
  pub fields : Fields
  pub slots : List (List Record)
  pub records : List Record

-- the open body as it would be if it ended here, and all bodies then
abbrev pub open_body : Cut → Body
open_body g = record { first = g.known.first; fields = g.fields; slots = g.slots ++ (g.records ∷ []) }

unfoldable pub all_bodies : Cut → List Body
all_bodies g = cond (begun g.known) (g.bodies ++ (open_body g ∷ [])) g.bodies

-- nothing yet
abbrev pub uncut : Known → Cut
uncut p = record { known = p; bodies = []; fields = fields_now p; slots = []; records = [] }

-- a record more: of the open slot, of the next slot, or of a new body
unfoldable pub cut_more : ℕ → Bool → Record → Cut → Cut
cut_more m low r g =
    let p = g.known in
    let q = taken m low p r in
    let k = packet_in low r in
    cond (eqb q.number 0)
    (cond (same_slot p k) (record { known = q; bodies = g.bodies; fields = g.fields; slots = g.slots; records = g.records ++ (r ∷ []) })
    (cond (next_slot p k) (record { known = q; bodies = g.bodies; fields = g.fields; slots = g.slots ++ (g.records ∷ []); records = r ∷ [] })
    (record { known = q; bodies = all_bodies g; fields = fields_now p; slots = []; records = r ∷ [] })))
    (record { known = q; bodies = g.bodies; fields = g.fields; slots = g.slots; records = g.records })

-- the first i records of the capture s, of n ports
unfoldable pub cut : ℕ → Bool → ℕ → List ℕ → Known → ℕ → Cut
cut m low n s p = steps (λ i g. cut_more m low (record_at n s i) g) (uncut p)
