-- The records of a capture, in the order of the file: the slot and the host of each, and which of the captured slots it is of.
use Rattle.std.specs.Prelude.{◌≡◌, ◌≢◌, ℕ, zero, suc, ◌+◌, ◌<◌, Bool, false, ◌&&◌, cond, List, [], ◌∷◌, ◌++◌, eqb}
use Rattle.laws.specs.Steps.{steps, some}
use Rattle.captures.specs.Capture.{packet_in, record_at, records_of}
use Rattle.imports.specs.Cut.{Record, host_of}

abbrev pub slot_of : Record → ℕ
slot_of r = (packet_in false r).slot

-- of record i of the capture s, of n ports
abbrev pub slot_at : ℕ → List ℕ → ℕ → ℕ
slot_at n s i = slot_of (record_at n s i)

abbrev pub host_at : ℕ → List ℕ → ℕ → ℕ
host_at n s i = host_of (record_at n s i)

-- its slot's place among the captured slots: the records of a slot stand together, and a slot number that comes round again is another slot
unfoldable pub turn : ℕ → List ℕ → ℕ → ℕ
turn n s zero = 0
turn n s (suc i) = cond (eqb (slot_at n s (suc i)) (slot_at n s i)) (turn n s i) (suc (turn n s i))

-- how many slots the first i records are of
unfoldable pub slots_of : ℕ → List ℕ → ℕ → ℕ
slots_of n s zero = 0
slots_of n s (suc i) = suc (turn n s i)

-- those of the first i records that are of the captured slot q, in their order
unfoldable pub of_slot : ℕ → List ℕ → ℕ → ℕ → List Record
of_slot n s q = steps (λ i rs. cond (eqb (turn n s i) q) (rs ++ (record_at n s i ∷ [])) rs) []

-- record i is the first of host h in the captured slot q
pub record First (n : ℕ) (s : List ℕ) (q h i : ℕ) : Type 0 where
  pub there : i < records_of n s
  pub turn_of_slot : turn n s i ≡ q
  pub of_host : host_at n s i ≡ h
  pub none_before : (j : ℕ) → j < i → turn n s j ≡ q → host_at n s j ≢ h

-- no record of that slot is of host h
abbrev pub Absent : ℕ → List ℕ → ℕ → ℕ → Type 0
Absent n s q h = (j : ℕ) → j < records_of n s → turn n s j ≡ q → host_at n s j ≢ h

-- record i is resent: one before it is of its slot and host
unfoldable pub resent_at : ℕ → List ℕ → ℕ → Bool
resent_at n s i = some (λ j. eqb (turn n s j) (turn n s i) && eqb (host_at n s j) (host_at n s i)) i

-- of the first i records, how many are resent, and those that are not
unfoldable pub resent_in : ℕ → List ℕ → ℕ → ℕ
resent_in n s = steps (λ i count. cond (resent_at n s i) (count + 1) count) 0

unfoldable pub kept_of : ℕ → List ℕ → ℕ → List Record
kept_of n s = steps (λ i rs. cond (resent_at n s i) rs (rs ++ (record_at n s i ∷ []))) []
