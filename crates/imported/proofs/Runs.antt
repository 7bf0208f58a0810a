-- The bodies that a capture is cut into: the first slot, the fields and the slots of each, and where the next begins.
use mathlib.Core.Path.{◌≡◌, refl, ap}
use mathlib.Core.Logic.{◌⊎◌, ◌≢◌}
use mathlib.Core.Bool.{Bool, true, false, cond}
use mathlib.Core.List.{List, [], ◌∷◌, ◌++◌}
use Prim.Native.Nat.{ℕ, suc, ◌+◌, ◌%◌, ◌^◌, ◌≤◌, ◌<◌}
use native.Mathlib.Nat.{le_refl, not-suc-le-zero}
use native.Mathlib.Omega.{arith}
use lib.Dec.{leb}
use lib.ListN.{length, get_or, get_or-append}
use lib.Seq.{get_or_at}
use Rattle.laws.specs.Steps.{steps}
use Rattle.laws.proofs.Loops.{same_steps}
use Rattle.laws.proofs.Steps.{upto}
use Rattle.ports.specs.declared.state.State.{State}
use Rattle.trace_parts.specs.Layout.{most_slots}
use Rattle.trace_parts.specs.Body.{no_fields, formed}
use Rattle.captures.specs.Capture.{packet_in, packet_of}
use Rattle.imports.specs.Cut.{Record, Body}
use Rattle.imports.proofs.Lists.{length_snoc}
use Rattle.imported.specs.Records.{slot_of}
use Rattle.imported.specs.Trace.{fields_after}

abbrev pub nobody : Body
nobody = record { first = 0; fields = no_fields; slots = [] }

-- the slots of the bodies before body c
unfoldable pub before : List Body → ℕ → ℕ
before bs = steps (λ c q. q + length (get_or bs c nobody).slots) 0

abbrev pub total : List Body → ℕ
total bs = before bs (length bs)

-- every record is of slot x
unfoldable pub AllOf : ℕ → List Record → Type 0
AllOf x [] = Unit {0}
AllOf x (r ∷ rs) = (slot_of r ≡ x) × AllOf x rs

pub all_more : (x : ℕ) (rs : List Record) (r : Record) → AllOf x rs → slot_of r ≡ x → AllOf x (rs ++ (r ∷ []))
unfolding AllOf
all_more x [] r a e = (e, tt)
all_more x (q ∷ rs) r a e = (a.0, all_more x rs r a.1 e)

-- what holds at each place, and of one more element
pub at_more : {A : Type 0} (P : ℕ → A → Type 0) (xs : List A) (x d : A) → ((k : ℕ) → k < length xs → P k (get_or xs k d)) → P (length xs) x
    → (k : ℕ) → k < suc (length xs) → P k (get_or (xs ++ (x ∷ [])) k d)
at_more P xs x d each one =
    upto (λ k. P k (get_or (xs ++ (x ∷ [])) k d)) (length xs) (λ k l. rw (get_or-append xs (x ∷ []) d k l) (each k l)) (rw (get_or_at xs x [] d (length xs) refl) one)

abbrev pub Numbered : ℕ → List (List Record) → Type 0
Numbered first slots = (k : ℕ) → k < length slots → AllOf ((first + k) % 2 ^ 32) (get_or slots k [])

pub numbered_more : (first : ℕ) (slots : List (List Record)) (rs : List Record) → Numbered first slots → AllOf ((first + length slots) % 2 ^ 32) rs
    → Numbered first (slots ++ (rs ∷ []))
numbered_more first slots rs each one k l = at_more (λ k x. AllOf ((first + k) % 2 ^ 32) x) slots rs [] each one k (rw (length_snoc slots rs) at l)

-- the byte order does not move the slot
pub slot_known : (low : Bool) (r : Record) → (packet_in low r).slot ≡ slot_of r
unfolding packet_in packet_of
slot_known low r = go (leb 21 (length r))
  where
    go : (b : Bool) → (cond b (packet_of low r) (record { captured = 0; slot = 0; host = 0 })).slot ≡ (cond b (packet_of false r) (record { captured = 0; slot = 0; host = 0 })).slot
    go true = refl
    go false = refl

before_more : (bs : List Body) (b : Body) (c : ℕ) → c ≤ length bs → before (bs ++ (b ∷ [])) c ≡ before bs c
unfolding before
before_more bs b c h = same_steps _ _ 0 c (λ k q l. ap (λ (x : Body). q + length x.slots) (get_or-append bs (b ∷ []) nobody k (omega arith)))

pub total_more : (bs : List Body) (b : Body) → total (bs ++ (b ∷ [])) ≡ total bs + length b.slots
unfolding before steps
total_more bs b = rw (length_snoc bs b, get_or_at bs b [] nobody (length bs) refl) (ap (λ (q : ℕ). q + length b.slots) (before_more bs b (length bs) (le_refl _)))

-- a body before which there are q slots; a body and the next
pub record Told (n mode : ℕ) (st : State) (q : ℕ) (b : Body) : Type 0 where
  pub small : b.first < 2 ^ 32
  pub fields : b.fields ≡ fields_after q mode st
  pub form : formed n b.fields ≡ true
  pub numbers : Numbered b.first b.slots

abbrev pub Apart : ℕ → Body → ℕ → Type 0
Apart n a first = (length a.slots ≡ most_slots n) ⊎ (first ≢ (a.first + length a.slots) % 2 ^ 32)

pub record Run (n mode : ℕ) (st : State) (bs : List Body) : Type 0 where
  pub told : (c : ℕ) → c < length bs → Told n mode st (before bs c) (get_or bs c nobody)
  pub apart : (c : ℕ) → suc c < length bs → Apart n (get_or bs c nobody) (get_or bs (suc c) nobody).first

module _ (n mode : ℕ) (st : State) where
  pub run_none : Run n mode st []
  run_none = record { told = λ c l. absurd (not-suc-le-zero l); apart = λ c l. absurd (not-suc-le-zero l) }

  pub run_more : (bs : List Body) (b : Body) → Run n mode st bs → Told n mode st (total bs) b → ((c : ℕ) → suc c ≡ length bs → Apart n (get_or bs c nobody) b.first) → Run n mode st (bs ++ (b ∷ []))
  run_more bs b run one next = record { told = λ c l. tell c (rw (length_snoc bs b) at l); apart = λ c l. part c (rw (length_snoc bs b) at l) }
    where
      tell : (c : ℕ) → c < suc (length bs) → Told n mode st (before (bs ++ (b ∷ [])) c) (get_or (bs ++ (b ∷ [])) c nobody)
      tell c l = rw (before_more bs b c (omega arith)) (at_more (λ k x. Told n mode st (before bs k) x) bs b nobody run.told one c l)

      part : (c : ℕ) → suc c < suc (length bs) → Apart n (get_or (bs ++ (b ∷ [])) c nobody) (get_or (bs ++ (b ∷ [])) (suc c) nobody).first
      part c l = rw (get_or-append bs (b ∷ []) nobody c (omega arith)) (at_more (λ k x. (d : ℕ) → suc d ≡ k → Apart n (get_or bs d nobody) x.first) bs b nobody (λ k l d e. rw (← e) (run.apart d (rw e l))) next (suc c) l c refl)
