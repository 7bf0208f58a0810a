-- What the call answers and leaves, case by case.
use mathlib.Core.Path.{◌≡◌, refl, ap}
use mathlib.Core.Bool.{false}
use mathlib.Core.List.{List, ◌++◌}
use Prim.Native.Nat.{ℕ, ◌≤◌, ◌<◌}
use lib.ListN.{length, drop}
use borrow.Author.Tests.{lt-ltb, le-ltb}
use Rattle.frames.specs.Frame.{room_number, written}
use Rattle.trace_parts.specs.declared.contents.Head.{Head}
use Rattle.trace_parts.specs.Contents.{count_of, contents_sound, head_of, no_head, contents_head}
use Rattle.std.specs.Prelude.{Ok, Err}
use Rattle.refusals.specs.Numbers.{number, Answer, answer_of}
use Rattle.refusals.specs.declared.Refusal.{Refusal}
use Rattle.trace_parts.proofs.Shown.{shown, declined}
use Rattle.trace_writer.specs.Parts.{listed}
use Rattle.salvages.specs.declared.whole.Salvaged.{Salvaged}
use Rattle.salvages.specs.Salvage.{told_at, salvaged, no_salvage, salvage_number, salvage_answer, salvage_output, salvage_fates}
use Rattle.salvages.specs.Whole.{Whole}

module _ (m : ℕ) (s : List ℕ) where
  pub no_contents : (why : Refusal) → answer_of no_head (Err why) ≡ contents_head m s → (number why ≡ 14) × (contents_sound m s ≡ false)
  no_contents why is =
      let not = declined no_head (head_of s) (contents_sound m s) why is in
      (ap (λ (a : Answer Head). a.number) (rw not at is), not)

  pub whole : (h : Head) → answer_of no_head (Ok h) ≡ contents_head m s → Whole m s h.ports h.count
  whole h is =
      let (sound, same) = shown no_head (head_of s) (contents_sound m s) h is in
      record { sound = sound; ports = rw same; all = rw same }

module _ (m : ℕ) (s out fates : List ℕ) where
  -- the promise of a call that answers so and leaves that
  abbrev Ends : Answer Salvaged → List ℕ → List ℕ → Type 0
  Ends r o f = (r ≡ salvage_answer m s out fates) × (o ≡ salvage_output m s out fates) × (f ≡ salvage_fates m s out fates)

  pub unsound : contents_sound m s ≡ false → Ends (record { number = 14; fields = no_salvage }) out fates
  unfolding salvage_number salvage_answer written
  unsound e = rw e (refl, refl, refl)

  module _ {n count : ℕ} (w : Whole m s n count) where
    pub few_fates : length fates < count → Ends (record { number = 7; fields = no_salvage }) out fates
    unfolding salvage_number salvage_answer written
    few_fates h = rw (w.sound, lt-ltb (length fates) (count_of s) (rw w.all at h)) (refl, refl, refl)

    module _ (told : count ≤ length fates) where
      table : count_of s ≤ length fates
      table = rw w.all at told

      pub short : length out < length (salvaged m s) → Ends (record { number = 7; fields = no_salvage }) out fates
      unfolding salvage_number salvage_answer written room_number
      short h = rw (w.sound, le-ltb (length fates) (count_of s) table, lt-ltb (length out) (length (salvaged m s)) h) (refl, refl, refl)

      pub done : length (salvaged m s) ≤ length out → (o f : List ℕ) → o ≡ salvaged m s ++ drop (length (salvaged m s)) out
          → f ≡ listed (told_at m s) count ++ drop count fates → Ends (record { number = 0; fields = record { len = length (salvaged m s); count = count } }) o f
      unfolding salvage_number salvage_answer written room_number
      done h o f p q =
          rw (w.sound, le-ltb (length fates) (count_of s) table, le-ltb (length out) (length (salvaged m s)) h, ← w.all) (refl, p, q)
