-- What is known of a trace.
use mathlib.Core.Path.{◌≡◌, refl, ap, ◌∙◌}
use mathlib.Core.Bool.{Bool, true, false}
use mathlib.Core.List.{List, []}
use Prim.Native.Nat.{ℕ, ◌+◌, ◌≤◌, ◌<◌}
use native.Mathlib.Omega.{arith}
use lib.ListN.{length}
use borrow.Author.Tests.{ltb-true, lt-ltb}
use Rattle.laws.specs.Steps.{every}
use Rattle.laws.proofs.Every.{every_each}
use Rattle.laws.proofs.Tests.{both}
use Rattle.laws.specs.Parts.{part}
use Rattle.trace_parts.specs.Contents.{ports_of, count_of, entry_of, body_end, due, contents_fit, head_of, no_head, file_head, described, no_description, has_entry, read_entry}
use Rattle.trace_parts.specs.declared.contents.Described.{Described}
use Rattle.trace_parts.specs.declared.contents.Head.{Head}
use Rattle.std.specs.Prelude.{Ok, Err}
use Rattle.refusals.specs.Numbers.{number, Answer, answer_of}
use Rattle.refusals.specs.declared.Refusal.{Refusal}
use Rattle.trace_parts.proofs.Shown.{shown, declined}
use Rattle.trace_parts.proofs.BodyLaws.{Sound, sound, room}
use Rattle.trace_parts.proofs.ContentsLaws.{Contents, fitting, has_known}
use Rattle.traces.specs.Trace.{body_at, sound_at, trace_sound, trace_head, has_body, trace_entry, body_number, body_start, body_part}

pub record Trace (m : ℕ) (s : List ℕ) : Type 0 where
  pub contents : Contents m s
  pub ends : due s (count_of s) ≡ length s
  pub bodies : (k : ℕ) → k < count_of s → Sound m (ports_of s) (entry_of s k).slots (body_at s k)

pub trace : (m : ℕ) (s : List ℕ) → trace_sound m s ≡ true → Trace m s
unfolding trace_sound sound_at
trace m s e =
    let (a, b) = both (contents_fit m (length s) s) _ e in
    let (contents, ends) = fitting m (length s) s a in
    record { contents = contents; ends = ends; bodies = λ k l. sound _ _ _ _ (every_each (sound_at m s) (count_of s) b k l) }

-- ---- what the calls go by

-- a file that its contents fit holds the entries of its bodies
pub entry_there : (m : ℕ) (s : List ℕ) (k : ℕ) → contents_fit m (length s) s ≡ true → k < count_of s → has_entry m s k ≡ true
entry_there m s k fit l = has_known (fitting m (length s) s fit).0 k ∙ lt-ltb k (count_of s) l

-- the head of the file's contents: shown only if they fit, and then that of the trace if the bodies are sound
module _ (m : ℕ) (s : List ℕ) where
  pub unfit : (why : Refusal) → answer_of no_head (Err why) ≡ file_head m (length s) s → answer_of no_head (Err why) ≡ trace_head m s
  unfolding trace_sound
  unfit why is = let not = declined no_head (head_of s) (contents_fit m (length s) s) why is in rw (is, not)

  module _ (head : Head) (is : answer_of no_head (Ok head) ≡ file_head m (length s) s) where
    fit : contents_fit m (length s) s ≡ true
    fit = (shown no_head (head_of s) (contents_fit m (length s) s) head is).0

    same : head ≡ head_of s
    same = (shown no_head (head_of s) (contents_fit m (length s) s) head is).1

    pub fits : (contents_fit m (length s) s ≡ true) × (head.ports ≡ ports_of s) × (head.count ≤ count_of s)
    fits = (fit, rw same, rw same (omega arith))

    module _ (all : Bool) (each : all ≡ every (sound_at m s) head.count) where
      test : trace_sound m s ≡ all
      unfolding trace_sound
      test = rw (each, same, fit)

      pub told : all ≡ true → answer_of no_head (Ok head) ≡ trace_head m s
      told e = rw (test, e, same)

      pub refused : all ≡ false → record { number = 14; fields = no_head } ≡ trace_head m s
      refused e = rw (test, e)

-- the head of a trace: in a trace every entry below the count is that of a body
module _ (m : ℕ) (s : List ℕ) (k : ℕ) where
  pub entry_told : (head : Head) → answer_of no_head (Ok head) ≡ trace_head m s → read_entry m s k ≡ trace_entry m s k
  unfolding has_body
  entry_told head is =
      let (e, _) = shown no_head (head_of s) (trace_sound m s) head is in
      rw (has_known (trace m s e).contents k, e)

  pub entry_refused : (why : Refusal) → answer_of no_head (Err why) ≡ trace_head m s → answer_of no_description (Err why) ≡ trace_entry m s k
  unfolding has_body
  entry_refused why is =
      let not = declined no_head (head_of s) (trace_sound m s) why is in
      let known = ap (λ (a : Answer Head). a.number) (rw not at is) in
      rw (not, known)

-- a body that is found lies within the file
found : (m : ℕ) (s : List ℕ) (k : ℕ) → has_body m s k ≡ true → body_end s k ≤ length s
unfolding has_body body_at
found m s k e =
    let (a, b) = both (trace_sound m s) _ e in
    room (ports_of s) (entry_of s k).slots (entry_of s k).offset s ((trace m s a).bodies k (ltb-true k (count_of s) b)).whole.long

-- an entry names the body's place; where there is none, the part is empty
pub record Placed (m : ℕ) (s : List ℕ) (k : ℕ) (read : Described) : Type 0 where
  pub fits : read.entry.offset + read.len ≤ length s
  pub shows : part read.entry.offset read.len s ≡ body_part m s k
  pub starts : read.entry.offset ≡ body_start m s k
  pub numbered : body_number m s k ≡ 0

pub placed : (m : ℕ) (s : List ℕ) (k : ℕ) (read : Described) → answer_of no_description (Ok read) ≡ trace_entry m s k → Placed m s k read
unfolding body_at
placed m s k read e =
    let (h, is) = shown no_description (described s k) (has_body m s k) read e in
    rw is (record { fits = found m s k h; shows = rw h; starts = rw h; numbered = rw h })

pub unplaced : (m : ℕ) (s : List ℕ) (k : ℕ) (why : Refusal) → answer_of no_description (Err why) ≡ trace_entry m s k
    → (number why ≡ body_number m s k) × (body_part m s k ≡ [])
unplaced m s k why e =
    let not = declined no_description (described s k) (has_body m s k) why e in
    rw not (ap (λ (a : Answer Described). a.number) (rw not at e), refl)
