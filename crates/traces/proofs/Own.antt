-- A trace is told from its contents, its length and a body at a time, and so are its entries. `start` is a front of the file
-- that holds the contents; each body is the part that its entry names. So a program that holds no more than the contents and
-- one body decides as the calls on the whole file do.
use mathlib.Core.Path.{◌≡◌, refl, ap, ◌∙◌}
use mathlib.Core.Bool.{Bool, true, false, ◌&&◌}
use mathlib.Core.List.{List}
use Prim.Native.Nat.{ℕ, ◌≤◌}
use native.Mathlib.Omega.{arith}
use lib.Dec.{ltb}
use lib.ListN.{length, take}
use borrow.Author.Tests.{ltb-true}
use Rattle.laws.specs.Parts.{part}
use Rattle.laws.specs.Steps.{every}
use Rattle.laws.proofs.Every.{every_same}
use Rattle.laws.proofs.Tests.{both}
use Rattle.trace_parts.specs.Contents.{ports_of, count_of, entry_of, entry_body, contents_end, contents_sound, contents_fit, file_head, read_entry, entry_if, start_read}
use Rattle.trace_parts.specs.Body.{body_sound}
use Rattle.trace_parts.proofs.ContentsLaws.{has_known, contents}
use Rattle.trace_parts.proofs.ContentsOwn.{ports_own, count_own, entry_own, contents_own, fit_own, start_is, start_own}
use Rattle.traces.specs.Trace.{body_at, sound_at, trace_sound, trace_head, has_body, trace_entry}

-- body k of the file, and whether the file is a trace, both told by a start of it
abbrev body_by : List ℕ → List ℕ → ℕ → List ℕ
body_by start s k = part (entry_of start k).offset (entry_body start k) s

abbrev sound_by : ℕ → List ℕ → List ℕ → Bool
sound_by m start s =
    contents_fit m (length s) start && every (λ k. body_sound m (ports_of start) (entry_of start k).slots (body_by start s k)) (count_of start)

module _ (m : ℕ) (s : List ℕ) (e : ℕ) (h : contents_end s ≤ e) where
  pub trace_own : trace_sound m s ≡ sound_by m (take e s) s
  unfolding trace_sound sound_at body_at
  trace_own =
      rw (fit_own s e h m (length s), count_own s e h, ports_own s e h)
      (ap (λ (b : Bool). contents_fit m (length s) s && b) (every_same _ _ (count_of s) (λ k l. rw (entry_own s e h k l))))

  -- the head and the entries that the start of a trace shows are those of the whole file
  pub head_own : trace_sound m s ≡ true → file_head m (length s) (take e s) ≡ trace_head m s
  unfolding trace_sound
  head_own t =
      let (fit, all) = both (contents_fit m (length s) s) _ t in
      rw (fit_own s e h m (length s), fit, all, ports_own s e h, count_own s e h)

  pub entries_own : trace_sound m s ≡ true → (k : ℕ) → read_entry m (take e s) k ≡ trace_entry m s k
  unfolding trace_sound contents_fit has_body
  entries_own t k =
      let known = (both (contents_sound m s) _ (both (contents_fit m (length s) s) _ t).0).0 in
      rw (has_known (contents m (take e s) (contents_own s e h m ∙ known)) k, count_own s e h, t) (go (ltb k (count_of s)) refl)
    where
      go : (b : Bool) → ltb k (count_of s) ≡ b → entry_if b (take e s) k ≡ entry_if b s k
      go true l = rw (entry_own s e h k (ltb-true k (count_of s) l), ports_own s e h)
      go false l = refl

-- with the start that a program reads
pub trace_read : (m : ℕ) (s : List ℕ) → trace_sound m s ≡ sound_by m (start_read s) s
unfolding trace_sound contents_fit
trace_read m s = go (contents_sound m s) refl
  where
    go : (b : Bool) → contents_sound m s ≡ b → trace_sound m s ≡ sound_by m (start_read s) s
    go true e = rw (start_is m s e) (trace_own m s (contents_end s) (omega arith))
    go false e = rw (start_own m s, e)
