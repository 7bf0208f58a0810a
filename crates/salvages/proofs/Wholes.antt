-- What is known of a file of sound contents, and of what is kept of it: they are parts of a trace.
use mathlib.Core.Path.{◌≡◌, sym, ap, ◌∙◌}
use mathlib.Core.Bool.{true}
use mathlib.Core.List.{List, [], ◌∷◌}
use Prim.Native.Nat.{ℕ, ◌+◌, ◌≤◌, ◌<◌}
use native.Mathlib.Omega.{arith}
use lib.ListN.{length, get_or}
use borrow.Author.Tests.{le-leb, lt-ltb, eq-eqb}
use Rattle.laws.specs.Parts.{parts}
use Rattle.laws.specs.Tests.{between}
use Rattle.laws.proofs.Every.{each_every}
use Rattle.laws.proofs.Tests.{every, in_range}
use Rattle.trace_parts.specs.Layout.{contents_len, most_slots, most_bodies}
use Rattle.trace_parts.specs.Contents.{ports_of, count_of, entry_of, has_entry}
use Rattle.trace_parts.specs.Body.{body_sound}
use Rattle.trace_parts.proofs.ContentsLaws.{Contents, contents, has_known}
use Rattle.traces.specs.Trace.{body_at, sound_at}
use Rattle.trace_writer.specs.Writer.{joined, counts_fit, parts_sound}
use Rattle.trace_writer.proofs.Fitting.{Parts, parts_sound_lem, length_trace}
use Rattle.trace_writer.proofs.Joining.{joins, joined_is}
use Rattle.trace_writer.proofs.Places.{length_listed, get_d_listed}
use Rattle.salvages.specs.Salvage.{kept_firsts, kept_slots, kept_bodies, salvaged}
use Rattle.salvages.specs.Whole.{Whole}
use Rattle.salvages.proofs.Chosen.{numbers, Numbers, numbered, by_number}

-- body j of those kept is body `origin j` of the file
module _ (m : ℕ) (s : List ℕ) where
  abbrev pub kept_numbers : List ℕ
  kept_numbers = numbers (sound_at m s) (count_of s)

  abbrev pub origin : ℕ → ℕ
  origin j = get_or kept_numbers j 0

  abbrev pub firsts : List ℕ
  firsts = kept_firsts m s (count_of s)

  abbrev pub slots : List ℕ
  slots = kept_slots m s (count_of s)

  abbrev pub bodies : List ℕ
  bodies = kept_bodies m s (count_of s)

  pub known_numbers : Numbers (sound_at m s) (count_of s) kept_numbers
  known_numbers = numbered (sound_at m s) (count_of s)

  pub many_firsts : length firsts ≡ length kept_numbers
  many_firsts = ap length (by_number (sound_at m s) (λ k. (entry_of s k).first ∷ []) (count_of s)) ∙ length_listed (λ j. (entry_of s (origin j)).first) (length kept_numbers)

  pub many_slots : length slots ≡ length kept_numbers
  many_slots = ap length (by_number (sound_at m s) (λ k. (entry_of s k).slots ∷ []) (count_of s)) ∙ length_listed (λ j. (entry_of s (origin j)).slots) (length kept_numbers)

  module _ (j : ℕ) (l : j < length kept_numbers) where
    pub first_at : get_or firsts j 0 ≡ (entry_of s (origin j)).first
    first_at =
        ap (λ (x : List ℕ). get_or x j 0) (by_number (sound_at m s) (λ k. (entry_of s k).first ∷ []) (count_of s))
        ∙ get_d_listed (λ i. (entry_of s (origin i)).first) (length kept_numbers) j l

    pub slots_at : get_or slots j 0 ≡ (entry_of s (origin j)).slots
    slots_at =
        ap (λ (x : List ℕ). get_or x j 0) (by_number (sound_at m s) (λ k. (entry_of s k).slots ∷ []) (count_of s))
        ∙ get_d_listed (λ i. (entry_of s (origin i)).slots) (length kept_numbers) j l

  module _ (c : Contents m s) where
    slots_fit : (j : ℕ) → j < length slots → between 1 (most_slots (ports_of s)) (get_or slots j 0) ≡ true
    slots_fit j l =
        let i : j < length kept_numbers = rw many_slots at l in
        let e = c.entries (origin j) (known_numbers.below j i) in
        rw (slots_at j i) (in_range e.least e.most)

    pub counts_fit_lem : counts_fit m (ports_of s) firsts slots ≡ true
    unfolding counts_fit
    counts_fit_lem =
        every (in_range c.some c.ports)
        (every (eq-eqb (length firsts) (length slots) (many_firsts ∙ sym many_slots))
        (every (le-leb (length slots) most_bodies (omega (arith, many_slots, known_numbers.few, c.count))) (each_every _ (length slots) slots_fit)))

    sound_each : (j : ℕ) → j < length slots → body_sound m (ports_of s) (get_or slots j 0) (body_at s (origin j)) ≡ true
    unfolding sound_at
    sound_each j l = let i : j < length kept_numbers = rw many_slots at l in rw (slots_at j i) (known_numbers.has j i)

    bodies_are : bodies ≡ parts (λ j. body_at s (origin j)) (length slots)
    bodies_are = by_number (sound_at m s) (body_at s) (count_of s) ∙ rw many_slots

    pub kept_sound : parts_sound m (ports_of s) firsts slots bodies ≡ true
    kept_sound = rw bodies_are (joins m (ports_of s) slots (λ j. body_at s (origin j)) sound_each firsts counts_fit_lem)

    pub kept-parts : Parts m (ports_of s) firsts slots bodies
    kept-parts = parts_sound_lem m (ports_of s) firsts slots bodies kept_sound

    pub body_at_lem : (j : ℕ) → j < length slots → joined (ports_of s) slots bodies j ≡ body_at s (origin j)
    body_at_lem j l = rw bodies_are (joined_is m (ports_of s) slots (λ i. body_at s (origin i)) sound_each j l)

    pub salvaged_long : length (salvaged m s) ≡ contents_len (length slots) + length bodies
    unfolding salvaged
    salvaged_long = length_trace (ports_of s) firsts slots bodies

-- a file, its ports and its body count
module _ {m : ℕ} {s : List ℕ} {n count : ℕ} (w : Whole m s n count) where
  pub known : Contents m s
  known = contents m s w.sound

  pub ports_fit : between 1 m n ≡ true
  ports_fit = rw w.ports (in_range known.some known.ports)

  pub few : count ≤ most_bodies
  few = rw w.all known.count

  pub has : (k : ℕ) → k < count → has_entry m s k ≡ true
  has k l = has_known known k ∙ lt-ltb k (count_of s) (rw w.all at l)
