-- Where a count is made, the entries held are all there, and there are no more than the pool has cells.
use mathlib.Core.Path.{◌≡◌, refl, sym, ◌∙◌}
use mathlib.Core.Bool.{Bool, true, false, not, ◌||◌, cond}
use mathlib.Core.List.{List, [], ◌∷◌}
use Prim.Native.Nat.{ℕ, ◌+◌, ◌≤◌}
use Rattle.std.specs.List.{count_by}
use Rattle.std.proofs.lemmas.List.Sums.{sum_by-cons}
use native.Mathlib.Omega.{arith}
use lib.Dec.{eqb, ltb, leb}
use lib.ListN.{length, length-take}
use borrow.Author.Tests.{eqb-true, not-false}
use Rattle.laws.proofs.Tests.{arms}
use Rattle.queue_records.specs.Entries.{of_pair, those}
use Rattle.queue_records.specs.Records.{head_len, ports_of, count_of, entries_of, held_of}
use Rattle.queue_records.specs.Order.{in_order}
use Rattle.queue_records.proofs.Lists.{both_counts}
use Rattle.queue_records.proofs.Ordered.{Ordered, ordered}
use Rattle.queue_entries.specs.Counting.{count_number, counted}

-- how many there are, as the code counts them
pub length_those : (p : ℕ → Bool) (s : List ℕ) → length (those p s) ≡ count_by p s
unfolding those
length_those p [] = refl
length_those p (e ∷ s) = go (p e) (length_those p s) ∙ sym (sum_by-cons (λ x. cond (p x) 1 0) e s)
  where
    go : (b : Bool) → length (those p s) ≡ count_by p s → length (cond b (e ∷ those p s) (those p s)) ≡ cond b 1 0 + count_by p s
    go true i = omega arith
    go false i = omega arith

third_passed : (a b c : Bool) → ◌≡◌ {A = ℕ} (cond a 1 (cond b 17 (cond c 17 0))) 0 → c ≡ false
third_passed true b c z = absurd (omega arith)
third_passed false true c z = absurd (omega arith)
third_passed false false true z = absurd (omega arith)
third_passed false false false z = refl

counted_order : (m c : ℕ) (words : List ℕ) (i t : ℕ) → count_number m c words i t ≡ 0 → Ordered m c words
unfolding count_number
counted_order m c words i t e =
    ordered m c words (not-false _ (third_passed (ltb (ports_of words) 1 || ltb m (ports_of words)) (leb (ports_of words) i || leb (ports_of words) t) (not (in_order m c words)) e))

pub count_room : (m c : ℕ) (words : List ℕ) (i t : ℕ) → count_number m c words i t ≡ 0 → head_len + count_of words ≤ length words
count_room m c words i t e = let h = (counted_order m c words i t e).head in omega (arith, h.held, h.long)

-- no more than the pool has cells
pub count_few : (m c : ℕ) (words : List ℕ) (i t : ℕ) → (counted m c words i t).fields ≤ c
unfolding counted
count_few m c words i t = arms (λ n. n ≤ c) (eqb (count_number m c words i t) 0) _ _
    (λ e.
    let h = (counted_order m c words i t (eqb-true _ 0 e)).head in
    omega (arith, both_counts (of_pair m i t) (held_of words), length-take (count_of words) (entries_of words), h.held, h.cells))
    (λ _. omega arith)
