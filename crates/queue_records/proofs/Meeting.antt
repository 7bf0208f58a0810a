-- What is met: where an entry of it is in the list.
use mathlib.Core.Path.{◌≡◌, refl, sym, ap, ◌∙◌}
use mathlib.Core.Bool.{Bool, true, false, cond}
use mathlib.Core.List.{List, [], ◌∷◌}
use Prim.Native.Nat.{ℕ, zero, suc, ◌+◌, ◌≤◌, ◌<◌}
use native.Mathlib.Omega.{arith}
use lib.Dec.{eqb, ltb}
use lib.ListN.{length, get_or, set, take, replicate, length-set, length-replicate}
use lib.Seq.{get_or-set_same, get_or-set_other, take-suc, take-length}
use borrow.Author.Tests.{eqb-true, eqb-false, lt-ltb}
use Rattle.laws.specs.Steps.{steps}
use Rattle.laws.proofs.Rows.{no_bits}
use Rattle.queue_records.specs.Entries.{those}
use Rattle.queue_records.specs.Marks.{marked, met}
use Rattle.queue_records.proofs.Lists.{count_append}

module _ (f : ℕ → ℕ) (entries : List ℕ) (n : ℕ) where
  abbrev up_to : ℕ → List ℕ
  up_to = steps (λ k s. set s (f (get_or entries k 0)) 1) (replicate n 0)

  length_up_to : (k : ℕ) → length (up_to k) ≡ n
  unfolding steps
  length_up_to zero = length-replicate n 0
  length_up_to (suc k) = length-set (up_to k) _ 1 ∙ length_up_to k

  module _ (x : ℕ) (room : x < n) where
    abbrev here : ℕ → Bool
    here e = eqb (f e) x

    met_up_to : (k : ℕ) → k ≤ length entries → met (up_to k) x ≡ ltb 0 (length (those here (take k entries)))
    unfolding steps those
    met_up_to zero h = ap (λ d. eqb d 1) (no_bits n x)
    met_up_to (suc k) h = rw (take-suc entries k 0 h, count_append here) (go (here e) refl (met_up_to k (omega arith)))
      where
        e : ℕ
        e = get_or entries k 0

        go : (b : Bool) → here e ≡ b → met (up_to k) x ≡ ltb 0 (length (those here (take k entries)))
            → met (set (up_to k) (f e) 1) x ≡ ltb 0 (length (those here (take k entries)) + length (cond b (e ∷ []) []))
        go true y i =
            let is : f e ≡ x = eqb-true (f e) x y in
            rw (is, get_or-set_same (up_to k) x 1 0 (omega (arith, length_up_to k))) (sym (lt-ltb 0 (length (those here (take k entries)) + 1) (omega arith)))
        go false y i =
            let none : length (those here (take k entries)) + 0 ≡ length (those here (take k entries)) = omega arith in
            rw (get_or-set_other (up_to k) (f e) x 1 0 (λ z. eqb-false (f e) x y (sym z)), none) i

    pub met_some : met (marked f entries (replicate n 0)) x ≡ ltb 0 (length (those here entries))
    met_some = rw take-length at (met_up_to (length entries) (omega arith))
