-- Lists in which nothing is twice are counted by where their members are found.
use mathlib.Core.Path.{◌≡◌, refl, sym, ◌∙◌}
use mathlib.Core.Logic.{◌⊎◌, inl, inr, ⊎_elim}
use mathlib.Core.List.Memᴰ
use mathlib.Core.List.{List, [], ◌∷◌, Memᴰ}
use Prim.Native.Nat.{ℕ, suc, ◌+◌, ◌≤◌}
use native.Mathlib.Omega.{arith}
use lib.ListN.{length}
use Rattle.best.specs.Pairs.{Pair, initiators, targets, NoneTwice, Exactly}

-- a list without one of its members
taken_out : {A : Type 0} {x : A} {ys : List A} → Memᴰ x ys
    → (rest : List A) × (length ys ≡ suc (length rest)) × ((z : A) → Memᴰ z ys → (z ≡ x → ⊥) → Memᴰ z rest)
taken_out {x} (Memᴰ.head {x = y} {xs = ys} e) =
    (ys, refl, λ z m other. ⊎_elim (λ q. absurd (other (q ∙ sym e))) (λ n. n) (Memᴰ.cases_cons m))
taken_out {x} (Memᴰ.tail {x = y} {xs = ys} m) =
    let (rest, longer, others) = taken_out m in
    (y ∷ rest, omega arith, λ z n other. ⊎_elim Memᴰ.head (λ k. Memᴰ.tail (others z k other)) (Memᴰ.cases_cons n))

-- a list with nothing twice is no longer than one that has all its members
pub no_longer : {A : Type 0} (xs ys : List A) → NoneTwice xs → ((x : A) → Memᴰ x xs → Memᴰ x ys) → length xs ≤ length ys
unfolding NoneTwice
no_longer [] ys once inside = omega arith
no_longer (x ∷ xs) ys (fresh, once) inside =
    let (rest, longer, others) = taken_out (inside x (Memᴰ.head refl)) in
    omega (arith, no_longer xs rest once (λ z m. others z (inside z (Memᴰ.tail m)) (λ e. fresh (Memᴰ.cast (sym e) m))))

-- The number of pairs with P is one number.
pub exactly_one : (P : ℕ → ℕ → Type 0) (xs ys : List Pair) → Exactly P xs → Exactly P ys → length xs ≡ length ys
exactly_one P xs ys p q =
    omega (arith, no_longer xs ys p.once (λ x m. q.all x.0 x.1 (p.only x.0 x.1 m)), no_longer ys xs q.once (λ y m. p.all y.0 y.1 (q.only y.0 y.1 m)))

-- each of some rows and columns meets one of a conflict-free set, and no more
pub meets : (pairs : List Pair) (rows columns : List ℕ) → NoneTwice (initiators pairs) → NoneTwice (targets pairs)
    → ((i t : ℕ) → Memᴰ (i, t) pairs → Memᴰ i rows ⊎ Memᴰ t columns) → length pairs ≤ length rows + length columns
unfolding NoneTwice
meets [] rows columns r c met = omega arith
meets ((i, t) ∷ pairs) rows columns (other_row, r) (other_column, c) met = go (met i t (Memᴰ.head refl)) (λ rows columns. meets pairs rows columns r c)
  where
    go : Memᴰ i rows ⊎ Memᴰ t columns
        → ((rows columns : List ℕ) → ((j u : ℕ) → Memᴰ (j, u) pairs → Memᴰ j rows ⊎ Memᴰ u columns) → length pairs ≤ length rows + length columns)
        → suc (length pairs) ≤ length rows + length columns
    go (inl m) rest =
        let (fewer, longer, others) = taken_out m in
        omega (arith, rest fewer columns (λ j u k. ⊎_elim (λ a. inl (others j a (λ e. other_row (Memᴰ.cast (sym e) (Memᴰ.map (λ (p : Pair). p.0) k))))) inr (met j u (Memᴰ.tail k))))
    go (inr m) rest =
        let (fewer, longer, others) = taken_out m in
        omega (arith, rest rows fewer (λ j u k. ⊎_elim inl (λ a. inr (others u a (λ e. other_column (Memᴰ.cast (sym e) (Memᴰ.map (λ (p : Pair). p.1) k))))) (met j u (Memᴰ.tail k))))
