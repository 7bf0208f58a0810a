-- The diagonal in one pass: as no two of its positions share a column, the columns of the targets joined may be cleared after the last of them.
use mathlib.Core.Path.{◌≡◌, refl, sym, ap, ap₂, ◌∙◌}
use mathlib.Core.Bool.{Bool, true, false, and-true}
use mathlib.Core.List.{List, [], ◌∷◌, map}
use Prim.Native.Nat.{ℕ, zero, suc, min, max, ◌+◌, ◌-◌, ◌*◌, ◌/◌, ◌%◌, ◌^◌, ◌≤◌, ◌<◌}
use native.Mathlib.Nat.{zero-sub, mod-lt}
use native.Mathlib.Numerals.{add-one}
use native.Mathlib.Omega.{arith}
use lib.Bits.{bit_and, bit_or, and_step, or_step, and_le_l, and_zero_r}
use lib.ListN.{get_or, set, get_or-map}
use borrow.Author.Tests.{ne_eqb}
use Rattle.laws.specs.Steps.{steps}
use Rattle.laws.specs.Sets.{has, asks, with, without}
use Rattle.laws.proofs.Words.{single, and_clears, has_rest}
use Rattle.laws.proofs.Members.{has_none, has-with}
use Rattle.ports.specs.Ready.{Ready}
use Rattle.ports.specs.declared.state.State.{State}
use Rattle.choices.specs.Choice.{place}
use Rattle.choices.specs.Join.{join, join_live}
use Rattle.choices.specs.declared.work.Work.{Work}
use Rattle.choices.proofs.Choices.{places_apart}
use Rattle.central.specs.Diagonal.{diagonal}

-- what is in the row and not in o
abbrev rest : ℕ → ℕ → ℕ
rest o row = row - bit_and row o

rest_step : (o s : ℕ) → rest o s ≡ rest (o / 2) (s / 2) * 2 + (s % 2 - min (s % 2) (o % 2))
rest_step o s = omega (arith, and_step s o, and_le_l (s / 2) (o / 2))

rest_bits : (x y z : ℕ) → x < 2 → y < 2 → x - min x y - min (x - min x y) z ≡ x - min x (max y z)
rest_bits zero y z h l = simp zero-sub
rest_bits (suc zero) zero z h l = omega arith
rest_bits (suc zero) (suc zero) z h l = omega arith
rest_bits (suc zero) (suc (suc y)) z h l = absurd (omega arith)
rest_bits (suc (suc x)) y z h l = absurd (omega arith)

-- one set taken out after another is both taken out at once
rest_rest : (m s a b : ℕ) → s ≤ m → rest b (rest a s) ≡ rest (bit_or a b) s
rest_rest zero s a b h = omega arith
rest_rest (suc m) s a b h =
    let high : rest a s / 2 ≡ rest (a / 2) (s / 2) = omega (arith, rest_step a s) in
    let low : rest a s % 2 ≡ s % 2 - min (s % 2) (a % 2) = omega (arith, rest_step a s) in
    let or-high : bit_or a b / 2 ≡ bit_or (a / 2) (b / 2) = omega (arith, or_step a b) in
    let or-low : bit_or a b % 2 ≡ max (a % 2) (b % 2) = omega (arith, or_step a b) in
    rest_step b (rest a s) ∙ ap₂ (λ x y. rest (b / 2) x * 2 + (y - min y (b % 2))) high low
    ∙ ap₂ (λ x y. x * 2 + y) (rest_rest m (s / 2) (a / 2) (b / 2) (omega arith)) (rest_bits (s % 2) (a % 2) (b % 2) (mod-lt s (omega arith)) (mod-lt a (omega arith)))
    ∙ sym (rest_step (bit_or a b) s ∙ ap₂ (λ x y. rest x (s / 2) * 2 + (s % 2 - min (s % 2) y)) or-high or-low)

without_rest : (o t row : ℕ) → without (rest o row) t ≡ rest (with o t) row
without_rest o t row =
    sym (ap (λ p. rest p (rest o row)) (sym (single (suc t) t (omega arith))) ∙ and_clears (suc t) (rest o row) t (omega arith))
    ∙ rest_rest row row o (2 ^ t) (omega arith)

no_rest : (o : ℕ) → rest o 0 ≡ 0
no_rest o = zero-sub (bit_and 0 o)

-- the columns of o cleared
abbrev cleared : ℕ → List ℕ → List ℕ
cleared o = map (rest o)

cleared_none : (rows : List ℕ) → cleared 0 rows ≡ rows
cleared_none [] = refl
cleared_none (row ∷ rows) = ap₂ (λ x xs. x ∷ xs) (omega (arith, and_zero_r row)) (cleared_none rows)

cleared_asks : (o : ℕ) (rows : List ℕ) (i t : ℕ) → has o t ≡ false → asks (cleared o rows) i t ≡ asks rows i t
cleared_asks o rows i t e =
    ap (λ row. has row t) (ap (get_or (cleared o rows) i) (sym (no_rest o)) ∙ get_or-map (rest o) rows i 0)
    ∙ has_rest (get_or rows i 0) o t ∙ rw e (and-true (asks rows i t))

-- a row emptied and one column more
cleared_more : (o t : ℕ) (rows : List ℕ) (i : ℕ) → map (λ row. without row t) (set (cleared o rows) i 0) ≡ cleared (with o t) (set rows i 0)
cleared_more o t [] i = refl
cleared_more o t (row ∷ rows) zero = ap₂ (λ x xs. x ∷ xs) (zero-sub _ ∙ sym (no_rest (with o t))) (all rows)
  where
    all : (rows : List ℕ) → map (λ row. without row t) (cleared o rows) ≡ cleared (with o t) rows
    all [] = refl
    all (row ∷ rows) = ap₂ (λ x xs. x ∷ xs) (without_rest o t row) (all rows)
cleared_more o t (row ∷ rows) (suc i) = ap₂ (λ x xs. x ∷ xs) (without_rest o t row) (cleared_more o t rows i)

-- The first k positions are taken, but for the columns of `gone`. No target to come is among them.
pub record Taken (st : State) (start : Work) (k : ℕ) (live held : List ℕ) (gone : ℕ) : Type 0 where
  pub work : diagonal st start k ≡ record { live = cleared gone live; held = held }
  pub coming : (j : ℕ) → k ≤ j → j < st.ports → has gone (place st.ports st.target.0 j) ≡ false

pub none_taken : (st : State) (start : Work) → Taken st start 0 start.live start.held 0
unfolding steps
none_taken st start = record {
  work = ap (λ rows. record { live = rows; held = start.held }) (sym (cleared_none start.live));
  coming = λ j l j<. has_none (place st.ports st.target.0 j);
}

module _ {m : ℕ} (st : State) (ready : Ready m st) (start : Work) (k : ℕ) (live held : List ℕ) (gone : ℕ) (taken : Taken st start k live held gone)
    (k< : k < st.ports) {i t : ℕ} {asked : Bool} (row : i ≡ place st.ports st.initiator.0 k) (column : t ≡ place st.ports st.target.0 k)
    (asks-it : asked ≡ asks live i t) where
  next : diagonal st start (k + 1) ≡ join_live (record { live = cleared gone live; held = held }) i t
  unfolding steps
  next = rw (add-one, row, column) (ap (λ s. join_live s (place st.ports st.initiator.0 k) (place st.ports st.target.0 k)) taken.work)

  free : has gone t ≡ false
  free = rw column (taken.coming k (omega arith) k<)

  pub joins : asked ≡ true → {x y : ℕ} → x ≡ with (get_or held i 0) t → y ≡ with gone t → Taken st start (k + 1) (set live i 0) (set held i x) y
  unfolding join_live join
  joins e p q = record {
    work = next ∙ rw (cleared_asks gone live i t free, ← asks-it, e, p, q) (ap (λ rows. record { live = rows; held = set held i (with (get_or held i 0) t) }) (cleared_more gone t live i));
    coming = λ j l j<. rw (q, has-with, taken.coming j (omega arith) j<, column) (ne_eqb _ _ (places_apart st.ports st.target.0 k j ready.target (omega arith) j<));
  }

  pub passes : asked ≡ false → Taken st start (k + 1) live held gone
  unfolding join_live
  passes e = record {
    work = next ∙ rw (cleared_asks gone live i t free, ← asks-it, e);
    coming = λ j l j<. taken.coming j (omega arith) j<;
  }

pub all_taken : (st : State) (start : Work) (n k : ℕ) {live held : List ℕ} {gone : ℕ} {rows : List ℕ} → Taken st start k live held gone → k ≤ n → n ≤ k
    → rows ≡ map (λ row. row - bit_and row gone) live → record { live = rows; held = held } ≡ diagonal st start n
all_taken st start n k taken h l e =
    let last : k ≡ n = omega arith in
    rw e (sym taken.work) ∙ ap (diagonal st start) last
