-- Lists: one that is written over from the front on, and those of a list that have p.
use mathlib.Core.Path.{◌≡◌, refl, sym, ap, ◌∙◌}
use mathlib.Core.Bool.{Bool, true, false, not, cond, true≢false}
use mathlib.Core.List.{List, [], ◌∷◌, ◌++◌}
use Prim.Native.Nat.{ℕ, zero, suc, ◌+◌, ◌<◌}
use native.Mathlib.Numerals.{add-one}
use native.Mathlib.Omega.{arith}
use lib.ListN.{length, get_or, drop, set, length-append}
use lib.Seq.{drop-cons, set_at, append_snoc}
use Rattle.queue_records.specs.Entries.{those}

-- one more, behind those that were written over the front of a list
pub put_next : (s old : List ℕ) (x n : ℕ) → length s ≡ n → n < length old → set (s ++ drop n old) n x ≡ (s ++ (x ∷ [])) ++ drop (n + 1) old
put_next s old x n is h = rw (drop-cons old n 0 h, add-one) (set_at s _ _ x n is ∙ sym (append_snoc s x _))

module _ (p : ℕ → Bool) where
  pub those_append : (s t : List ℕ) → those p (s ++ t) ≡ those p s ++ those p t
  unfolding those
  those_append [] t = refl
  those_append (e ∷ s) t = go (p e) (those_append s t)
    where
      go : (b : Bool) → those p (s ++ t) ≡ those p s ++ those p t → cond b (e ∷ those p (s ++ t)) (those p (s ++ t)) ≡ cond b (e ∷ those p s) (those p s) ++ those p t
      go true i = ap (λ (l : List ℕ). e ∷ l) i
      go false i = i

  pub count_append : (s t : List ℕ) → length (those p (s ++ t)) ≡ length (those p s) + length (those p t)
  count_append s t = ap length (those_append s t) ∙ length-append (those p s) (those p t)

  -- those that have p and those that have not
  pub both_counts : (s : List ℕ) → length (those p s) + length (those (λ e. not (p e)) s) ≡ length s
  unfolding those
  both_counts [] = refl
  both_counts (e ∷ s) = go (p e) (both_counts s)
    where
      go : (b : Bool) → length (those p s) + length (those (λ e. not (p e)) s) ≡ length s
          → length (cond b (e ∷ those p s) (those p s)) + length (cond (not b) (e ∷ those (λ e. not (p e)) s) (those (λ e. not (p e)) s)) ≡ length (e ∷ s)
      go true i = omega arith
      go false i = omega arith

  -- where none has p, each has not
  pub none_at : (s : List ℕ) → length (those p s) ≡ 0 → (k : ℕ) → k < length s → p (get_or s k 0) ≡ false
  unfolding those
  none_at [] e k h = absurd (omega arith)
  none_at (x ∷ s) e zero h = go (p x) refl e
    where
      go : (b : Bool) → p x ≡ b → length (cond b (x ∷ those p s) (those p s)) ≡ 0 → p x ≡ false
      go true y z = absurd (omega arith)
      go false y z = y
  none_at (x ∷ s) e (suc k) h = none_at s (go (p x) e) k (omega arith)
    where
      go : (b : Bool) → length (cond b (x ∷ those p s) (those p s)) ≡ 0 → length (those p s) ≡ 0
      go true z = absurd (omega arith)
      go false z = z

  pub those_same : (q : ℕ → Bool) → ((e : ℕ) → p e ≡ q e) → (s : List ℕ) → those p s ≡ those q s
  unfolding those
  those_same q same [] = refl
  those_same q same (e ∷ s) = rw (same e, those_same q same s)

  -- of those with q, where all with p have q
  pub those-those : (q : ℕ → Bool) → ((e : ℕ) → p e ≡ true → q e ≡ true) → (s : List ℕ) → those p (those q s) ≡ those p s
  unfolding those
  those-those q too [] = refl
  those-those q too (e ∷ s) = go (p e) refl (q e) refl (those-those q too s)
    where
      go : (a : Bool) → p e ≡ a → (b : Bool) → q e ≡ b → those p (those q s) ≡ those p s → those p (cond b (e ∷ those q s) (those q s)) ≡ cond a (e ∷ those p s) (those p s)
      go true x true y i = rw x (ap (λ (l : List ℕ). e ∷ l) i)
      go true x false y i = absurd (true≢false (sym (too e x) ∙ y))
      go false x true y i = rw x i
      go false x false y i = i
