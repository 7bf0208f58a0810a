-- Parts of any lengths, put one after the other.
use mathlib.Core.Path.{◌≡◌, refl, sym, ap, ◌∙◌}
use mathlib.Core.Logic.{⊎_elim}
use mathlib.Core.List.{List, [], ◌++◌, append_assoc}
use Prim.Native.Nat.{ℕ, zero, suc, ◌+◌, ◌-◌, ◌≤◌}
use native.Mathlib.Nat.{le_refl, eq-or-lt_of_le, le_of_suc-le-suc, add-zero}
use native.Mathlib.Numerals.{add-one}
use native.Mathlib.Omega.{arith}
use lib.ListN.{length, take, drop, length-append, take-append-drop}
use lib.Seq.{take_at, drop_at, drop-drop}
use borrow.Rule.Slice.PartMut.{Post-is, put_mid}
use Rattle.laws.specs.Steps.{steps}
use Rattle.laws.specs.Parts.{parts}

module _ (g : ℕ → List ℕ) where
  pub parts_next : (k : ℕ) → length (parts g (k + 1)) ≡ length (parts g k) + length (g k)
  unfolding steps
  parts_next k = rw (add-one k) (length-append (parts g k) (g k))

  pub parts_within : (k n : ℕ) → k ≤ n → length (parts g k) ≤ length (parts g n)
  unfolding steps
  parts_within zero zero h = le_refl _
  parts_within (suc k) zero h = absurd (omega arith)
  parts_within k (suc n) h = ⊎_elim (λ e. rw e (le_refl _)) (λ l. omega (arith, parts_within k n (le_of_suc-le-suc l), length-append (parts g n) (g n))) (eq-or-lt_of_le h)

  pub put_next : (k r : ℕ) (o out last : List ℕ) → out ≡ parts g k ++ drop (length (parts g k)) o → r ≡ length (parts g k) + length (g k)
      → last ≡ take (length (parts g k)) out ++ (g k ++ drop r out) → last ≡ parts g (k + 1) ++ drop r o
  unfolding steps
  put_next k r o out last is end e =
      let at = length (parts g k) in
      let rest : drop r out ≡ drop r o = rw (end, ← drop-drop (length (g k)) at out, is, drop_at (parts g k) (drop at o) at refl) (drop-drop (length (g k)) at o) in
      let front : take at out ≡ parts g k = rw is (take_at (parts g k) (drop at o) at refl) in
      e ∙ rw (rest, front, add-one k) (sym (append_assoc (parts g k) (g k) (drop r o)))

-- nothing is put, or a part at its place
pub put_none : (at : ℕ) (g out : List ℕ) → g ≡ [] → (at ≡ at + length g) × (out ≡ take at out ++ (g ++ drop at out))
put_none at g out e = rw e (sym (add-zero at), sym (take-append-drop at out))

pub put_some : (at : ℕ) (g body out : List ℕ) → body ≡ g
    → (at + length body ≡ at + length g) × (put_mid at (at + length body - at) out body ≡ take at out ++ (g ++ drop (at + length body) out))
put_some at g body out e = (
  ap (λ (l : List ℕ). at + length l) e,
  ap (λ (l : List ℕ). take at out ++ (body ++ l)) (Post-is at (at + length body) out (omega arith)) ∙ ap (λ (l : List ℕ). take at out ++ (l ++ drop (at + length body) out)) e,
)
