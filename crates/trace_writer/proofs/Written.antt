-- What stands in an output that is written part after part, and then sealed.
use mathlib.Core.Path.{◌≡◌, sym, ap, ◌∙◌}
use mathlib.Core.List.{List, [], ◌∷◌, ◌++◌, append-nil, append_assoc}
use Prim.Native.Nat.{ℕ, ◌+◌, ◌-◌}
use native.Mathlib.Nat.{le_refl}
use native.Mathlib.Omega.{arith}
use lib.ListN.{length, drop, length-append, drop_of_length-le}
use lib.Seq.{take_at, drop_at, take_all, drop-drop}
use borrow.Rule.Slice.PartMut.{mid_of, put_mid}
use Rattle.words.specs.Check.{checked, sealed}
use Rattle.words.proofs.CheckLaws.{sealed-over}

-- the part from a on, lent and written, behind the first a bytes p
module _ (a : ℕ) (p q : List ℕ) (front : length p ≡ a) where
  after : length (p ++ q) - a ≡ length q
  after = omega (arith, length-append p q)

  mid_rest : mid_of a (length (p ++ q) - a) (p ++ q) ≡ q
  mid_rest = rw (after, drop_at p q a front) (take_all (length q) q (le_refl (length q)))

  put_rest : (last : List ℕ) → put_mid a (length (p ++ q) - a) (p ++ q) last ≡ p ++ last
  put_rest last = rw (after, take_at p q a front, drop_at p q a front, drop_of_length-le q (le_refl (length q)), append-nil)

-- two parts, one after the other
pub two_parts : (a w : ℕ) (p s o one last : List ℕ) → length p ≡ a → one ≡ p ++ drop a o → last ≡ s ++ drop w (mid_of a (length one - a) one)
    → put_mid a (length one - a) one last ≡ (p ++ s) ++ drop (a + w) o
two_parts a w p s o one last front is wrote =
    let behind : last ≡ s ++ drop w (drop a o) = (rw is at wrote) ∙ rw (mid_rest a p (drop a o) front) in
    rw (is, put_rest a p (drop a o) front last, behind, drop-drop) (sym (append_assoc p s _))

-- bytes with two behind them
sealed-behind : (s q : List ℕ) → length q ≡ 2 → sealed (s ++ q) ≡ checked s
sealed-behind s [] two = absurd (omega arith)
sealed-behind s (a ∷ []) two = absurd (omega arith)
sealed-behind s (a ∷ b ∷ []) two = sealed-over s a b
sealed-behind s (a ∷ b ∷ c ∷ q) two = absurd (omega arith)

-- two parts and their check
pub sealed_parts : (p s q front behind exit : List ℕ) → front ≡ p → behind ≡ s ++ q → length q ≡ 2 → exit ≡ sealed (front ++ behind) → exit ≡ checked (p ++ s)
sealed_parts p s q front behind exit is-front is-behind two e = e ∙ rw (is-front, is-behind) (ap sealed (sym (append_assoc p s q)) ∙ sealed-behind (p ++ s) q two)
