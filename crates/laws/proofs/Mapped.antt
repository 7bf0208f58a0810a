-- What `map` and `from_fn` of an array of numbers give, of a closure that keeps what it captures.
use Rattle.std.proofs.Common.{◌≡◌, ℕ, zero, suc, ◌+◌, ◌≤◌, ◌<◌, List, length, get_or, map, refl, sym, ap, ◌∙◌, arith}
use mathlib.Core.Path.{subst}
use native.Mathlib.Nat.{not-suc-le-zero, add-zero, zero-add}
use lib.ListN.{length-map}
use lib.Seq.{ext_get_or}
use Rattle.std.specs.Fn.{Mut, Called}
use Rattle.std.specs.Array.{IsMapOf, MapsFrom, IsFromFnResult, IsFromFnResultFrom}
use Rattle.laws.specs.Sets.{tabled}
use Rattle.laws.proofs.Rows.{row_map, length_tabled, row-tabled}

module _ {F : Type 0} (g : Mut F (ℕ × Unit {0}) ℕ) (f : F) (h : ℕ → ℕ) (gives : (x y : ℕ) (q : F) → Called g f (x, tt) y q → (q ≡ f) × (y ≡ h x)) where
  said : (x y : ℕ) (p q : F) → p ≡ f → Called g p (x, tt) y q → (q ≡ f) × (y ≡ h x)
  said x y p q e m = gives x y q (subst (λ (r : F). Called g r (x, tt) y q) e m)

  each_mapped : (xs ys : List ℕ) (n i k : ℕ) (p : F) → p ≡ f → MapsFrom g p xs ys i n → k < n → get_or ys (i + k) 0 ≡ h (get_or xs (i + k) 0)
  each_mapped xs ys zero i k p e m l = absurd (not-suc-le-zero l)
  each_mapped xs ys (suc n) i zero p e m l =
      rw add-zero (m.4.1 0 ∙ (said m.1 m.2 p m.0 e m.5).1 ∙ ap h (sym (m.3.1 0)))
  each_mapped xs ys (suc n) i (suc k) p e m l =
      let t : i + suc k ≡ i + 1 + k = omega arith in
      rw t (each_mapped xs ys n (i + 1) k m.0 (said m.1 m.2 p m.0 e m.5).0 m.6 (omega arith))

  pub mapped : (xs ys : List ℕ) (n : ℕ) → length xs ≡ n → IsMapOf g f xs ys n → ys ≡ map h xs
  mapped xs ys n long m =
      ext_get_or 0 ys (map h xs) (m.long ∙ sym long ∙ sym (length-map xs h))
      (λ k l. (rw zero-add at (each_mapped xs ys n 0 k f refl m.each (omega (arith, m.long)))) ∙ sym (row_map h xs k (omega (arith, m.long, long))))

module _ {F : Type 0} (g : Mut F (ℕ × Unit {0}) ℕ) (f : F) (h : ℕ → ℕ) (m : ℕ) (gives : (x y : ℕ) (q : F) → x < m → Called g f (x, tt) y q → (q ≡ f) × (y ≡ h x)) where
  told : (x y : ℕ) (p q : F) → p ≡ f → x < m → Called g p (x, tt) y q → (q ≡ f) × (y ≡ h x)
  told x y p q e l c = gives x y q l (subst (λ (r : F). Called g r (x, tt) y q) e c)

  each_made : (ys : List ℕ) (n i k : ℕ) (p : F) → p ≡ f → i + n ≤ m → IsFromFnResultFrom g p ys i n → k < n → get_or ys (i + k) 0 ≡ h (i + k)
  each_made ys zero i k p e w c l = absurd (not-suc-le-zero l)
  each_made ys (suc n) i zero p e w c l = rw add-zero (c.2.1 0 ∙ (told i c.1 p c.0 e (omega arith) c.3).1)
  each_made ys (suc n) i (suc k) p e w c l =
      let t : i + suc k ≡ i + 1 + k = omega arith in
      rw t (each_made ys n (i + 1) k c.0 (told i c.1 p c.0 e (omega arith) c.3).0 (omega arith) c.4 (omega arith))

  pub made : (ys : List ℕ) → IsFromFnResult g f ys m → ys ≡ tabled m h m
  made ys c =
      ext_get_or 0 ys (tabled m h m) (c.long ∙ sym (length_tabled m h m))
      (λ k l. (rw zero-add at (each_made ys m 0 k f refl (omega arith) c.each (omega (arith, c.long)))) ∙ sym (row-tabled m h m k (omega (arith, c.long)) (omega (arith, c.long))))
