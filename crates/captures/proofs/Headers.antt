-- What is known of a sound header.
use Rattle.std.proofs.Common.{◌≡◌, ℕ, ◌≤◌, Bool, true, false, ◌||◌, cond, Some, None, leb, eqb, List, length, refl, arith, leb-true}
use Rattle.laws.proofs.Tests.{both}
use Rattle.captures.specs.Capture.{header_len, magic, low_first, order_of, long_in, is_low, magic_order, header_sound}
use Rattle.captures.specs.declared.number.ByteOrder.{ByteOrder}
use Rattle.captures.specs.declared.number.ByteOrder.TheVariants.{LowFirst, HighFirst}

pub sound_long : (s : List ℕ) → header_sound s ≡ true → header_len ≤ length s
unfolding header_sound
sound_long s e = leb-true _ _ (both (leb header_len (length s)) _ e).0

pub low_of_order : (low : Bool) → low_first (order_of low) ≡ low
low_of_order true = refl
low_of_order false = refl

-- the magic number stands there in an order, or in none
pub record Found (s : List ℕ) (order : ByteOrder) : Type 0 where
  pub is : order_of (is_low s) ≡ order
  pub low : is_low s ≡ low_first order
  pub there : is_low s || eqb (long_in false 0 s) magic ≡ true

pub found : (s : List ℕ) (o : ByteOrder) → Some o ≡ magic_order s → Found s o
found s o = go (is_low s) refl (eqb (long_in false 0 s) magic) refl
  where
    go : (a : Bool) → is_low s ≡ a → (b : Bool) → eqb (long_in false 0 s) magic ≡ b → Some o ≡ cond a (Some LowFirst) (cond b (Some HighFirst) None) → Found s o
    go true x b y e = let is : LowFirst ≡ o = grind arith in record { is = rw (x, is); low = rw (x, ← is); there = rw x }
    go false x true y e = let is : HighFirst ≡ o = grind arith in record { is = rw (x, is); low = rw (x, ← is); there = rw (x, y) }
    go false x false y e = grind arith

pub not_found : (s : List ℕ) → None ≡ magic_order s → is_low s || eqb (long_in false 0 s) magic ≡ false
not_found s = go (is_low s) refl (eqb (long_in false 0 s) magic) refl
  where
    go : (a : Bool) → is_low s ≡ a → (b : Bool) → eqb (long_in false 0 s) magic ≡ b → None ≡ cond a (Some LowFirst) (cond b (Some HighFirst) None)
        → is_low s || eqb (long_in false 0 s) magic ≡ false
    go true x b y e = grind arith
    go false x true y e = grind arith
    go false x false y e = rw (x, y)
