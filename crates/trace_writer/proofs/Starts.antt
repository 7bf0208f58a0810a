-- Where the bodies start that are joined one after the other.
use mathlib.Core.Path.{◌≡◌, refl, ◌∙◌}
use mathlib.Core.Bool.{true}
use mathlib.Core.List.{List}
use Prim.Native.Nat.{ℕ, zero, suc, ◌+◌, ◌*◌, ◌≤◌, ◌<◌}
use native.Mathlib.Nat.{mul-le-mul_right}
use native.Mathlib.Numerals.{add-one}
use native.Mathlib.Omega.{arith}
use lib.ListN.{get_or}
use Rattle.laws.specs.Steps.{steps}
use Rattle.laws.specs.Tests.{between}
use Rattle.frames.specs.Part.{most_ports}
use Rattle.trace_parts.specs.Layout.{block_len, body_len, most_slots, body_size}
use Rattle.trace_writer.specs.Writer.{start_of}

module _ (n : ℕ) (slots : List ℕ) where
  pub start_zero : start_of n slots 0 ≡ 0
  unfolding start_of steps
  start_zero = refl

  pub start_suc : (k : ℕ) → start_of n slots (suc k) ≡ start_of n slots k + body_len n (get_or slots k 0)
  unfolding start_of steps
  start_suc k = refl

  pub start-next : (k : ℕ) → start_of n slots (k + 1) ≡ start_of n slots k + body_len n (get_or slots k 0)
  start-next k = rw (add-one k) (start_suc k)

-- a body fits 64 KiB
pub body_small : (n slots : ℕ) → n ≤ most_ports → slots ≤ most_slots n → body_len n slots ≤ 65536
unfolding body_len block_len most_slots
body_small n slots h l = omega (arith, mul-le-mul_right (block_len n) l)

pub start_small : (n : ℕ) (slots : List ℕ) (k : ℕ) → n ≤ most_ports → ((j : ℕ) → j < k → get_or slots j 0 ≤ most_slots n) → start_of n slots k ≤ k * 65536
start_small n slots zero h l = rw start_zero (omega arith)
start_small n slots (suc k) h l =
    let before = start_small n slots k h (λ j i. l j (omega arith)) in
    let last = body_small n (get_or slots k 0) h (l k (omega arith)) in
    rw start_suc (omega arith)

-- the bytes of a body, for a port count
pub size_is : (m n slots : ℕ) → between 1 m n ≡ true → {size : ℕ} → size ≡ body_size m n slots → size ≡ body_len n slots
size_is m n slots e is = is ∙ rw e
