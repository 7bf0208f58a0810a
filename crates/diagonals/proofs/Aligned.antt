-- When the diagonal comes to a pair: once in each lap of I, and in the next lap one place later (or n - 1 earlier). So it comes in any n + 1
-- times, and n times in any n².
use mathlib.Core.Path.{◌≡◌, refl, sym, ap, ◌∙◌}
use mathlib.Core.Bool.{Bool, true}
use mathlib.Core.List.{List}
use Prim.Native.Nat.{ℕ, zero, suc, ◌+◌, ◌-◌, ◌*◌, ◌/◌, ◌%◌, ◌≤◌, ◌<◌}
use native.Mathlib.Nat.{mod-lt, mod-eq_of_lt, mod-add-mod, add-mod-mod, add-mod_right, div-add-mod'}
use native.Mathlib.Decide.{dec_lt}
use native.Mathlib.Omega.{arith}
use lib.Dec.{eqb}
use borrow.Author.Tests.{eq-eqb, eqb-true}
use Rattle.laws.specs.Sets.{tally}
use Rattle.laws.proofs.Tallies.{tally_found, tally-round}
use Rattle.ports.specs.declared.state.State.{State}
use Rattle.demands.specs.History.{Below, how_many, InEach, InServed, Fair}
use Rattle.demands.proofs.Turns.{At, the_place, the_lap, same_again, fair_stretch}
use Rattle.diagonals.specs.Share.{one_in_any, n_in_any}
use Rattle.diagonals.proofs.Diagonal.{OnDiagonal}

-- at time T the pair (i, t) is as far from I as from J, of n ports
unfoldable pub aligned : ℕ → ℕ → ℕ → ℕ → Bool
aligned n i t T = eqb ((i + T / n) % n) ((t + T % n) % n)

module _ (n i t : ℕ) (i< : i < n) (t< : t < n) where
  pub aligned_on : (T : ℕ) (st : State) → At n T st → aligned n i t T ≡ true → OnDiagonal i t st
  unfolding aligned
  aligned_on T st at e = record {
    step = (i + (n - x)) % n;
    step_below = rw at.ports (mod-lt (i + (n - x)) (omega arith));
    row = rw (at.ports, at.initiator) (add-mod-mod x (i + (n - x)) n ∙ ap (λ z. z % n) row ∙ add-mod_right i n ∙ mod-eq_of_lt i<);
    column = rw (at.ports, at.target)
        (add-mod-mod (j % n) (i + (n - x)) n ∙ mod-add-mod j n (i + (n - x)) ∙ ap (λ z. z % n) there ∙ sym (mod-add-mod (i + j) n (n - x))
        ∙ ap (λ z. (z + (n - x)) % n) (eqb-true _ _ e) ∙ mod-add-mod (t + x) n (n - x) ∙ ap (λ z. z % n) column ∙ add-mod_right t n ∙ mod-eq_of_lt t<);
  }
    where
      x : ℕ
      x = T % n

      j : ℕ
      j = T / n

      x< : x < n
      x< = mod-lt T (omega arith)

      row : x + (i + (n - x)) ≡ i + n
      row = omega (arith, x<)

      there : j + (i + (n - x)) ≡ i + j + (n - x)
      there = omega arith

      column : t + x + (n - x) ≡ t + n
      column = omega (arith, x<)

  -- its place in lap j
  due : ℕ → ℕ
  due j = (i + j + (n - t)) % n

  due_below : (j : ℕ) → due j < n
  unfolding due
  due_below j = mod-lt (i + j + (n - t)) (omega arith)

  due-next : (j : ℕ) → due j + 1 < n → due (j + 1) ≡ due j + 1
  unfolding due
  due-next j h =
      let q : i + (j + 1) + (n - t) ≡ i + j + (n - t) + 1 = omega arith in
      ap (λ z. z % n) q ∙ sym (mod-add-mod (i + j + (n - t)) n 1) ∙ mod-eq_of_lt h

  due_aligned : (j : ℕ) → aligned n i t (j * n + due j) ≡ true
  unfolding aligned due
  due_aligned j =
      let q : t + (i + j + (n - t)) ≡ i + j + n = omega arith in
      rw (the_lap n j (due j) (due_below j), the_place n j (due j) (due_below j))
      (eq-eqb _ _ (sym (add-mod-mod t (i + j + (n - t)) n ∙ ap (λ z. z % n) q ∙ add-mod_right (i + j) n)))

  -- once in any n + 1
  pub aligned_once : (T : ℕ) → tally (aligned n i t) T + 1 ≤ tally (aligned n i t) (T + (n + 1))
  aligned_once T = go (dec_lt (due j) x)
    where
      j : ℕ
      j = T / n

      x : ℕ
      x = T % n

      x< : x < n
      x< = mod-lt T (omega arith)

      is : j * n + x ≡ T
      is = div-add-mod' T n

      go : Dec (due j < x) → tally (aligned n i t) T + 1 ≤ tally (aligned n i t) (T + (n + 1))
      go (yes l) =
          let later : due (j + 1) ≡ due j + 1 = due-next j (omega (arith, x<)) in
          omega (arith, tally_found (aligned n i t) T ((j + 1) * n + due (j + 1)) (T + (n + 1)) (omega (arith, is, x<)) (omega (arith, is)) (due_aligned (j + 1)))
      go (no l) = omega (arith, tally_found (aligned n i t) T (j * n + due j) (T + (n + 1)) (omega (arith, is)) (omega (arith, is, due_below j)) (due_aligned j))

  -- and n times in any n²
  aligned_laps : (k : ℕ) → k ≤ tally (aligned n i t) (k * n)
  aligned_laps zero = omega arith
  aligned_laps (suc k) = omega (arith, aligned_laps k, tally_found (aligned n i t) (k * n) (k * n + due k) (suc k * n) (omega arith) (omega (arith, due_below k)) (due_aligned k))

  aligned_again : (T : ℕ) → aligned n i t (T + n * n) ≡ aligned n i t T
  unfolding aligned
  aligned_again T =
      let (x, j) = same_again n T (omega arith) in
      let q : i + (T / n + n) ≡ i + T / n + n = omega arith in
      rw (x, j, q, add-mod_right (i + T / n) n)

  pub aligned_times : (T : ℕ) → tally (aligned n i t) T + n ≤ tally (aligned n i t) (T + n * n)
  aligned_times T = omega (arith, tally-round (aligned n i t) (n * n) aligned_again T, aligned_laps n)

-- The share of a pair, over any kind of call that is fair to it on the diagonal.
module _ {S C : Type 0} {view : S → State} {Kept : S → C → Type 0} {next : S → C → S} {served connects : S → C → Bool} {Waiting : S → C → Type 0} {i t : ℕ}
    (fair : Fair view Kept next served connects Waiting (OnDiagonal i t)) (st : S) (calls : List C) (kept : InEach next Kept st calls)
    (b : Below (view st)) (i< : i < (view st).ports) (t< : t < (view st).ports) (w : InServed next served Waiting st calls) where
  n : ℕ
  n = (view st).ports

  some : 0 < n
  unfolding n
  some = omega arith

  pub fair_once : one_in_any (view st).ports (how_many next served st calls) ≤ how_many next connects st calls
  unfolding n
  fair_once = omega (arith, fair_stretch fair n some (aligned n i t) (aligned_on n i t i< t<) (n + 1) 1 (aligned_once n i t i< t<) st calls kept refl b w)

  pub fair_n_times : n_in_any (view st).ports (how_many next served st calls) ≤ how_many next connects st calls
  unfolding n
  fair_n_times = fair_stretch fair n some (aligned n i t) (aligned_on n i t i< t<) (n * n) n (aligned_times n i t i< t<) st calls kept refl b w
