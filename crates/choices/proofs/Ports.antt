-- What the calls answer where the numbers are of ports, and what they ignore where not, over any greatest port count.
use mathlib.Core.Path.{◌≡◌, refl, sym, ap, ◌∙◌}
use mathlib.Core.Bool.{Bool, true, false, not, ◌&&◌, ◌||◌, cond}
use mathlib.Core.List.{List, [], ◌∷◌, map}
use Prim.Native.Nat.{ℕ, zero, suc, min, ◌+◌, ◌-◌, ◌%◌, ◌≤◌, ◌<◌}
use native.Mathlib.Nat.{mod-lt, mod-eq_of_lt, mod-add-mod}
use native.Mathlib.Decide.{dec_lt}
use native.Mathlib.Omega.{arith}
use lib.Dec.{eqb, ltb}
use lib.ListN.{length, get_or}
use borrow.Author.Tests.{lt-ltb, le-leb}
use Rattle.laws.specs.Steps.{steps}
use Rattle.laws.proofs.Tests.{arms}
use lib.Bits.{bit_and}
use Rattle.laws.specs.Sets.{has, asks, with, without, column}
use Rattle.laws.proofs.Words.{minus_one}
use Rattle.laws.proofs.Loops.{stays, done}
use Rattle.laws.proofs.Members.{has_none}
use Rattle.choices.specs.Join.{join}
use Rattle.choices.specs.Live.{any_live}
use Rattle.choices.specs.declared.work.Work.{Work}
use Rattle.choices.specs.Choice.{place, turned, chosen, choice}
use Rattle.choices.specs.Within.{is_port, choice_within, turned_within}

-- the choice is one of the ports
pub choice_below : (p : ℕ → Bool) (f : ℕ → ℕ) (n a : ℕ) → a < n → choice p f n a < n
unfolding choice steps
choice_below p f n a h = go n
  where
    go : (k : ℕ) → chosen p f n a k < n
    go zero = h
    go (suc k) = arms (λ x. x < n) (p (place n a k) && (not (p (chosen p f n a k)) || ltb (f (place n a k)) (f (chosen p f n a k)))) _ _ (λ _. mod-lt (a + k) (omega arith)) (λ _. go k)

is_port_lem : (m n a : ℕ) → n ≤ m → a < n → is_port m n a ≡ true
is_port_lem m n a h l = rw (le-leb n m h, lt-ltb a n l)

pub is_choice : (m : ℕ) (p : ℕ → Bool) (f : ℕ → ℕ) (n a : ℕ) {r : ℕ} → r ≡ choice_within m p f n a → n ≤ m → a < n → (r ≡ choice p f n a) × (r < n)
unfolding choice_within
is_choice m p f n a e h l = let q = rw (is_port_lem m n a h l) at e in (q, rw q (choice_below p f n a l))

-- whole rounds make no difference
pub goes_round : (n a k : ℕ) {turn r : ℕ} → r ≡ place n a turn → turn ≡ k % n → r ≡ place n a k
goes_round n a k e t =
    let s : a + k % n ≡ k % n + a = omega arith in
    let u : k + a ≡ a + k = omega arith in
    e ∙ rw (t, s, mod-add-mod, u)

is_turned : (m n a x y : ℕ) {r : ℕ} → r ≡ turned_within m n a x y → n ≤ m → a < n → x < n → y < n → (r ≡ turned n a x y) × (r < n)
unfolding turned_within
is_turned m n a x y e h l g b = let q = rw (is_port_lem m n a h l, lt-ltb x n g, lt-ltb y n b) at e in (q, rw q (mod-lt (a + x + n - y) (omega arith)))

-- the choice in a rotation that moves with x
pub is_chosen : (m : ℕ) (p : ℕ → Bool) (f : ℕ → ℕ) (n a x y : ℕ) {from r : ℕ} → from ≡ turned_within m n a x y → r ≡ choice_within m p f n from
    → n ≤ m → a < n → x < n → y < n → (r ≡ choice p f n (turned n a x y)) × (r < n)
is_chosen m p f n a x y q e h l g b =
    let (at, below) = is_turned m n a x y q h l g b in
    let (is, range) = is_choice m p f n _ e h below in
    (rw at at is, range)

pub is_join : (m : ℕ) (s : Work) (i t : ℕ) {r : Work} → r ≡ join s (i % m) (t % m) → i < m → t < m → r ≡ join s i t
is_join m s i t e h l = rw (mod-eq_of_lt h, mod-eq_of_lt l) at e

-- rows past the last are empty, so whatever goes over rows ends with them

past : (rows : List ℕ) (i : ℕ) → length rows ≤ i → get_or rows i 0 ≡ 0
past [] i h = refl
past (row ∷ rows) zero h = absurd (omega arith)
past (row ∷ rows) (suc i) h = past rows i (omega arith)

ends_with : {A : Type 0} (f : ℕ → A → A) (x : A) (m n k : ℕ) {u : A} → ((i : ℕ) (y : A) → m ≤ i → f i y ≡ y)
    → u ≡ steps f x k → k ≤ min n m → min n m ≤ k → u ≡ steps f x n
ends_with f x m n k still e h g = done f x (min n m) k e h g ∙ go (dec_lt m n)
  where
    go : Dec (m < n) → steps f x (min n m) ≡ steps f x n
    go (yes l) =
        let p : min n m ≡ m = omega arith in
        let q : n ≡ m + (n - m) = omega arith in
        ap (steps f x) p ∙ sym (ap (steps f x) q ∙ stays f x m (n - m) (λ i b. still i _ b))
    go (no l) = let p : min n m ≡ n = omega arith in ap (steps f x) p

module _ (rows : List ℕ) (m n k : ℕ) (long : length rows ≡ m) where
  pub whole_column : (t : ℕ) {u : ℕ} → u ≡ column rows k t → k ≤ min n m → min n m ≤ k → u ≡ column rows n t
  whole_column t =
      ends_with (λ i s. cond (asks rows i t) (with s i) s) 0 m n k
      (λ i y b. rw (past rows i (omega arith), has_none))

  pub all_asked : {u : Bool} → u ≡ any_live rows k → k ≤ min n m → min n m ≤ k → u ≡ any_live rows n
  all_asked = ends_with (λ i found. not (eqb (get_or rows i 0) 0) || found) false m n k (λ i y b. rw (past rows i (omega arith)))

-- a member that is a port is taken as it is
pub gathers : (m row t s i : ℕ) {r : ℕ} → i < m → r ≡ cond (has row t) (with s (i % m)) s → r ≡ cond (has row t) (with s i) s
gathers m row t s i h e = e ∙ ap (λ z. cond (has row t) (with s z) s) (mod-eq_of_lt h)

-- the columns of one that is gone
pub one_column : (k : ℕ) (rows : List ℕ) → map (λ row. row - bit_and row (with 0 k)) rows ≡ map (λ row. without row k) rows
one_column k rows = ap (λ (f : ℕ → ℕ). map f rows) (λ i row. minus_one row k i)
