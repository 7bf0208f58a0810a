-- From the history: fresh equals connected plus withdrawn plus open. And nothing happens more often than slots are counted.
use mathlib.Core.Path.{◌≡◌, refl, ap}
use mathlib.Core.Logic.{◌⊎◌, inl, inr}
use mathlib.Core.Bool.{Bool, true, false, not, ◌&&◌, ◌||◌, cond}
use mathlib.Core.List.{List, [], ◌∷◌}
use Prim.Native.Nat.{ℕ, ◌+◌, ◌≤◌}
use native.Mathlib.Omega.{arith}
use lib.ListN.{length}
use Rattle.ledger.specs.History.{Feed, Event, asked, connected, waited, is_connected, is_fresh, is_withdrawn, how_often, is_open}

-- fresh is asked now, and did not wait before
pub fresh-waited : (i t : ℕ) (f : Feed) (h : List Feed) → is_fresh i t f h ≡ (asked i t f && not (waited i t h))
unfolding is_fresh waited
fresh-waited i t f [] = go (asked i t f)
  where
    go : (a : Bool) → a ≡ (a && true)
    go true = refl
    go false = refl
fresh-waited i t f (p ∷ h) = ap (λ b. asked i t f && b) (go (asked i t p) (connected i t p))
  where
    go : (a c : Bool) → (not a || c) ≡ not (a && not c)
    go true true = refl
    go true false = refl
    go false c = refl

-- one slot: what comes in and what waited, and what goes out and what waits
one_slot : (a c w : Bool) → cond (a && not w) 1 0 + cond w 1 0 ≡ cond (a && c) 1 0 + cond (w && not a) 1 0 + cond (a && not c) 1 0
one_slot true true true = refl
one_slot true true false = refl
one_slot true false true = refl
one_slot true false false = refl
one_slot false c true = refl
one_slot false c false = refl

pub balance : (i t : ℕ) (h : List Feed)
    → how_often (is_fresh i t) h ≡ how_often (is_connected i t) h + how_often (is_withdrawn i t) h + is_open i t h
unfolding how_often waited
balance i t [] = refl
balance i t (f ∷ h) =
    rw (fresh-waited i t f h) (omega (arith, balance i t h, one_slot (asked i t f) (connected i t f) (waited i t h)))

pub open_or_not : (i t : ℕ) (h : List Feed) → (is_open i t h ≡ 0) ⊎ (is_open i t h ≡ 1)
open_or_not i t h = go (waited i t h)
  where
    go : (b : Bool) → ◌≡◌ {A = ℕ} (cond b 1 0) 0 ⊎ ◌≡◌ {A = ℕ} (cond b 1 0) 1
    go true = inr refl
    go false = inl refl

-- a figure is at most the slots
at_most_once : (b : Bool) → cond b 1 0 ≤ 1
at_most_once true = omega arith
at_most_once false = omega arith

pub often_below : (p : Event) (h : List Feed) → how_often p h ≤ length h
unfolding how_often
often_below p [] = omega arith
often_below p (f ∷ h) = omega (arith, often_below p h, at_most_once (p f h))

pub open_below : (i t : ℕ) (h : List Feed) → is_open i t h ≤ length h
unfolding waited
open_below i t [] = omega arith
open_below i t (f ∷ h) = omega (arith, at_most_once (waited i t (f ∷ h)))
