-- What is lent from a place on, and comes back.
use mathlib.Core.Path.{◌≡◌, refl}
use mathlib.Core.Bool.{Bool, true, false, cond}
use mathlib.Core.List.{List, [], append-nil}
use Prim.Native.Nat.{ℕ, ◌+◌, ◌-◌, ◌≤◌}
use native.Mathlib.Nat.{le_of_eq}
use lib.ListN.{length, drop, length-drop, drop_of_length-le}
use lib.Seq.{take_all}
use borrow.Rule.Slice.PartMut.{mid_of, post_of, put_mid}
use Rattle.import_steps.specs.Taking.{Known, ends_body}
use Rattle.import_steps.specs.Laying.{open_len}
use Rattle.imports.specs.Passes.{from, ended_at}

pub from_lent : (at : ℕ) (f : List ℕ → List ℕ) (s last : List ℕ) → last ≡ f (mid_of at (length s - at) s) → put_mid at (length s - at) s last ≡ from at f s
from_lent at f s last is =
    let mid : mid_of at (length s - at) s ≡ drop at s = take_all (length s - at) (drop at s) (le_of_eq (length-drop at s)) in
    let post : post_of at (length s - at) s ≡ [] = drop_of_length-le (drop at s) (le_of_eq (length-drop at s)) in
    rw (post, append-nil, is, mid)

pub ended-within : (p q : Known) (start len : ℕ) → start ≤ len → (ends_body p q ≡ true → start + open_len p ≤ len) → ended_at p q start ≤ len
unfolding ended_at
ended-within p q start len a b = go (ends_body p q) b
  where
    go : (c : Bool) → (c ≡ true → start + open_len p ≤ len) → cond c (start + open_len p) start ≤ len
    go true f = f refl
    go false f = a
