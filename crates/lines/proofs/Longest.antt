-- No line of a slot is longer than 1024 bytes, so that with as much room it is put whole.
use mathlib.Core.Path.{◌≡◌}
use mathlib.Core.Bool.{Bool, true, false, cond}
use mathlib.Core.List.{List, [], ◌∷◌, ◌++◌}
use Prim.Native.Nat.{ℕ, zero, suc, min, ◌+◌, ◌*◌, ◌/◌, ◌%◌, ◌^◌, ◌≤◌, ◌<◌}
use native.Mathlib.Nat.{pow-suc, suc-mul}
use native.Mathlib.Omega.{arith}
use borrow.Author.Tests.{lt-ltb}
use lib.Dec.{eqb, ltb}
use lib.ListN.{length, get_or, take, drop, length-append}
use Rattle.laws.specs.Parts.{parts}
use Rattle.laws.specs.Sets.{has}
use Rattle.laws.specs.Steps.{steps}
use Rattle.frames.specs.Part.{most_ports}
use Rattle.lines.specs.Put.{Put}
use Rattle.lines.proofs.Putting.{whole}
use Rattle.lines.specs.Line.{decimal_in, decimal, comma, hyphen, target, targets, initiator, initiators, slot_line}

-- a number below 10 ^ k has at most k digits
digits_most : (k w x : ℕ) → x < 10 ^ suc k → length (decimal_in w x) ≤ suc k
unfolding decimal_in
digits_most k zero x h = omega arith
digits_most zero (suc w) x h =
    let small : x < 10 = rw pow-suc at h in
    rw (lt-ltb x 10 small) (omega arith)
digits_most (suc k) (suc w) x h = go (ltb x 10) (decimal_in w (x / 10)) (digits_most k w (x / 10) (omega (arith, pow-suc 10 (suc k))))
  where
    go : (b : Bool) (rest : List ℕ) → length rest ≤ suc k → length (cond b ((48 + x) ∷ []) (rest ++ ((48 + x % 10) ∷ []))) ≤ suc (suc k)
    go true rest fewer = omega arith
    go false rest fewer = rw (length-append rest ((48 + x % 10) ∷ [])) (omega arith)

pub parts_most : (f : ℕ → List ℕ) (w n : ℕ) → ((i : ℕ) → i < n → length (f i) ≤ w) → length (parts f n) ≤ n * w
unfolding steps
parts_most f w zero h = omega arith
parts_most f w (suc n) h = rw (length-append (parts f n) (f n), suc-mul n w) (omega (arith, parts_most f w n (λ i l. h i (omega arith)), h n (omega arith)))

pub number_most : (k x : ℕ) → x < 10 ^ suc k → length (decimal x) ≤ suc k
unfolding decimal
number_most k x h = digits_most k (suc x) x h

target_most : (set t : ℕ) → t < 100 → length (target set t) ≤ 3
unfolding target
target_most set t h = go (has set t) (eqb (set % 2 ^ t) 0) (number_most 1 t h)
  where
    go : (b c : Bool) → length (decimal t) ≤ 2 → length (cond b (cond c [] (comma ∷ []) ++ decimal t) []) ≤ 3
    go true true l = omega arith
    go true false l = omega arith
    go false c l = omega arith

targets_most : (set : ℕ) → length (targets most_ports set) ≤ 48
unfolding targets
targets_most set = go (eqb set 0) (parts_most (target set) 3 most_ports (λ t h. target_most set t (omega arith)))
  where
    go : (b : Bool) → length (parts (target set) most_ports) ≤ 48 → length (cond b (hyphen ∷ []) (parts (target set) most_ports)) ≤ 48
    go true l = omega arith
    go false l = l

initiator_most : (i set : ℕ) → i < 100 → length (initiator most_ports i set) ≤ 52
unfolding initiator
initiator_most i set h = simp length-append (omega (arith, number_most 1 i h, targets_most set))

-- of a row for each port, and with a slot number of 32 bits
pub initiators_most : (n : ℕ) (rows : List ℕ) → length rows ≡ most_ports → length (initiators most_ports n rows) ≤ 833
unfolding initiators
initiators_most n rows m =
    let each = parts_most (λ i. initiator most_ports i (get_or rows i 0)) 52 (min n (length rows)) (λ i l. initiator_most i (get_or rows i 0) (omega arith)) in
    simp length-append (omega arith)

pub line_most : (slot n : ℕ) (rows : List ℕ) → slot < 2 ^ 32 → length rows ≡ most_ports → length (slot_line most_ports slot n rows) ≤ 1024
line_most slot n rows h m = simp length-append (omega (arith, initiators_most n rows m, number_most 9 slot (omega arith)))

-- with that much room the line stands whole in its place, and all else is as it was
pub line_whole : {o : List ℕ} {at : ℕ} {out : List ℕ} {end : ℕ} (slot n : ℕ) (rows : List ℕ) → slot < 2 ^ 32 → length rows ≡ most_ports → at + 1024 ≤ length o
    → Put o at (slot_line most_ports slot n rows) out end
    → (out ≡ take at o ++ slot_line most_ports slot n rows ++ drop (at + length (slot_line most_ports slot n rows)) o) × (end ≡ at + length (slot_line most_ports slot n rows))
line_whole slot n rows h m room p = whole p (omega (arith, line_most slot n rows h m))
