-- A table as n ports see it: no more ports than rows count, and no more bits than a row has.
use Rattle.std.proofs.Common.{◌≡◌, ℕ, ◌+◌, ◌-◌, ◌%◌, ◌^◌, ◌<◌, ◌≤◌, min, Bool, true, false, ◌&&◌, ltb, leb, List, length, get_or, sym, refl, ap, ◌∙◌, lt_of_lt_of_le, mod-eq_of_lt, arith, pow_mono, ltb-true, lt-ltb, leb-false, leb-true}
use lib.Seq.{set_out}
use Rattle.laws.specs.Sets.{has, asks, tabled}
use Rattle.laws.proofs.Loops.{same_steps, stays}
use Rattle.laws.proofs.Members.{tabled-asks, asks-row, below_has, has_below}
use Rattle.laws.proofs.Rows.{length_tabled, row-tabled}
use Rattle.laws.proofs.Tests.{both, every, same}
use Rattle.ports.specs.Tables.{within}

-- the first k rows cut to k bits, where k is the ports n and at most m, in a table of m rows of m bits
pub as_ports_see : (m n k : ℕ) (rows : List ℕ) {r : List ℕ} → length rows ≡ m → ((i : ℕ) → get_or rows i 0 < 2 ^ m) → k ≡ min n m
    → r ≡ tabled m (λ i. get_or rows i 0 % 2 ^ k) k → r ≡ within n rows
unfolding within
as_ports_see m n k rows l small q e = e ∙ go (leb n m) refl
  where
    whole : (i : ℕ) → m ≤ n → get_or rows i 0 % 2 ^ m ≡ get_or rows i 0 % 2 ^ n
    whole i h = mod-eq_of_lt (small i) ∙ sym (mod-eq_of_lt (lt_of_lt_of_le (small i) (pow_mono h)))

    past : (d : ℕ) → tabled m (λ i. get_or rows i 0 % 2 ^ n) (m + d) ≡ tabled m (λ i. get_or rows i 0 % 2 ^ n) m
    past d = stays _ _ m d (λ j h. set_out _ j _ (omega (arith, length_tabled m (λ i. get_or rows i 0 % 2 ^ n) m)))

    go : (b : Bool) → leb n m ≡ b → tabled m (λ i. get_or rows i 0 % 2 ^ k) k ≡ tabled (length rows) (λ i. get_or rows i 0 % 2 ^ n) n
    go true t = let p : k ≡ n = omega (arith, leb-true n m t) in rw (p, l)
    go false t =
        let p : k ≡ m = omega (arith, leb-false n m t) in
        let h : m ≤ n = omega (arith, leb-false n m t) in
        let g : m + (n - m) ≡ n = omega arith in
        rw (p, l) (same_steps _ _ _ m (λ i u b. rw (whole i h)) ∙ (rw g at (sym (past (n - m)))))

-- which pairs n ports see
pub asks-within : (n : ℕ) (rows : List ℕ) (i t : ℕ) → asks (within n rows) i t ≡ (ltb i n && ltb t n && asks rows i t)
unfolding within
asks-within n rows i t = same _ _
    (λ e. let (l, h) = tabled-asks (length rows) _ n i t e in
    let (g, a) = below_has (get_or rows i 0) n t h in
    every (every (lt-ltb i n l) (lt-ltb t n g)) a)
    (λ e. let (r, a) = both (ltb i n && ltb t n) (asks rows i t) e in
    let (l, g) = both (ltb i n) (ltb t n) r in
    ap (λ s. has s t) (row-tabled (length rows) _ n i (ltb-true i n l) (asks-row rows i t a)) ∙ has_below (get_or rows i 0) n t (ltb-true t n g) ∙ a)
