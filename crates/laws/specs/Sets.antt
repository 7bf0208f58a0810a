-- Sets of numbers as words of any width: k is in s if bit k of s is 1. And tables of such sets, a row a set.
use Rattle.std.specs.Prelude.{ℕ, suc, ◌-◌, ◌*◌, ◌/◌, ◌%◌, ◌^◌, Bool, cond, List, map, eqb, get_or, set, replicate}
use Rattle.std.specs.Int.Bits.{bit_or}
use Rattle.std.specs.Int.Count.{ones}
use Rattle.laws.specs.Steps.{steps}

-- bit k of s
abbrev pub digit : ℕ → ℕ → ℕ
digit s k = s / 2 ^ k % 2

-- k is in s
abbrev pub has : ℕ → ℕ → Bool
has s k = eqb (digit s k) 1

-- s with k, and s without it
abbrev pub with : ℕ → ℕ → ℕ
with s k = bit_or s (2 ^ k)

abbrev pub without : ℕ → ℕ → ℕ
without s k = s - digit s k * 2 ^ k

-- the set of the k below n with p k
abbrev pub gathered : (ℕ → Bool) → ℕ → ℕ
gathered p = steps (λ k s. cond (p k) (with s k) s) 0

-- how many k below n have p k
abbrev pub tally : (ℕ → Bool) → ℕ → ℕ
tally p = steps (λ k c. cond (p k) (suc c) c) 0

-- the pair (i, t) is in a table: t is in row i
abbrev pub asks : List ℕ → ℕ → ℕ → Bool
asks rows i t = has (get_or rows i 0) t

-- the set of the i below n whose row has t
abbrev pub column : List ℕ → ℕ → ℕ → ℕ
column rows n t = gathered (λ i. asks rows i t) n

-- how many each row has
abbrev pub sizes : List ℕ → List ℕ
sizes rows = map ones rows

-- m rows: row k is f k for the k below n, and the others are empty
abbrev pub tabled : ℕ → (ℕ → ℕ) → ℕ → List ℕ
tabled m f = steps (λ k rows. set rows k (f k)) (replicate m 0)
