-- Means of the columns, no rule: a number for each initiator, held in planes, the lowest first. Bit i of plane k is digit k of initiator i's
-- number, for any number of planes.
use Rattle.std.specs.Prelude.{ℕ, ◌+◌, ◌*◌, ◌-◌, ◌^◌, ◌||◌, cond, List, [], ◌∷◌, eqb, get_or}
use Rattle.std.specs.Int.Bits.{bit_and, bit_xor}
use Rattle.std.specs.Int.Count.{count_trailing_zeros}
use Rattle.laws.specs.Sets.{digit, has}
use Rattle.columns.specs.declared.planes.Planes.{Planes}

-- initiator i's number
unfoldable pub value : List ℕ → ℕ → ℕ
value [] i = 0
value (p ∷ ps) i = digit p i + 2 * value ps i

-- one more for each initiator of x, and one less, modulo 2 to the number of planes
unfoldable pub plus : List ℕ → ℕ → List ℕ
plus [] x = []
plus (p ∷ ps) x = bit_xor p x ∷ plus ps (bit_and p x)

unfoldable pub minus : List ℕ → ℕ → List ℕ
minus [] x = []
minus (p ∷ ps) x = bit_xor p x ∷ minus ps (bit_and x (bit_xor p x))

-- those of m that are not in the plane; all of m if there is none
unfoldable pub narrow : ℕ → ℕ → ℕ
narrow m plane = cond (eqb (bit_and m (bit_xor m plane)) 0) m (bit_and m (bit_xor m plane))

-- those of m with the lowest number: narrowed by the highest plane first
unfoldable pub lowest : List ℕ → ℕ → ℕ
lowest [] m = m
lowest (p ∷ ps) m = narrow (lowest ps m) p

-- the planes of a word of 32 bits each
abbrev pub digits : Planes → List ℕ
digits p = p.ones ∷ p.twos ∷ p.fours ∷ p.eights ∷ []

abbrev pub planes : List ℕ → Planes
planes ds = record { ones = get_or ds 0 0; twos = get_or ds 1 0; fours = get_or ds 2 0; eights = get_or ds 3 0 }

unfoldable pub more : Planes → ℕ → Planes
more p x = planes (plus (digits p) x)

unfoldable pub less : Planes → ℕ → Planes
less p x = planes (minus (digits p) x)

-- of m, the one with the lowest number; among equals, the first in the rotation from a
unfoldable pub least : ℕ → Planes → ℕ → ℕ
least m p a = count_trailing_zeros 32 (narrow (lowest (digits p) m) (2 ^ a - 1))

unfoldable pub winner : ℕ → Planes → ℕ → ℕ
winner m p a = cond (eqb m 0 || has m a) a (least m p a)
