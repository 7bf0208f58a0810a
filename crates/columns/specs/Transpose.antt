-- Means of the columns, no rule: the columns of a table of sixteen rows, by way of four words of four rows each.
use Rattle.std.specs.Prelude.{ℕ, ◌+◌, ◌*◌, ◌/◌, ◌%◌, ◌^◌, List, [], ◌∷◌, get_or}
use Rattle.std.specs.Int.Bits.{bit_and, bit_or}
use Rattle.laws.specs.Sets.{tabled}

-- digits of x, and digits of y from s places below; and from s places above
unfoldable pub up : ℕ → ℕ → ℕ → ℕ → ℕ → ℕ
up kept moved s x y = bit_or (bit_and x kept) ((bit_and y moved * 2 ^ s) % 2 ^ 64)

unfoldable pub down : ℕ → ℕ → ℕ → ℕ → ℕ → ℕ
down kept moved s x y = bit_or (bit_and x kept) (bit_and (y / 2 ^ s) moved)

-- four rows in one word
unfoldable pub four : ℕ → ℕ → ℕ → ℕ → ℕ
four a b c d = ((d * 2 ^ 16 + c) * 2 ^ 16 + b) * 2 ^ 16 + a

-- digit 1 of the row's number and of the place change places; then digit 2
unfoldable pub by_one : ℕ → ℕ
by_one w = up 0xAAAAFFFFAAAAFFFF 0x0000AAAA0000AAAA 15 (down 0xFFFF5555FFFF5555 0x0000AAAA0000AAAA 15 w w) w

unfoldable pub by_two : ℕ → ℕ
by_two w = up 0xCCCCCCCCFFFFFFFF 0x00000000CCCCCCCC 30 (down 0xFFFFFFFF33333333 0x00000000CCCCCCCC 30 w w) w

abbrev pub near : ℕ → ℕ
near w = by_two (by_one w)

abbrev pub quarter : List ℕ → ℕ → ℕ
quarter rows k = near (four (get_or rows k 0) (get_or rows (k + 1) 0) (get_or rows (k + 2) 0) (get_or rows (k + 3) 0))

-- what the upper word and the lower word become
unfoldable pub upper4 : ℕ → ℕ → ℕ
upper4 = up 0x0F0F0F0F0F0F0F0F 0x0F0F0F0F0F0F0F0F 4

unfoldable pub lower4 : ℕ → ℕ → ℕ
lower4 = down 0xF0F0F0F0F0F0F0F0 0x0F0F0F0F0F0F0F0F 4

unfoldable pub upper8 : ℕ → ℕ → ℕ
upper8 = up 0x00FF00FF00FF00FF 0x00FF00FF00FF00FF 8

unfoldable pub lower8 : ℕ → ℕ → ℕ
lower8 = down 0xFF00FF00FF00FF00 0x00FF00FF00FF00FF 8

-- the squares of four rows and four columns change places, by four and by eight
unfoldable pub across : ℕ → ℕ → ℕ → ℕ → List ℕ
across a b c d = upper8 (upper4 a b) (upper4 c d) ∷ upper8 (lower4 b a) (lower4 d c) ∷ lower8 (upper4 c d) (upper4 a b) ∷ lower8 (lower4 d c) (lower4 b a) ∷ []

unfoldable pub transposed : List ℕ → List ℕ
transposed rows = across (quarter rows 0) (quarter rows 4) (quarter rows 8) (quarter rows 12)

-- column t of the four words, and all of them
unfoldable pub part : List ℕ → ℕ → ℕ
part ws t = get_or ws (t / 4) 0 / 2 ^ (t % 4 * 16) % 2 ^ 16

unfoldable pub columns : List ℕ → List ℕ
columns rows = tabled 16 (part (transposed rows)) 16

unfoldable pub column : List ℕ → ℕ → ℕ
column cs t = get_or cs t 0 % 2 ^ 16
