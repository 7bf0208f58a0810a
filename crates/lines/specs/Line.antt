-- A slot's table as a line of text, as document 01 prints it, in ASCII.
use Rattle.std.specs.Prelude.{ℕ, zero, suc, min, ◌+◌, ◌/◌, ◌%◌, ◌^◌, cond, List, [], ◌∷◌, ◌++◌, eqb, ltb, length, get_or}
use Rattle.laws.specs.Parts.{parts}
use Rattle.laws.specs.Sets.{has}

-- the last w digits of x, without zeros in front
unfoldable pub decimal_in : ℕ → ℕ → List ℕ
decimal_in zero x = []
decimal_in (suc w) x = cond (ltb x 10) ((48 + x) ∷ []) (decimal_in w (x / 10) ++ ((48 + x % 10) ∷ []))

-- x in decimal: it has no more than x + 1 digits
unfoldable pub decimal : ℕ → List ℕ
decimal x = decimal_in (suc x) x

abbrev pub comma : ℕ
comma = 44

abbrev pub hyphen : ℕ
hyphen = 45

abbrev pub space : ℕ
space = 32

abbrev pub colon : ℕ
colon = 58

abbrev pub line_end : ℕ
line_end = 10

-- a comma stands before t, unless the set has nobody below t
abbrev pub separator : ℕ → ℕ → List ℕ
separator set t = cond (eqb (set % 2 ^ t) 0) [] (comma ∷ [])

-- target t, if the set has it
unfoldable pub target : ℕ → ℕ → List ℕ
target set t = cond (has set t) (separator set t ++ decimal t) []

-- the targets of a set of w bits, rising, with commas between, or a hyphen for none
unfoldable pub targets : ℕ → ℕ → List ℕ
targets w set = cond (eqb set 0) (hyphen ∷ []) (parts (target set) w)

-- one space, the initiator's number, a colon and its targets
unfoldable pub initiator : ℕ → ℕ → ℕ → List ℕ
initiator w i set = (space ∷ []) ++ decimal i ++ (colon ∷ []) ++ targets w set

-- each initiator below n, as far as there are rows, and the line's end
unfoldable pub initiators : ℕ → ℕ → List ℕ → List ℕ
initiators w n rows = parts (λ i. initiator w i (get_or rows i 0)) (min n (length rows)) ++ (line_end ∷ [])

-- a line with its label; and a slot's, with its number for the label
abbrev pub line : ℕ → List ℕ → ℕ → List ℕ → List ℕ
line w label n rows = label ++ initiators w n rows

abbrev pub slot_line : ℕ → ℕ → ℕ → List ℕ → List ℕ
slot_line w slot n rows = line w (decimal slot) n rows
