-- A table as a shelf of n ports sees it.
use Rattle.std.specs.Prelude.{ℕ, ◌*◌, ◌%◌, ◌^◌, List, length, slice_index}
use Rattle.laws.specs.Sets.{tabled}
use Rattle.frames.specs.Part.{most_ports}

-- rule 1: rows and bits at or above n are ignored
unfoldable pub within : ℕ → List ℕ → List ℕ
within n rows = tabled (length rows) (λ i. slice_index rows i % 2 ^ n) n

-- the bits of a word in which a set of the ports is moved
abbrev pub moved_bits : ℕ
moved_bits = 2 * most_ports
