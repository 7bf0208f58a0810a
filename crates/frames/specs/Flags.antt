-- The flags byte of grant frames: gntVal in bit 0, linkErr in bit 1, CRCErr in bit 2, and zeros above.
use Rattle.std.specs.Prelude.{ℕ, ◌+◌, ◌*◌, Bool, cond, leb}

abbrev pub bit : Bool → ℕ
bit b = cond b 1 0

abbrev pub flags : Bool → Bool → Bool → ℕ
flags gntval linkerr crcerr = bit gntval + 2 * bit linkerr + 4 * bit crcerr

abbrev pub zeros_above : ℕ → Bool
zeros_above f = leb f 7
