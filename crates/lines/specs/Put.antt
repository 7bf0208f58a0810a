-- Text that is put into lent bytes from a place on, as far as there is room.
use Rattle.std.specs.Prelude.{ℕ, min, ◌+◌, ◌-◌, ◌≡◌, List, length}
use Rattle.std.proofs.lemmas.List.Edits.{sets}
use Rattle.lines.specs.declared.Text.{Text}

-- s was put into the bytes o from place `at` on: each byte in its own place, those beyond the end left out; and where it ends
pub record Put (o : List ℕ) (at : ℕ) (s last : List ℕ) (end : ℕ) : Type 0 where
  pub bytes : last ≡ sets o at s
  pub ends : end ≡ at + min (length s) (length o - at)

-- s was put behind what the text had, into the bytes that it was lent
pub record Puts (t : Text) (s : List ℕ) (u : Text) : Type 0 where
  pub put : Put t.bytes.now t.len s u.bytes.now u.len
  pub lent : u.bytes.ghost_name ≡ t.bytes.ghost_name
