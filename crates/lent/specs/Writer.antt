-- What a call answers that writes len bytes of what it is given: 14 where that does not fit, then 7 for an output below len.
use Rattle.std.specs.Prelude.{ℕ, Bool, cond, List}
use Rattle.frames.specs.Frame.{room_number}

unfoldable pub writer_number : Bool → ℕ → List ℕ → ℕ
writer_number fits len out = cond fits (room_number len out) 14
