-- A trace: contents, and bodies that follow without gaps in that order and end the file.
use Rattle.std.specs.Prelude.{ℕ, Bool, ◌&&◌, cond, List, [], ltb, length}
use Rattle.laws.specs.Parts.{part}
use Rattle.laws.specs.Steps.{every}
use Rattle.refusals.specs.Numbers.{Answer}
use Rattle.trace_parts.specs.Contents.{ports_of, count_of, entry_of, entry_body, contents_fit, head_if, entry_if}
use Rattle.trace_parts.specs.Body.{body_sound}
use Rattle.trace_parts.specs.declared.contents.Described.{Described}
use Rattle.trace_parts.specs.declared.contents.Head.{Head}

-- the bytes of body k
unfoldable pub body_at : List ℕ → ℕ → List ℕ
body_at s k = part (entry_of s k).offset (entry_body s k) s

unfoldable pub sound_at : ℕ → List ℕ → ℕ → Bool
sound_at m s k = body_sound m (ports_of s) (entry_of s k).slots (body_at s k)

-- where at most m ports are allowed
unfoldable pub trace_sound : ℕ → List ℕ → Bool
trace_sound m s = contents_fit m (length s) s && every (sound_at m s) (count_of s)

-- ---- what the calls answer

abbrev pub trace_head : ℕ → List ℕ → Answer Head
trace_head m s = head_if (trace_sound m s) s

unfoldable pub has_body : ℕ → List ℕ → ℕ → Bool
has_body m s k = trace_sound m s && ltb k (count_of s)

abbrev pub trace_entry : ℕ → List ℕ → ℕ → Answer Described
trace_entry m s k = entry_if (has_body m s k) s k

-- body k: its number, where the part starts, and the part, empty where the call declines
abbrev pub body_number : ℕ → List ℕ → ℕ → ℕ
body_number m s k = cond (has_body m s k) 0 14

abbrev pub body_start : ℕ → List ℕ → ℕ → ℕ
body_start m s k = cond (has_body m s k) (entry_of s k).offset 0

abbrev pub body_part : ℕ → List ℕ → ℕ → List ℕ
body_part m s k = cond (has_body m s k) (body_at s k) []
