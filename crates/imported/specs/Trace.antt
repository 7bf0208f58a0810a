-- The trace that a call on a whole capture leaves, and what is read of a trace: of its body b, the fields, the slots before it, and frames.
use Rattle.std.specs.Prelude.{ℕ, ◌+◌, ◌*◌, List, take}
use Rattle.laws.specs.Parts.{part}
use Rattle.laws.specs.Steps.{steps}
use Rattle.frames.specs.Part.{frame_len}
use Rattle.ports.specs.declared.state.State.{State}
use Rattle.lcf.specs.Advance.{advance}
use Rattle.trace_parts.specs.Contents.{ports_of, entry_of}
use Rattle.trace_parts.specs.Body.{block_at}
use Rattle.trace_parts.specs.declared.body.Fields.{Fields}
use Rattle.traces.specs.Trace.{body_at}
use Rattle.imports.specs.Import.{import_answer, import_output}

-- the first bytes of the output, as many as the call answers
unfoldable pub imported : ℕ → ℕ → ℕ → ℕ → ℕ → List ℕ → List ℕ → List ℕ
imported m n mode i j s out = take (import_answer m n mode i j s out).fields.length (import_output m n mode i j s out)

-- how many slots the bodies before body b have
unfoldable pub slots_before : List ℕ → ℕ → ℕ
slots_before t = steps (λ b slots. slots + (entry_of t b).slots) 0

-- the frame of host h in slot k of body b
unfoldable pub frame_at : List ℕ → ℕ → ℕ → ℕ → List ℕ
frame_at t b k h = part (block_at (ports_of t) k + h * frame_len (ports_of t)) (frame_len (ports_of t)) (body_at t b)

-- the state of n ports at the first offsets
abbrev pub start_state : ℕ → ℕ → ℕ → State
start_state n i j = record { ports = n; initiator = record { 0 = i }; target = record { 0 = j }; due = 0; owners = 0 }

-- a state after so many slots, by rule 7; and the fields of a body that starts then
unfoldable pub after : ℕ → State → State
after q st = steps (λ _ x. advance x) st q

abbrev pub fields_after : ℕ → ℕ → State → Fields
fields_after q mode st = record { mode = mode; initiator = (after q st).initiator.0; target = (after q st).target.0 }
