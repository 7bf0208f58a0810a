-- Ports and body count fit a word.
use mathlib.Core.Path.{◌≡◌}
use mathlib.Core.Bool.{Bool, true}
use mathlib.Core.List.{List}
use Prim.Native.Nat.{ℕ, ◌≤◌}
use native.Mathlib.Omega.{arith}
use Rattle.std.specs.Prelude.{Result, Ok, Err, IfOk}
use Rattle.refusals.specs.Numbers.{answer_of}
use Rattle.refusals.specs.declared.Refusal.{Refusal}
use Rattle.trace_parts.proofs.Shown.{shown}
use Rattle.frames.specs.Part.{most_ports}
use Rattle.trace_parts.specs.Contents.{contents_fit, head_of, no_head, head_if}
use Rattle.trace_parts.specs.declared.contents.Head.{Head}
use Rattle.trace_parts.proofs.ContentsLaws.{Contents, fitting}
use Rattle.traces.specs.Trace.{trace_sound}
use Rattle.traces.proofs.TraceLaws.{trace}

abbrev Small : Result Head Refusal → Type 0
Small r = IfOk r (λ h. (h.ports ≤ 65535) × (h.count ≤ 65535))

small_if : (b : Bool) (s : List ℕ) → (b ≡ true → Contents most_ports s) → (r : Result Head Refusal) → answer_of no_head r ≡ head_if b s → Small r
small_if b s known (Ok h) is = let (t, same) = shown no_head (head_of s) b h is in let c = known t in rw same (omega (arith, c.ports), omega (arith, c.count))
small_if b s known (Err why) is = tt

pub file_small : (len : ℕ) (s : List ℕ) (r : Result Head Refusal) → answer_of no_head r ≡ head_if (contents_fit most_ports len s) s → Small r
file_small len s = small_if _ s (λ e. (fitting most_ports len s e).0)

pub trace_small : (s : List ℕ) (r : Result Head Refusal) → answer_of no_head r ≡ head_if (trace_sound most_ports s) s → Small r
trace_small s = small_if _ s (λ e. (trace most_ports s e).contents)
