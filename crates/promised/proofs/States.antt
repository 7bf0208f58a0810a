-- The bytes of a state: what a served slot leaves fits nine of them, and they say all of it, whatever follows them.
use mathlib.Core.Path.{◌≡◌, ap, ◌∙◌}
use mathlib.Core.List.{List, ◌++◌}
use Prim.Native.Nat.{ℕ, ◌+◌, ◌^◌, ◌≤◌, ◌<◌}
use native.Mathlib.Omega.{arith}
use lib.ListN.{length, take, drop, length-drop, get_or-append}
use lib.Seq.{take-append-le, drop-append-le}
use Rattle.laws.specs.Bytes.{number}
use Rattle.frames.specs.Part.{most_ports}
use Rattle.ports.specs.declared.state.State.{State}
use Rattle.demands.specs.Refusal.{Valid}
use Rattle.table_bytes.specs.State.{state_len, state_of, Fits}

pub valid_fits : (m : ℕ) → m ≤ most_ports → (st : State) → Valid m st → st.owners < 256 ^ 2 → Fits st
valid_fits m most st v owners =
    let o = v.in_order in
    record { ports = omega (arith, o.ports_at_most); initiator = omega (arith, o.ports_at_most, o.offsets.initiator); target = omega (arith, o.ports_at_most, o.offsets.target); due = v.due_small; owners = owners }

pub front : (s rest : List ℕ) → length s ≡ state_len → state_of (s ++ rest) ≡ state_of s
unfolding state_of
front s rest long =
    let n = get_or-append s rest 0 0 (omega arith) in
    let i = get_or-append s rest 0 1 (omega arith) in
    let j = get_or-append s rest 0 2 (omega arith) in
    let within : (w at : ℕ) → at + w ≤ length s → number (take w (drop at (s ++ rest))) ≡ number (take w (drop at s)) = λ w at fits.
    ap (λ (l : List ℕ). number (take w l)) (drop-append-le at s rest (omega arith)) ∙ ap number (take-append-le w (drop at s) rest (simp length-drop (omega arith))) in
    let d = within 4 3 (omega arith) in
    let o = within 2 7 (omega arith) in
    λ k. record { ports = n k; initiator = record { 0 = i k }; target = record { 0 = j k }; due = d k; owners = o k }
