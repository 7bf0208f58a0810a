-- Whatever keeps the sound bodies of a file keeps their replays.
use mathlib.Core.List.{List}
use Prim.Native.Nat.{ℕ, ◌<◌}
use Rattle.trace_parts.specs.Contents.{count_of}
use Rattle.kept_bodies.specs.Keeps.{Keeps}
use Rattle.live_replays.specs.Kept.{SameReplay}

pub same_replay : (m : ℕ) (s t : List ℕ) (origin : ℕ → ℕ) → Keeps m s t origin → (j : ℕ) → j < count_of t → SameReplay m s t j (origin j)
same_replay m s t origin k j l =
    let o = k.each j l in
    record {
      slot = λ i. rw (k.ports, o.first, o.slots, o.bytes);
      number = λ tables. rw (k.ports, o.slots, o.bytes);
      tables = λ tables. rw (k.ports, o.first, o.slots, o.bytes);
    }
