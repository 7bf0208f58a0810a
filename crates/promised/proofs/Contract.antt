-- The contract of `bellacush_slot` says that each call keeps its promise.
use mathlib.Core.Path.{◌≡◌}
use mathlib.Core.List.{List, ◌++◌}
use Prim.Native.Nat.{ℕ}
use lib.ListN.{take, drop}
use Rattle.frames.specs.Part.{most_ports}
use Rattle.bellacush.proofs.bellacush_slot.Reads as slot
use Rattle.promised.specs.Call.{Kept}

-- Called with the arguments a, of which the first is the first `lent` bytes of `state`, it returned r and left x: `Learnt` is what its contract
-- tells the caller.
pub contract : (κs a : _) (r : ℕ) (x : _) → slot.Learnt κs a r x → (state : List ℕ) (lent : ℕ) → a.0.now ≡ take lent state
    → Kept most_ports state (record {
      handed = record { lent = lent; slot = a.1.0; mode = a.1.1.0; block = a.1.1.1.0.now; link = a.1.1.1.1.0; out = a.1.1.1.1.1.0.now; table = a.1.1.1.1.1.1.0.now };
      left = record { word = r; state = x.0.now ++ drop lent state; out = x.1.1.1.1.1.0.now; table = x.1.1.1.1.1.1.0.now };
    })
contract κs a r x p state lent e = rw (← e) (λ i. record { word = p.0 i; state = p.1 i ++ drop lent state; out = p.3 i; table = p.2 i })
