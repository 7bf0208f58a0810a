-- A resent block changes no figure: it is refused, so nothing is fed, whatever calls come between, as long as fewer than 2 ^ 31 of
-- them are served.
use mathlib.Core.Path.{◌≡◌, sym, ◌∙◌}
use mathlib.Core.List.{List}
use Prim.Native.Nat.{ℕ, ◌^◌, ◌<◌}
use native.Mathlib.Omega.{arith}
use borrow.Author.Tests.{eq-eqb, ne_eqb}
use Rattle.demands.specs.History.{after, how_many}
use Rattle.demands.specs.SlotCall.{SlotCall, number}
use Rattle.demands.proofs.Resent.{stale_again}
use Rattle.demands.proofs.Turns.{by_value}
use Rattle.charted.specs.Chart.{Chart, is_served, charted}
use Rattle.charted.proofs.Calls.{charts_move, declined_keeps}

pub resent_counts_nothing : (m : ℕ) (s : Chart) (c again : SlotCall) (calls : List SlotCall) → number m s.state c ≡ 0
    → s.state.due < 2 ^ 32 → c.slot < 2 ^ 32 → how_many (charted m) (is_served m) (charted m s c) calls < 2 ^ 31 → again.slot ≡ c.slot
    → let now = after (charted m) (charted m s c) calls in charted m now again ≡ now
resent_counts_nothing m s c again calls done due< slot< few same =
    let now = after (charted m) (charted m s c) calls in
    let three = stale_again (charts_move m) m s c calls c again tt (by_value (charted m) calls (charted m s c)) (eq-eqb _ 0 done) done due< slot< few same in
    declined_keeps m now again (ne_eqb (number m now.state again) 0 (λ z. let never : ◌≡◌ {A = ℕ} 0 3 = sym z ∙ three in omega arith))
