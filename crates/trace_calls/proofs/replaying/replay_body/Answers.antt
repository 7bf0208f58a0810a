-- `trace_calls::replaying::replay_body` meets its contract.
use native.Mathlib.Omega.{arith}
use Rattle.laws.proofs.Tests.{refuted}
use Rattle.frames.specs.Part.{most_ports}
use Rattle.lent.proofs.Writes.{unfit}
use Rattle.trace_parts.specs.Layout.{most_slots}
use Rattle.trace_parts.proofs.BodyLaws.{sound}
use Rattle.trace_calls.proofs.replaying.replay_body.Goals as goal

pub returns-then-slots-gt-MOST_COUNT : goal.returns-then-slots-gt-MOST_COUNT
unfolding most_slots
returns-then-slots-gt-MOST_COUNT c = unfit _ _ _ _ (refuted _ (λ e. omega (arith, (sound most_ports _ _ _ e).whole.most)))
