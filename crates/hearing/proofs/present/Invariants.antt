use Rattle.std.proofs.Common.{◌≡◌}
use Rattle.hearing.proofs.Hearing.{voted}
use Rattle.hearing.proofs.present.Given as goal

abbrev pub invariant-loop-h : goal.invariant-loop-h
invariant-loop-h l = l.votes ≡ voted l.owners l.heard l.ben l.h
