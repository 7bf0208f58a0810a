use Rattle.std.proofs.Common.{rules, eq-eqb, ne_eqb}
use Rattle.ports.specs.Modes.{mode_of}
use Rattle.ports.proofs.state.ModeFromU32.from.Goals as goal

pub returns-then-mode-eq0 : goal.returns-then-mode-eq0
unfolding mode_of
returns-then-mode-eq0 c = search (rules, eq-eqb)

pub returns-then-mode : goal.returns-then-mode
unfolding mode_of
returns-then-mode c = rw (ne_eqb _ 0 c.if-mode-eq0.false, eq-eqb _ _ c.if-mode.true)

pub returns : goal.returns
unfolding mode_of
returns c = rw (ne_eqb _ 0 c.if-mode-eq0.false, ne_eqb _ _ c.if-mode.false)
