-- `body_fates::judging::Judged::judge` meets its contract.
use Prim.Native.Nat.{◌<◌}
use mathlib.Core.Path.{◌≡◌, sym, ◌∙◌}
use mathlib.Core.Bool.{false}
use lib.Dec.{leb}
use borrow.Author.Tests.{leb-false}
use Rattle.laws.proofs.Tests.{neither}
use Rattle.body_fates.specs.Judged.{is_full, noted, judge}
use Rattle.body_fates.specs.declared.judging.Judged.{Judged}
use Rattle.trace_parts.specs.Layout.{most_bodies}
use Rattle.body_fates.proofs.Sound.{kept_seen}
use Rattle.body_fates.proofs.judging.Judged.judge.Goals as goal

has_room : (j : Judged) → is_full j ≡ false → (j.bodies < most_bodies) × (j.kept < most_bodies)
unfolding is_full
has_room j e =
    let (a, b) = neither (leb most_bodies j.bodies) _ e in
    (leb-false most_bodies j.bodies a, leb-false most_bodies j.kept b)

pub returns-then-is_full : goal.returns-then-is_full
unfolding judge
returns-then-is_full c = rw (← c.is_full.ensures, c.if-is_full.true)

pub note-requires : goal.note-requires
note-requires c = (has_room _ (sym c.is_full.ensures ∙ c.if-is_full.false)).0

pub enter-requires : goal.enter-requires
unfolding noted
enter-requires c = rw c.note.ensures (has_room _ (sym c.is_full.ensures ∙ c.if-is_full.false)).1

pub returns-then-eq : goal.returns-then-eq
unfolding judge
returns-then-eq c = rw (← c.is_full.ensures, c.if-is_full.false, ← c.body_fate-fate.ensures, ← kept_seen c.body_fate-fate.result, ← c.if-eq.ensures, c.enter.ensures, c.note.ensures)

pub returns-else-eq : goal.returns-else-eq
unfolding judge
returns-else-eq c = rw (← c.is_full.ensures, c.if-is_full.false, ← c.body_fate-fate.ensures, ← kept_seen c.body_fate-fate.result, ← c.if-eq.ensures, c.note.ensures)
