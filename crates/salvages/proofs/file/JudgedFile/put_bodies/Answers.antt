-- `salvages::file::JudgedFile::put_bodies` meets its contract.
use Prim.Native.Nat.{◌+◌, ◌<◌}
use mathlib.Core.Path.{◌≡◌, refl, sym, ◌∙◌}
use native.Mathlib.Omega.{arith}
use lib.ListN.{length}
use borrow.Author.Rules.{rules}
use Rattle.laws.specs.Steps.{steps}
use Rattle.frames.specs.Part.{most_ports}
use Rattle.traces.specs.Trace.{body_at}
use Rattle.salvages.specs.Salvage.{if_sound, kept_bodies}
use Rattle.salvages.proofs.Judgements.{fate_told}
use Rattle.salvages.proofs.Wholes.{few}
use Rattle.salvages.proofs.Writes.{facts}
use Rattle.salvages.proofs.Puts.{parts_next, parts_within, put_next}
use Rattle.salvages.proofs.file.JudgedFile.put_bodies.Goals as goal

pub loop-k-init : goal.loop-k-init
unfolding steps
loop-k-init c = (refl, refl, refl)

pub put_kept-at-requires : goal.put_kept-at-requires
put_kept-at-requires c =
    let l = c.loop-k in
    let file = c.args.self.now.file.bytes.now in
    let g = if_sound most_ports file (body_at file) in
    let more : l.k < c.args.self.now.file.count = c.loop-k-test.true in
    let w = c.args.self.now.file.whole in
    (c.fate_of.ensures ∙ fate_told _ _ _ _ (facts w c.args.self.now.of_file) (few w) l.k more, omega (arith, l.invariant.0, l.invariant.2, c.requires, parts_next g l.k, parts_within g (l.k + 1) c.args.self.now.file.count (omega arith)))

pub loop-k-preserved : goal.loop-k-preserved
loop-k-preserved c =
    let l = c.loop-k in
    let file = c.args.self.now.file.bytes.now in
    let g = if_sound most_ports file (body_at file) in
    let put = c.put_kept-at in
    let end : put.result ≡ length (kept_bodies most_ports file l.k) + length (g l.k) = (rw l.invariant.0 at put.ensures.0) in
    let next : put.result ≡ length (kept_bodies most_ports file (l.k + 1)) = end ∙ sym (parts_next g l.k) in (
      next,
      rw (← next) (put_next g l.k put.result c.args.out.now l.out _ l.invariant.1 end (rw l.invariant.0 at put.ensures.1)),
      search rules,
    )

pub returns : goal.returns
returns c =
    let l = c.loop-k in
    let e : l.k ≡ c.args.self.now.file.count = omega arith in
    rw e at l.invariant.1
