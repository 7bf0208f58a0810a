use borrow.Author.Rules.{rules}
use mathlib.Core.Bool.{cond}
use mathlib.Core.Path.{◌≡◌, ap, ◌∙◌}
use Prim.Native.Nat.{ℕ, ◌<◌, ◌^◌}
use native.Mathlib.Nat.{mod-eq_of_lt}
use native.Mathlib.Omega.{arith}
use lib.ListN.{get_or}
use mir.Val.{Fits}
use mir.Syntax.{w16}
use Rattle.laws.specs.Sets.{with}
use Rattle.central.specs.Central.{central}
use Rattle.columns.proofs.Agreement.{meets_first, meets_next, in_range}
use Rattle.columns.proofs.serving.all_served.Goals as goal

elements : (x : ℕ) → Fits w16 x → x < 2 ^ 16
elements x f = f.fits

pub all-requires : goal.all-requires
all-requires c = omega arith

pub loop-k-init : goal.loop-k-init
loop-k-init c = λ rows small e. meets_first _ c.args.shelf.ready rows _ small e c.all.ensures c.counted.ensures

pub serve-served-requires : goal.serve-served-requires
serve-served-requires c =
    let small : (i : ℕ) → get_or c.args.live i 0 < 2 ^ 16 = λ i. elements _ (search rules) in
    (search rules, in_range _ c.args.shelf.ready _ _ _ _ (search rules) (c.loop-k.invariant _ small c.columns-sides.ensures))

pub loop-k-preserved : goal.loop-k-preserved
loop-k-preserved c =
    let s = c.serve-served in
    let held = get_or c.loop-k.sets s.result.winner 0 in
    let given = c.given.ensures ∙ ap (λ (t : ℕ). cond s.result.joined (with held t) held) (mod-eq_of_lt s.ensures.2) in
    λ rows small e. meets_next _ c.args.shelf.ready _ rows _ _ (search rules) s.ensures.0 given (c.loop-k.invariant rows small e)

pub returns : goal.returns
returns c =
    let small : (i : ℕ) → get_or c.args.live i 0 < 2 ^ 16 = λ i. elements _ (search rules) in
    let last : c.loop-k.k ≡ c.args.shelf.state.ports = omega arith in
    (c.loop-k.invariant _ small c.columns-sides.ensures).sets ∙ ap (λ k. (central c.args.shelf.state (record { live = c.args.live; held = c.args.held }) k).held) last
