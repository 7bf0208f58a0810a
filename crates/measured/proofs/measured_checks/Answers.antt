use mathlib.Core.Path.{◌≡◌, sym}
use Prim.Native.Nat.{◌/◌}
use native.Mathlib.Omega.{arith}
use lib.ListN.{length}
use borrow.Author.Rules.{rules}
use borrow.Author.Tests.{eq-eqb}
use Rattle.measured.proofs.Parts.{all_parts}
use Rattle.measured.proofs.measured_checks.Goals as goal

pub returns : goal.returns
returns c =
    let s = c.args.bytes.now in
    let n : length s / 9 ≡ 16 = omega (arith, c.if-bytes-ne144.false) in
    rw (eq-eqb _ _ c.if-bytes-ne144.false, ← n, sym (all_parts s (length s / 9))) (search rules)
