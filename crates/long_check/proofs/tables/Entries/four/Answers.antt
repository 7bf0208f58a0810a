-- `long_check::tables::Entries::four` meets its contract.
use mathlib.Core.Path.{◌∙◌}
use Prim.Native.Nat.{◌+◌, ◌*◌, ◌≤◌}
use native.Mathlib.Omega.{arith}
use borrow.Author.Rules.{rules}
use Rattle.long_check.proofs.Several.{four-passed, near, bytes_of}
use Rattle.long_check.proofs.tables.Entries.four.Goals as goal

pub returns : goal.returns
returns c =
    let a = c.args in
    let k = a.k in
    let h : k ≤ 4 = c.requires in
    let own = near k (8 * k + 16) (omega arith) (omega arith) in
    let first = near (k + 1) (8 * k + 24) (omega arith) (omega arith) in
    let second = near (k + 2) (8 * k + 32) (omega arith) (omega arith) in
    let third = near (k + 3) (8 * k + 40) (omega arith) (omega arith) in
    rw (c.at-4.ensures, c.at-3.ensures, c.at-2.ensures, c.at.ensures, third, second, first, own, c.to_be_bytes.ensures ∙ bytes_of a.c (search rules))
    (four-passed (8 * k) a.c a.a a.b a.d a.e (search rules) (search rules) (search rules) (search rules) (search rules))
