use borrow.Author.Rules.{rules}
use borrow.Author.Tests.{le-leb, lt-leb}
use Rattle.table_bytes.specs.Table.{table_put}
use Rattle.table_bytes.proofs.put_table.Goals as goal

pub returns-then-out-lt-TABLE_LEN : goal.returns-then-out-lt-TABLE_LEN
unfolding table_put
returns-then-out-lt-TABLE_LEN c = (rw (lt-leb _ _ c.if-out-lt-TABLE_LEN.true), search rules)

pub shape_of-out : goal.shape_of-out
unfolding table_put
shape_of-out c = search rules

pub returns : goal.returns
unfolding table_put
returns c = (rw (le-leb _ _ c.if-out-lt-TABLE_LEN.false) c.put.ensures, search rules)
