use borrow.Author.Tests.{le-leb, lt-leb}
use Rattle.table_bytes.specs.Table.{table_in}
use Rattle.table_bytes.proofs.table_in.Goals as goal

pub returns-then-bytes-lt-TABLE_LEN : goal.returns-then-bytes-lt-TABLE_LEN
unfolding table_in
returns-then-bytes-lt-TABLE_LEN c = rw (lt-leb _ _ c.if-bytes-lt-TABLE_LEN.true) c.empty_table.ensures

pub returns : goal.returns
unfolding table_in
returns c = rw (le-leb _ _ c.if-bytes-lt-TABLE_LEN.false) c.read.ensures
