use Rattle.shown.proofs.rows.Goals as goal

pub returns : goal.returns
returns c = rw c.empty_table-table.ensures
