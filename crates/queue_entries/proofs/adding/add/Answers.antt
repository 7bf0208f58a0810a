-- `queue_entries::adding::add` meets its contract.
use mathlib.Core.Path.{refl}
use native.Mathlib.Omega.{arith}
use Rattle.frames.specs.Part.{most_ports}
use Rattle.queue_records.specs.Order.{most_cells, cell_len}
use Rattle.queue_entries.specs.Adding.{add_words, add_pool}
use Rattle.queue_entries.proofs.Adds.{can_store, new_entry, can_enter}
use Rattle.queue_entries.proofs.adding.add.Goals as goal

pub store-requires : goal.store-requires
store-requires c =
    let a = c.args in
    can_store most_ports most_cells cell_len a.words.now a.i.0 a.t.0 a.cell.now a.pool.now c.in_ok-can_add.ensures refl c.next_cell-x.ensures

pub invariant_of-entry : goal.invariant_of-entry
invariant_of-entry c =
    let a = c.args in
    let new = new_entry most_ports most_cells cell_len a.words.now a.i.0 a.t.0 a.cell.now a.pool.now c.in_ok-can_add.ensures refl c.next_cell-x.ensures in
    record { fits = (omega (arith, new.0), new.1, new.2) }

pub enter-requires : goal.enter-requires
enter-requires c =
    let a = c.args in
    can_enter most_ports most_cells cell_len a.words.now a.i.0 a.t.0 a.cell.now a.pool.now c.in_ok-can_add.ensures refl c.next_cell-x.ensures

pub returns : goal.returns
unfolding add_words add_pool
returns c = rw (← c.in_ok-can_add.ensures, ← c.next_cell-x.ensures) (refl, c.enter.ensures, c.store.ensures)
