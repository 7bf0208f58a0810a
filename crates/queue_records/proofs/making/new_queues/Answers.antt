-- `queue_records::making::new_queues` meets its contract.
use mathlib.Core.Path.{refl, sym, ◌∙◌}
use borrow.Author.Tests.{eq-eqb, ne_eqb, ltb-false}
use mathlib.Core.Bool.{not}
use Prim.Native.Nat.{◌/◌, ◌%◌}
use lib.Dec.{eqb, ltb}
use Rattle.frames.specs.Part.{most_ports}
use Rattle.laws.proofs.Tests.{neither}
use Rattle.queue_records.specs.Order.{most_cells, cell_len}
use Rattle.queue_records.specs.Making.{wrong_pool, new_number, new_words}
use Rattle.queue_records.proofs.making.new_queues.Goals as goal

pub returns-then-words-cells : goal.returns-then-words-cells
unfolding new_number new_words
returns-then-words-cells c = rw (ne_eqb _ _ c.if-words-cells.true) (refl, refl)

pub returns-then-wrong_ports : goal.returns-then-wrong_ports
unfolding new_number new_words
returns-then-wrong_ports c = rw (eq-eqb _ _ c.if-words-cells.false, ← c.wrong_ports.ensures, c.if-wrong_ports.true) (refl, refl)

pub returns-then-wrong_pool : goal.returns-then-wrong_pool
unfolding new_number new_words
returns-then-wrong_pool c = rw (eq-eqb _ _ c.if-words-cells.false, ← c.wrong_ports.ensures, c.if-wrong_ports.false, ← c.wrong_pool.ensures, c.if-wrong_pool.true) (refl, refl)

pub start-requires : goal.start-requires
unfolding wrong_pool
start-requires c =
    let fits = sym c.wrong_pool.ensures ∙ c.if-wrong_pool.false in (
      ltb-false _ _ (neither (ltb c.args.ports 1) (ltb most_ports c.args.ports) (sym c.wrong_ports.ensures ∙ c.if-wrong_ports.false)).1,
      ltb-false _ _ (neither (ltb (c.args.len / cell_len) 1) (ltb most_cells (c.args.len / cell_len)) (neither (not (eqb (c.args.len % cell_len) 0)) _ fits).1).1,
      c.if-words-cells.false,
    )

pub returns : goal.returns
unfolding new_number new_words
returns c = rw (eq-eqb _ _ c.if-words-cells.false, ← c.wrong_ports.ensures, c.if-wrong_ports.false, ← c.wrong_pool.ensures, c.if-wrong_pool.false) (refl, c.start.ensures)
