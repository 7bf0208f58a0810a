-- `queues::moving::move_heads` meets its contract.
use mathlib.Core.Path.{◌∙◌}
use Rattle.frames.specs.Part.{most_ports}
use Rattle.queue_records.specs.Order.{most_cells, cell_len}
use Rattle.queues.proofs.Moves.{words_long, head_words, end_room, moved_words, gone_there, end_there, leavers_fit}
use Rattle.queues.proofs.moving.move_heads.Goals as goal

pub slice_bounds-take_heads-end : goal.slice_bounds-take_heads-end
slice_bounds-take_heads-end c =
    let a = c.args in
    end_room most_ports most_cells cell_len a.words.now a.pool.now a.out.now a.sets c.requires.0 c.requires.1 c.held-held.result c.held-held.ensures.0

pub bounds-words-2 : goal.bounds-words-2
bounds-words-2 c =
    let a = c.args in
    head_words a.words.now c.take_heads-kept.new.entries _ _ (words_long most_ports most_cells cell_len a.words.now a.pool.now a.out.now a.sets c.requires.0 c.requires.1)

pub slice_bounds-forward-end : goal.slice_bounds-forward-end
slice_bounds-forward-end c =
    let a = c.args in
    let t = c.take_heads-kept in
    end_there most_ports most_cells cell_len a.words.now a.pool.now a.out.now a.sets c.requires.0 c.requires.1 c.held-held.result c.held-held.ensures.0 t.result t.new.entries t.ensures _

pub forward-requires : goal.forward-requires
forward-requires c =
    let a = c.args in
    let t = c.take_heads-kept in
    let word = c.held-held in
    leavers_fit most_ports most_cells cell_len a.words.now a.pool.now a.out.now a.sets c.requires.0 c.requires.1 word.result word.ensures.0 _
    (gone_there most_ports most_cells cell_len a.words.now a.pool.now a.out.now a.sets c.requires.0 c.requires.1 word.result word.ensures.0 t.result t.new.entries t.ensures _)

pub returns : goal.returns
returns c =
    let a = c.args in
    let t = c.take_heads-kept in
    let word = c.held-held in (
      moved_words most_ports most_cells cell_len a.words.now a.pool.now a.out.now a.sets c.requires.0 c.requires.1 word.result word.ensures.0 t.result t.new.entries t.ensures,
      c.forward.ensures
          ∙ rw (gone_there most_ports most_cells cell_len a.words.now a.pool.now a.out.now a.sets c.requires.0 c.requires.1 word.result word.ensures.0 t.result t.new.entries t.ensures _),
    )
