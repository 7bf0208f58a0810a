use Rattle.std.proofs.Common.{arith, rules, ◌∙◌}
use Rattle.frames.specs.Part.{most_ports}
use Rattle.ledger.specs.Lent.{ledger_of}
use Rattle.ledger.proofs.Chains.{each_kept}
use Rattle.ledger.proofs.Feeds.{countable}
use Rattle.ledger.proofs.LentLaws.{first_table, second_table, third_table, fourth_table, ready, counted_words}
use Rattle.ledger.proofs.lent.count.Goals as goal

pub overflow_add-words : goal.overflow_add-words
unfolding ledger_of
overflow_add-words c = omega (arith, (countable most_ports _ _ c.requires).slots)

pub raise-requires : goal.raise-requires
unfolding ledger_of
raise-requires c = ready most_ports (first_table most_ports c.args.words.now c.told-words c.happened-slot.result) (countable most_ports _ _ c.requires).asked

pub raise-requires-2 : goal.raise-requires-2
unfolding ledger_of
raise-requires-2 c =
    ready most_ports (second_table most_ports c.args.words.now c.told-words c.happened-slot.result c.raise.ensures)
    (countable most_ports _ _ c.requires).connected

pub raise-requires-3 : goal.raise-requires-3
unfolding ledger_of
raise-requires-3 c =
    ready most_ports (third_table most_ports c.args.words.now c.told-words c.happened-slot.result c.raise.ensures c.raise-2.ensures)
    (countable most_ports _ _ c.requires).fresh

pub raise-requires-4 : goal.raise-requires-4
unfolding ledger_of
raise-requires-4 c =
    ready most_ports (fourth_table most_ports c.args.words.now c.told-words c.happened-slot.result c.raise.ensures c.raise-2.ensures c.raise-3.ensures)
    (countable most_ports _ _ c.requires).withdrawn

pub returns : goal.returns
returns c =
    let kept = each_kept _ _ _ _ _ (search rules) (λ p x y q k. search rules) c.map.ensures.items in
    counted_words most_ports c.args.words.now c.told-words c.happened-slot.result c.raise.ensures c.raise-2.ensures c.raise-3.ensures c.raise-4.ensures
    _ _ _ (rw (← c.waiting_of.ensures) c.happened-slot.ensures) (c.copy_from_slice.ensures.after ∙ kept)
