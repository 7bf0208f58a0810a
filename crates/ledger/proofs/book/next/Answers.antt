use Rattle.std.proofs.Common.{arith, rules}
use Rattle.frames.specs.Part.{most_ports}
use Rattle.ledger.specs.Ledger.{next}
use Rattle.ledger.proofs.Feeds.{countable}
use Rattle.ledger.proofs.book.next.Goals as goal

pub overflow_add-next : goal.overflow_add-next
overflow_add-next c = omega (arith, (countable most_ports _ _ c.requires).slots)

pub raise-requires : goal.raise-requires
raise-requires c = (search rules, (countable most_ports _ _ c.requires).asked)

pub raise-requires-2 : goal.raise-requires-2
raise-requires-2 c = (search rules, (countable most_ports _ _ c.requires).connected)

pub raise-requires-3 : goal.raise-requires-3
raise-requires-3 c = (search rules, (countable most_ports _ _ c.requires).fresh)

pub raise-requires-4 : goal.raise-requires-4
raise-requires-4 c = (search rules, (countable most_ports _ _ c.requires).withdrawn)

pub returns : goal.returns
unfolding next
returns c = rw (c.raise-4.ensures, c.raise-3.ensures, c.raise-2.ensures, c.raise.ensures, c.happened-slot.ensures)
