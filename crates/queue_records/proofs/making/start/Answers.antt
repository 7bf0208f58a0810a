-- `queue_records::making::start` meets its contract.
use native.Mathlib.Omega.{arith}
use lib.ListN.{length-set}
use Rattle.frames.specs.Part.{most_ports}
use Rattle.queue_records.proofs.Heads.{behind_long, fresh_words, fresh_long}
use Rattle.queue_records.proofs.making.start.Goals as goal

pub bounds-words-1 : goal.bounds-words-1
bounds-words-1 c = simp length-set (omega arith)

pub bounds-words-2 : goal.bounds-words-2
bounds-words-2 c = simp length-set (omega arith)

pub slice_bounds-fill-count : goal.slice_bounds-fill-count
slice_bounds-fill-count c = simp length-set (omega arith)

pub slice_bounds-fill-start : goal.slice_bounds-fill-start
slice_bounds-fill-start c = simp length-set (omega arith)

pub fill-requires : goal.fill-requires
fill-requires c = rw (behind_long most_ports c.args.words.now c.args.ports c.args.cells c.requires.2) c.requires.1

pub shape_of-words : goal.shape_of-words
shape_of-words c = fresh_long most_ports c.args.words.now c.args.ports c.args.cells c.requires.2 _ c.fill.ensures

pub returns : goal.returns
returns c = fresh_words most_ports c.args.words.now c.args.ports c.args.cells c.requires.2 _ c.fill.ensures
