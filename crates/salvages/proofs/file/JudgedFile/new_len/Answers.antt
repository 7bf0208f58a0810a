-- `salvages::file::JudgedFile::new_len` meets its contract.
use native.Mathlib.Omega.{arith}
use Rattle.salvages.proofs.Wholes.{ports_fit}
use Rattle.salvages.proofs.Writes.{facts, some-kept, slots_many, new_long}
use Rattle.salvages.proofs.file.JudgedFile.new_len.Goals as goal

pub overflow_cast-kept : goal.overflow_cast-kept
overflow_cast-kept c = omega (arith, some-kept c.args.self.now.file.whole c.args.self.now.of_file)

pub shared_ref_as_front-bodies_len : goal.shared_ref_as_front-bodies_len
shared_ref_as_front-bodies_len c = omega (arith, some-kept c.args.self.now.file.whole c.args.self.now.of_file, (facts c.args.self.now.file.whole c.args.self.now.of_file).slots_long)

pub slice_bounds-bodies_len-end : goal.slice_bounds-bodies_len-end
slice_bounds-bodies_len-end c = slots_many c.args.self.now.file.whole c.args.self.now.of_file

pub bodies_len-requires : goal.bodies_len-requires
bodies_len-requires c = (ports_fit c.args.self.now.file.whole, omega (arith, slots_many c.args.self.now.file.whole c.args.self.now.of_file, some-kept c.args.self.now.file.whole c.args.self.now.of_file))

pub returns : goal.returns
returns c = rw (c.contents_len.ensures.0, c.bodies_len.ensures.0) (new_long c.args.self.now.file.whole c.args.self.now.of_file)
