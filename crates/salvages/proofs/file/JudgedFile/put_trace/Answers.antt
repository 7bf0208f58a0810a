-- `salvages::file::JudgedFile::put_trace` meets its contract.
use native.Mathlib.Omega.{arith}
use Rattle.salvages.proofs.Writes.{facts, some-kept, firsts_many, slots_many, fits-behind, bodies_fit, both_written}
use Rattle.salvages.proofs.file.JudgedFile.put_trace.Goals as goal

pub shared_ref_as_front-write_contents : goal.shared_ref_as_front-write_contents
shared_ref_as_front-write_contents c = omega (arith, some-kept c.args.self.now.file.whole c.args.self.now.of_file, (facts c.args.self.now.file.whole c.args.self.now.of_file).firsts_long)

pub slice_bounds-write_contents-end : goal.slice_bounds-write_contents-end
slice_bounds-write_contents-end c = firsts_many c.args.self.now.file.whole c.args.self.now.of_file

pub shared_ref_as_front-write_contents-2 : goal.shared_ref_as_front-write_contents-2
shared_ref_as_front-write_contents-2 c = omega (arith, some-kept c.args.self.now.file.whole c.args.self.now.of_file, (facts c.args.self.now.file.whole c.args.self.now.of_file).slots_long)

pub slice_bounds-write_contents-end-2 : goal.slice_bounds-write_contents-end-2
slice_bounds-write_contents-end-2 c = slots_many c.args.self.now.file.whole c.args.self.now.of_file

pub overflow_cast-kept : goal.overflow_cast-kept
overflow_cast-kept c = omega (arith, some-kept c.args.self.now.file.whole c.args.self.now.of_file)

-- the bodies start within the output
pub slice_bounds-put_bodies-start : goal.slice_bounds-put_bodies-start
slice_bounds-put_bodies-start c = fits-behind c.args.self.now.file.whole c.args.self.now.of_file _ c.contents_len-at.ensures.0 _ _ c.requires c.write_contents.ensures.1

pub slice_bounds-put_bodies-count : goal.slice_bounds-put_bodies-count
slice_bounds-put_bodies-count c = slice_bounds-put_bodies-start c

pub put_bodies-requires : goal.put_bodies-requires
put_bodies-requires c =
    let w = c.args.self.now.file.whole in
    rw w.all (bodies_fit w c.args.self.now.of_file _ c.contents_len-at.ensures.0 _ _ c.requires c.write_contents.ensures.1)

pub returns : goal.returns
returns c = both_written c.args.self.now.file.whole c.args.self.now.of_file _ c.contents_len-at.ensures.0 _ _ c.requires c.write_contents.ensures.1 _ (rw c.args.self.now.file.whole.all at c.put_bodies.ensures)
