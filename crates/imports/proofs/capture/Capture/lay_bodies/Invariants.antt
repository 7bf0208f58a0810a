-- `imports::capture::Capture::lay_bodies` meets its contract: after i turns the first i records are laid.
use Rattle.std.proofs.Common.{◌≡◌, length}
use Rattle.std.specs.Slice.Iter.{chunks_exact_rest, chunks_exact_size}
use Rattle.frames.specs.Part.{most_ports}
use Rattle.captures.specs.Capture.{low_first}
use Rattle.import_steps.specs.Taking.{known}
use Rattle.imports.specs.Cut.{cut}
use Rattle.imports.proofs.Laid.{Laid}
use Rattle.imports.proofs.Pieces.{Left}
use Rattle.imports.proofs.capture.Capture.lay_bodies.Given as goal

abbrev pub invariant-loop-record : goal.invariant-loop-record
invariant-loop-record l =
    let n = l.self.start.state.ports in
    let i = length l.yielded in
    let g = cut most_ports (low_first l.self.order) n l.self.bytes.now (known l.self.start) i in
    Left n l.self.bytes.now (chunks_exact_size l.record-iterator) (chunks_exact_rest l.record-iterator) i
    × (known l.p ≡ g.known) × Laid n g l.initial.region l.region l.start
