-- `import_steps::step::Step::slot_begun` meets its contract.
use Rattle.std.proofs.Common.{◌≡◌, ◌*◌, ◌%◌, ◌^◌, sym, ◌∙◌}
use lib.Bits.{or_zero_l}
use Rattle.laws.specs.Sets.{with}
use Rattle.laws.proofs.Words.{or_puts}
use Rattle.import_steps.specs.Taking.{known, slot_begun}
use Rattle.import_steps.proofs.Fitting.{stepped, ready, host_small}
use Rattle.import_steps.proofs.step.Step.slot_begun.Goals as goal

pub overflow_shl-result : goal.overflow_shl-result
overflow_shl-result c = host_small _ _ _ c.args.self.taken

pub returns : goal.returns
unfolding slot_begun
returns c =
    let s = c.args.self in
    let host : (1 * 2 ^ s.packet.host) % 2 ^ 16 ≡ with 0 s.packet.host = sym (or_zero_l _) ∙ or_puts 16 0 s.packet.host (host_small _ _ _ s.taken) in
    rw (c.advance.ensures, host)

pub invariant_of-advance : goal.invariant_of-advance
invariant_of-advance c = record { ready = ready (known c.args.self.before) (stepped _ _ _ _ c.args.self.taken).start }
