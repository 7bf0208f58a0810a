use Rattle.std.proofs.Common.{◌∙◌, sym}
use borrow.Author.Tests.{eqb-true}
use Rattle.refusals.specs.Numbers.{number_of}
use Rattle.refusals.proofs.Unique.{is_done}
use Rattle.frames.specs.Part.{most_ports}
use Rattle.ports.specs.declared.state.Mode.TheVariants.{Central}
use Rattle.ports.proofs.Numbers.{served}
use Rattle.ports.proofs.orderly.Orderly.of.Goals as goal

pub invariant_of-result : goal.invariant_of-result
invariant_of-result c =
    let done = eqb-true (number_of c.check_due.result) 0 (sym (is_done c.check_due.result) ∙ (sym c.is_ok.ensures.value ∙ c.if-is_ok.true)) in
    record { ready = (served most_ports c.args.state c.args.state.due Central (sym c.check_due.ensures ∙ done)).ready }
