use Rattle.std.proofs.Common.{◌≡◌, ◌∙◌, ◌-◌, ◌^◌, get_or, bit_and, rules}
use Rattle.ledger.specs.Events.{less}
use Rattle.laws.proofs.Mapped.{made}
use Rattle.ledger.proofs.EventLaws.{and_not}
use Rattle.ledger.proofs.events.less.Goals as goal

pub returns : goal.returns
unfolding less
returns c = made _ _ _ _ (λ x y q l k.
    let row : y ≡ bit_and (get_or c.args.a.now x 0) (2 ^ 16 - 1 - get_or c.args.b.now x 0) = search rules in
    (search rules, row ∙ and_not 16 _ _ (c.fits-a x) (c.fits-b x))) _ c.from_fn.ensures.items
