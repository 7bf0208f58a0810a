use Rattle.std.proofs.Common.{◌≡◌, ◌%◌, ◌∙◌, sym, mod-lt, mod-eq_of_lt, arith}
use Rattle.choices.proofs.Ports.{goes_round}
use Rattle.choices.proofs.pair.pair_at.Goals as goal
use Rattle.choices.proofs.pair.pair_at.Goals.{then-k-n, else-k-n}

pub place-requires : goal.place-requires
place-requires c = elim c.if-k-n.branch [ then-k-n w ↦ rw w.turn-is w.if-k-n.true | else-k-n w ↦ rw w.turn-is (mod-lt c.args.k (omega (arith, c.args.shelf.ready.initiator))) ]

pub place-requires-2 : goal.place-requires-2
place-requires-2 c = elim c.if-k-n.branch [ then-k-n w ↦ rw w.turn-is w.if-k-n.true | else-k-n w ↦ rw w.turn-is (mod-lt c.args.k (omega (arith, c.args.shelf.ready.initiator))) ]

pub returns : goal.returns
returns c =
    let turn : c.if-k-n.turn ≡ c.args.k % c.args.shelf.state.ports = elim c.if-k-n.branch [ then-k-n w ↦ w.turn-is ∙ sym (mod-eq_of_lt w.if-k-n.true) | else-k-n w ↦ w.turn-is ] in
    record { row = (goes_round _ _ _ c.place.ensures.0 turn, c.place.ensures.1); column = (goes_round _ _ _ c.place-2.ensures.0 turn, c.place-2.ensures.1) }
