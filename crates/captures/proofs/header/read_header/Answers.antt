-- `captures::header::read_header` meets its contract.
use Rattle.std.proofs.Common.{sym, ◌∙◌, le-leb, eq-eqb, ne_eqb}
use Rattle.std.proofs.lemmas.Bool.{lt-leb}
use Rattle.captures.specs.Capture.{header_read, header_sound}
use Rattle.captures.proofs.Headers.{found, not_found}
use Rattle.captures.proofs.header.read_header.Goals as goal

pub returns-then-start-lt-HEADER : goal.returns-then-start-lt-HEADER
unfolding header_read header_sound
returns-then-start-lt-HEADER c = rw (lt-leb _ _ c.if-start-lt-HEADER.true)

pub returns-in_default : goal.returns-in_default
unfolding header_read header_sound
returns-in_default c = rw (not_found _ (sym c.in_default.is ∙ c.magic_order.ensures), le-leb _ _ c.if-start-lt-HEADER.false)

pub returns-then-long_in-eq-LINK_TYPE : goal.returns-then-long_in-eq-LINK_TYPE
unfolding header_read header_sound
returns-then-long_in-eq-LINK_TYPE c =
    let f = found _ _ (sym c.in-Some.is ∙ c.magic_order.ensures) in
    rw (le-leb _ _ c.if-start-lt-HEADER.false, f.there, f.is, f.low, ← c.long_in.ensures, eq-eqb _ _ c.if-long_in-eq-LINK_TYPE.true)

pub returns : goal.returns
unfolding header_read header_sound
returns c =
    let f = found _ _ (sym c.in-Some.is ∙ c.magic_order.ensures) in
    rw (le-leb _ _ c.if-start-lt-HEADER.false, f.there, f.low, ← c.long_in.ensures, ne_eqb _ _ c.if-long_in-eq-LINK_TYPE.false)
