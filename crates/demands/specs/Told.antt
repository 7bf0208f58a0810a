-- What documents 01 and 02 say of the grant frame of host i, of n hosts, in the output of a served slot.
use Rattle.std.specs.Prelude.{◌≡◌, ◌↔◌, false, not, List, ℕ, eqb, get_or}
use Rattle.laws.specs.Sets.{has}
use Rattle.refusals.specs.Numbers.{Answer}
use Rattle.frames.specs.declared.held.Held.{Held}
use Rattle.demands.specs.Block.{Heard}

-- it reads as a correct frame; nodeId is i; its set is host i's set of the table; gntVal is set exactly if that set is not empty; linkErr
-- is bit i of the link word; CRCErr is set when the host is unheard
pub record Told (n : ℕ) (sets block : List ℕ) (link i : ℕ) (read : Answer Held) : Type 0 where
  pub correct : read.number ≡ 0
  pub node : read.fields.nodeid ≡ i
  pub held : read.fields.set ≡ get_or sets i 0
  pub some_held : read.fields.gntval ≡ not (eqb (get_or sets i 0) 0)
  pub link_error : read.fields.linkerr ≡ has link i
  pub check_error : (read.fields.crcerr ≡ false) ↔ Heard n block i
