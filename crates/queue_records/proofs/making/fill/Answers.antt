-- `queue_records::making::fill` meets its contract.
use mathlib.Core.Path.{◌≡◌, refl, ◌∙◌}
use mathlib.Core.List.{List, [], ◌∷◌, ◌++◌}
use Prim.Native.Nat.{ℕ, ◌+◌, ◌<◌}
use native.Mathlib.Nat.{mul-one}
use native.Mathlib.Numerals.{add-one}
use borrow.Author.Rules.{rules}
use lib.ListN.{length, set, drop, length-set}
use Rattle.frames.specs.Part.{most_ports}
use Rattle.laws.specs.Steps.{steps}
use Rattle.laws.proofs.Parts.{length_parts}
use Rattle.queue_records.specs.Entries.{entry_of}
use Rattle.queue_records.specs.Making.{fresh_entries}
use Rattle.queue_records.proofs.Lists.{put_next}
use Rattle.queue_records.proofs.making.fill.Goals as goal

-- one entry more
next : (old now : List ℕ) (k x : ℕ) → k < length old → now ≡ fresh_entries most_ports k ++ drop k old → x ≡ entry_of most_ports k 0 0
    → set now k x ≡ fresh_entries most_ports (k + 1) ++ drop (k + 1) old
unfolding steps
next old now k x h is of = rw (is, of) (put_next (fresh_entries most_ports k) old _ k (length_parts (λ k. entry_of most_ports k 0 0 ∷ []) 1 (λ k. refl) k ∙ mul-one k) h ∙ rw (add-one k))

pub loop-k-init : goal.loop-k-init
unfolding steps
loop-k-init c = (refl, refl)

pub loop-k-preserved : goal.loop-k-preserved
loop-k-preserved c =
    let l = c.loop-k in
    let is = l.invariant.1 in
    (simp length-set l.invariant.0, next c.args.entries.now l.entries l.k c.fresh_entry.result (search rules) is c.fresh_entry.ensures)
