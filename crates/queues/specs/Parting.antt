-- The granted heads are taken out of the queues, on shelves of at most m ports.
use Rattle.std.specs.Prelude.{ℕ, Bool, cond, List, [], ◌∷◌, get_or, set}
use Rattle.laws.specs.Sets.{asks, without}
use Rattle.queue_records.specs.Entries.{cell_of, initiator_of, target_of}
use Rattle.queue_records.specs.Queue.{cell_at, stored}

-- the pair of the entry is granted; and the grants without it
abbrev pub granted : ℕ → List ℕ → ℕ → Bool
granted m sets e = asks sets (initiator_of m e) (target_of m e)

abbrev pub spent : ℕ → List ℕ → ℕ → List ℕ
spent m sets e = set sets (initiator_of m e) (without (get_or sets (initiator_of m e) 0) (target_of m e))

-- the first entry of each granted pair leaves; the others stay, in their order
unfoldable pub leaving : ℕ → List ℕ → List ℕ → List ℕ
leaving m sets [] = []
leaving m sets (e ∷ s) = cond (granted m sets e) (e ∷ leaving m (spent m sets e) s) (leaving m sets s)

unfoldable pub staying : ℕ → List ℕ → List ℕ → List ℕ
staying m sets [] = []
staying m sets (e ∷ s) = cond (granted m sets e) (staying m (spent m sets e) s) (e ∷ staying m sets s)

-- the cell of each of these entries goes to its target's place in the output
unfoldable pub forwarded : ℕ → ℕ → List ℕ → List ℕ → List ℕ → List ℕ
forwarded m w pool [] out = out
forwarded m w pool (e ∷ s) out = forwarded m w pool s (stored w out (target_of m e) (cell_at w pool (cell_of m e)))
