-- How a pair is joined, in every rule: the initiator holds the target, and its row and the target's column stop being live (rules 4, 5 and 6).
use Rattle.std.specs.Prelude.{ℕ, cond, map, get_or, set}
use Rattle.laws.specs.Sets.{asks, with, without}
use Rattle.choices.specs.declared.work.Work.{Work}

unfoldable pub join : Work → ℕ → ℕ → Work
join s i t = record { live = map (λ row. without row t) (set s.live i 0); held = set s.held i (with (get_or s.held i 0) t) }

-- the pair is joined if its request is live
unfoldable pub join_live : Work → ℕ → ℕ → Work
join_live s i t = cond (asks s.live i t) (join s i t) s
