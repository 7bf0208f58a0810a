-- How far the choice has come, as it goes from member to member of a rotation and passes over the others.
use Rattle.std.specs.Prelude.{◌≡◌, Bool, ◌&&◌, ℕ, ◌+◌, ◌<◌, ◌≤◌, ltb}
use Rattle.laws.specs.Sets.{has}
use Rattle.choices.specs.Choice.{place, chosen}
use Rattle.choices.specs.declared.choice.Scan.{Scan}

-- s holds, for each place from k on, whether it is one of the n places and has p
abbrev pub Turned : (ℕ → Bool) → ℕ → ℕ → ℕ → ℕ → Type 0
Turned p n a k s = (j : ℕ) → has s j ≡ (ltb (k + j) n && p (place n a (k + j)))

pub record Scanned (p : ℕ → Bool) (f : ℕ → ℕ) (n a : ℕ) (s : Scan) : Type 0 where
  pub rest : Turned p n a s.passed s.left
  pub best : s.best ≡ chosen p f n a s.passed
  pub within : s.passed ≤ n
  pub range : s.best < n
