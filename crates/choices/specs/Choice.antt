-- The choice that rules 3, 5 and 6 share: of those with p, the one with the lowest number f; among equals, the first in a rotation.
use Rattle.std.specs.Prelude.{ℕ, ◌+◌, ◌-◌, ◌%◌, Bool, not, ◌&&◌, ◌||◌, cond, List, ltb, get_or}
use Rattle.laws.specs.Steps.{steps}
use Rattle.laws.specs.Sets.{has, column, sizes}

-- the k-th place of the rotation from a, of n
abbrev pub place : ℕ → ℕ → ℕ → ℕ
place n a k = (a + k) % n

-- (a + x - y) mod n, where a rotation starts that moves with x
abbrev pub turned : ℕ → ℕ → ℕ → ℕ → ℕ
turned n a x y = (a + x + n - y) % n

-- x in place of b: x has p, and b has not or has the greater number
abbrev pub better : (ℕ → Bool) → (ℕ → ℕ) → ℕ → ℕ → ℕ
better p f x b = cond (p x && (not (p b) || ltb (f x) (f b))) x b

-- the choice among the first k of the rotation from a
abbrev pub chosen : (ℕ → Bool) → (ℕ → ℕ) → ℕ → ℕ → ℕ → ℕ
chosen p f n a = steps (λ k b. better p f (place n a k) b) a

-- the choice among all n; a itself if none has p
unfoldable pub choice : (ℕ → Bool) → (ℕ → ℕ) → ℕ → ℕ → ℕ
choice p f n a = chosen p f n a n

-- of the initiators asking for target t, the one with the fewest live requests; among equals, the first in the rotation from a
unfoldable pub fewest : List ℕ → ℕ → ℕ → ℕ → ℕ
fewest live n t a = choice (has (column live n t)) (λ i. get_or (sizes live) i 0) n a
