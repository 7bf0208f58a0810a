-- Two blocks that differ in one host's vote, and in which nobody else votes against anybody.
use Rattle.std.specs.Prelude.{◌≡◌, List, ℕ, ◌<◌, length}
use Rattle.demands.specs.Block.{says, Clears}

-- of n hosts, host g alone says something else in b than in a, and not in req or pre
pub record VoteAlone (n owners g : ℕ) (a b : List ℕ) : Type 0 where
  pub same_length : length a ≡ length b
  pub others_same : (h : ℕ) → h < n → (h ≡ g → ⊥) → says n a h ≡ says n b h
  pub same_number : (says n a g).number ≡ (says n b g).number
  pub same_req : (says n a g).fields.req ≡ (says n b g).fields.req
  pub same_pre : (says n a g).fields.pre ≡ (says n b g).fields.pre
  -- no other heard host clears anything of its own operator's
  pub others_clear_nothing : (h i : ℕ) → h < n → i < n → (h ≡ g → ⊥) → Clears n owners a i h → ⊥
