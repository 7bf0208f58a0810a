-- An answer that shows values if a test holds, else 14 and zeros: which of the two it is tells the test.
use mathlib.Core.Path.{◌≡◌, refl, sym, ap, ◌∙◌}
use mathlib.Core.Bool.{Bool, true, false, cond, true≢false}
use mathlib.Core.List.{List, []}
use Prim.Native.Nat.{ℕ}
use denote.Ref.{Bor}
use Rattle.std.specs.Prelude.{Result, Ok, Err, MatchResult}
use Rattle.std.specs.Result.{result_unwrap_or, ResultUnwrapsOrElse}
use Rattle.refusals.specs.Numbers.{number, Answer, answer_of}
use Rattle.refusals.specs.declared.Refusal.{Refusal}
use Rattle.refusals.proofs.Unique.{refused_is_not_done}
use native.Mathlib.Omega.{arith}

module _ {A : Type 0} (zeros : A) where
  -- what is shown, or zeros
  pub or_zeros : (P : A → Type 0) → ((v : A) → P v → v ≡ zeros) → (r : Result A Refusal) (v : A) → ResultUnwrapsOrElse r P v → v ≡ (answer_of zeros r).fields
  or_zeros P none (Ok y) v is = is
  or_zeros P none (Err why) v is = none v is

module _ {A : Type 0} (zeros x : A) where
  pub shown : (b : Bool) (v : A) → answer_of zeros (Ok v) ≡ cond b (record { number = 0; fields = x }) (record { number = 14; fields = zeros }) → (b ≡ true) × (v ≡ x)
  shown true v e = (refl, ap (λ (a : Answer A). a.fields) e)
  shown false v e = absurd (omega (arith, ap (λ (a : Answer A). a.number) e))

  pub declined : (b : Bool) (why : Refusal) → answer_of zeros (Err why) ≡ cond b (record { number = 0; fields = x }) (record { number = 14; fields = zeros }) → b ≡ false
  declined true why e = absurd (refused_is_not_done why (ap (λ (a : Answer A). a.number) e))
  declined false why e = refl

  -- what is shown, taken where the test is known to hold
  pub taken : (b : Bool) → b ≡ true → (r : Result A Refusal) → answer_of zeros r ≡ cond b (record { number = 0; fields = x }) (record { number = 14; fields = zeros })
      → (P : A → Type 0) (v : A) → ResultUnwrapsOrElse r P v → v ≡ x
  taken b t (Ok y) e P v is = is ∙ (shown b y e).1
  taken b t (Err why) e P v is = absurd (true≢false (sym t ∙ declined b why e))

-- a part that is shown, or an empty one
pub part_or_empty : (at : ℕ × ℕ) (k : ℕ) (part : List ℕ) (r : Result (Bor (List ℕ)) Refusal) (d : Bor (List ℕ)) → d.now ≡ []
    → MatchResult r (λ b. (b.now ≡ part) × (b.ref_ptr ≡ at) × (k ≡ 0)) (λ why. (number why ≡ k) × (part ≡ [])) → (result_unwrap_or r d).now ≡ part
part_or_empty at k part (Ok b) d none is = is.0
part_or_empty at k part (Err why) d none is = none ∙ sym is.1
