-- Two results that one promise allows are equal.
use mathlib.Core.Path.{◌≡◌, refl, sym, ap, ◌∙◌}

-- a promise that says what `shown` of a result is allows one result, if `back` gets the result from what is shown
pub one_result : {A B : Type 0} (shown : A → B) (back : B → A) → ((a : A) → back (shown a) ≡ a) → {x : B} {a b : A} → shown a ≡ x → shown b ≡ x → a ≡ b
one_result shown back same {x} {a} {b} p q = sym (same a) ∙ ap back (p ∙ sym q) ∙ same b

-- a promise that says what the result is
pub the_result : {A : Type 0} {x a b : A} → a ≡ x → b ≡ x → a ≡ b
the_result = one_result (λ a. a) (λ a. a) (λ a. refl)
