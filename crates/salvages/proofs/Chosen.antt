-- Of the k below n those with p, in order: their numbers rise, none is left out, and whatever is listed of them is listed by their numbers.
use mathlib.Core.Path.{◌≡◌, refl, sym, ap, ◌∙◌}
use mathlib.Core.Bool.{Bool, true, false, cond, true≢false}
use mathlib.Core.List.{List, [], ◌∷◌, ◌++◌, append-nil}
use Prim.Native.Nat.{ℕ, zero, suc, ◌≤◌, ◌<◌}
use native.Mathlib.Omega.{arith}
use lib.ListN.{length, get_or, length-append, get_or-append}
use lib.Seq.{get_or_at}
use Rattle.laws.specs.Parts.{parts}
use Rattle.laws.specs.Steps.{steps}
use Rattle.laws.proofs.Loops.{same_steps}
use Rattle.laws.proofs.Steps.{upto}

-- the same parts, one by one
pub same_parts : (f g : ℕ → List ℕ) (n : ℕ) → ((k : ℕ) → k < n → f k ≡ g k) → parts f n ≡ parts g n
same_parts f g n e = same_steps _ _ _ n (λ k u l. ap (λ (p : List ℕ). u ++ p) (e k l))

-- each element of a list with one more behind it
snoc : (Q : ℕ → ℕ → Type 0) (l : List ℕ) (x : ℕ) → ((j : ℕ) → j < length l → Q j (get_or l j 0)) → Q (length l) x
    → (j : ℕ) → j < length (l ++ (x ∷ [])) → Q j (get_or (l ++ (x ∷ [])) j 0)
snoc Q l x before last j h =
    upto (λ i. Q i (get_or (l ++ (x ∷ [])) i 0)) (length l) (λ i o. rw (get_or-append l (x ∷ []) 0 i o) (before i o)) (rw (get_or_at l x [] 0 (length l) refl) last) j
    (omega (arith, length-append l (x ∷ [])))

module _ (p : ℕ → Bool) where
  abbrev chosen : (ℕ → List ℕ) → ℕ → List ℕ
  chosen f = parts (λ k. cond (p k) (f k) [])

  abbrev pub numbers : ℕ → List ℕ
  numbers = chosen (λ k. k ∷ [])

  -- where all have p
  pub all_chosen : (f : ℕ → List ℕ) (n : ℕ) → ((k : ℕ) → k < n → p k ≡ true) → chosen f n ≡ parts f n
  all_chosen f n e = same_parts _ _ n (λ k l. rw (e k l))

  -- l are the numbers of those below n
  pub record Numbers (n : ℕ) (l : List ℕ) : Type 0 where
    pub few : length l ≤ n
    pub below : (j : ℕ) → j < length l → get_or l j 0 < n
    pub has : (j : ℕ) → j < length l → p (get_or l j 0) ≡ true
    pub rising : (i j : ℕ) → i < j → j < length l → get_or l i 0 < get_or l j 0
    pub none_lost : (i : ℕ) → i < n → p i ≡ true → (j : ℕ) × (j < length l) × (get_or l j 0 ≡ i)

  module _ (n : ℕ) (l : List ℕ) (known : Numbers n l) where
    without : p n ≡ false → Numbers (suc n) l
    without e =
        record {
          few = omega (arith, known.few);
          below = λ j h. omega (arith, known.below j h);
          has = known.has;
          rising = known.rising;
          none_lost = upto (λ i. p i ≡ true → (j : ℕ) × (j < length l) × (get_or l j 0 ≡ i)) n known.none_lost (λ t. absurd (true≢false (sym t ∙ e)));
        }

    with : p n ≡ true → Numbers (suc n) (l ++ (n ∷ []))
    with e =
        let more = length-append l (n ∷ []) in
        record {
          few = omega (arith, known.few);
          below = snoc (λ j x. x < suc n) l n (λ j h. omega (arith, known.below j h)) (omega arith);
          has = snoc (λ j x. p x ≡ true) l n known.has e;
          rising = λ i j o h. snoc (λ j' x. (i' : ℕ) → i' < j' → get_or (l ++ (n ∷ [])) i' 0 < x) l n
              (λ j' h' i' o'. rw (get_or-append l (n ∷ []) 0 i' (omega arith)) (known.rising i' j' o' h'))
              (λ i' o'. rw (get_or-append l (n ∷ []) 0 i' o') (known.below i' o')) j h i o;
          none_lost = upto (λ i. p i ≡ true → (j : ℕ) × (j < length (l ++ (n ∷ []))) × (get_or (l ++ (n ∷ [])) j 0 ≡ i)) n
              (λ i h t. let f = known.none_lost i h t in (f.0, omega (arith, f.1, more), get_or-append l (n ∷ []) 0 f.0 f.1 ∙ f.2))
              (λ t. (length l, omega (arith, more), get_or_at l n [] 0 (length l) refl));
        }

  pub numbered : (n : ℕ) → Numbers n (numbers n)
  unfolding steps
  numbered zero =
      record {
        few = omega arith;
        below = λ j h. absurd (omega arith);
        has = λ j h. absurd (omega arith);
        rising = λ i j o h. absurd (omega arith);
        none_lost = λ i h e. absurd (omega arith);
      }
  numbered (suc n) = go (p n) refl (numbered n)
    where
      go : (b : Bool) → p n ≡ b → Numbers n (numbers n) → Numbers (suc n) (numbers n ++ cond b (n ∷ []) [])
      go true e known = with n (numbers n) known e
      go false e known = rw append-nil (without n (numbers n) known e)

  -- what is listed of those chosen is listed by their numbers
  module _ (f : ℕ → List ℕ) where
    one_more : (n : ℕ) (l : List ℕ) → parts (λ j. f (get_or l j 0)) (length l) ++ f n ≡ parts (λ j. f (get_or (l ++ (n ∷ [])) j 0)) (length (l ++ (n ∷ [])))
    unfolding steps
    one_more n l =
        let more : length (l ++ (n ∷ [])) ≡ suc (length l) = length-append l (n ∷ []) ∙ omega arith in
        let before = same_parts (λ j. f (get_or l j 0)) (λ j. f (get_or (l ++ (n ∷ [])) j 0)) (length l) (λ j h. ap f (sym (get_or-append l (n ∷ []) 0 j h))) in
        let last : f n ≡ f (get_or (l ++ (n ∷ [])) (length l) 0) = ap f (sym (get_or_at l n [] 0 (length l) refl)) in
        rw more (rw (before, last))

    pub by_number : (n : ℕ) → chosen f n ≡ parts (λ j. f (get_or (numbers n) j 0)) (length (numbers n))
    unfolding steps
    by_number zero = refl
    by_number (suc n) = go (p n) (by_number n)
      where
        go : (b : Bool) → chosen f n ≡ parts (λ j. f (get_or (numbers n) j 0)) (length (numbers n))
            → chosen f n ++ cond b (f n) [] ≡ parts (λ j. f (get_or (numbers n ++ cond b (n ∷ []) []) j 0)) (length (numbers n ++ cond b (n ∷ []) []))
        go true e = rw e (one_more n (numbers n))
        go false e = rw (append-nil, append-nil) e
