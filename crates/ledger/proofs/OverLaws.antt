-- A figure is above the slots counted: what the code tests, table by table, is what the ledger shows, pair by pair.
use mathlib.Core.Path.{◌≡◌, refl, sym, ap, ap₂, ◌∙◌}
use mathlib.Core.Logic.{⊎_elim}
use mathlib.Core.Bool.{Bool, true, false, not, ◌&&◌, ◌||◌, cond, or-true, true≢false}
use mathlib.Core.List.{List}
use Prim.Native.Nat.{ℕ, ◌+◌, ◌-◌, ◌*◌, ◌/◌, ◌%◌, ◌^◌, ◌≤◌, ◌<◌}
use native.Mathlib.Decide.{dec_lt}
use native.Mathlib.Nat.{mod-lt, div-lt_iff_lt-mul, div-add-mod'}
use native.Mathlib.Omega.{arith}
use lib.Count.{count_trailing_zeros}
use lib.Dec.{eqb, ltb}
use lib.ListN.{get_or, take, drop}
use lib.Seq.{get_or-take, get_or-drop}
use borrow.Author.Tests.{ltb-true, ltb-false, eq-eqb, ne_eqb, eqb-false, not-true}
use Rattle.laws.specs.Steps.{some}
use Rattle.laws.specs.Sets.{has, asks}
use Rattle.laws.proofs.Tests.{both, every, either, refuted, same}
use Rattle.laws.proofs.Steps.{some_true, true_some}
use Rattle.laws.proofs.Loops.{same_steps}
use Rattle.laws.proofs.Members.{has_none}
use Rattle.laws.proofs.Words.{first_digit, trailing_below}
use Rattle.ledger.specs.Counts.{pairs, pair, above}
use Rattle.ledger.specs.Ledger.{figures_of, high, over}
use Rattle.ledger.specs.declared.book.Ledger.{Ledger}
use Rattle.ledger.proofs.CountLaws.{pair_range}

-- one of five
pub any_of : {P : Type 0} (a b c d e : Bool) → (a ≡ true → P) → (b ≡ true → P) → (c ≡ true → P) → (d ≡ true → P) → (e ≡ true → P)
    → a || b || c || d || e ≡ true → P
any_of a b c d e pa pb pc pd pe = λ h.
    ⊎_elim (λ h. ⊎_elim (λ h. ⊎_elim (λ h. ⊎_elim pa pb (either a b h)) pc (either (a || b) c h)) pd (either (a || b || c) d h)) pe (either (a || b || c || d) e h)

-- a row is not empty; and one of m rows is not
abbrev pub filled : List ℕ → ℕ → Bool
filled rows i = not (eqb (get_or rows i 0) 0)

abbrev pub some_in : ℕ → List ℕ → Bool
some_in m rows = some (filled rows) m

module _ (m : ℕ) (l : Ledger) where
  abbrev x : ℕ
  x = l.slots

  abbrev counted : Bool
  counted = above l.asked x (pairs m) || above l.connected x (pairs m) || above l.fresh x (pairs m) || above l.withdrawn x (pairs m)

  abbrev is_above : List ℕ → ℕ → Bool
  is_above counts k = ltb x (get_or counts k 0)

  abbrev is_high : ℕ → ℕ → Bool
  is_high i t = high x (figures_of m l i t)

  one_above : (counts : List ℕ) (i t : ℕ) → i < m → t < m → ltb x (get_or counts (pair m i t) 0) ≡ true → above counts x (pairs m) ≡ true
  one_above counts i t l g e = true_some (is_above counts) (pairs m) (pair m i t) (pair_range m i t g l) e

  one_open : (i t : ℕ) → i < m → ltb x (cond (asks l.waiting i t) 1 0) ≡ true → (ltb x 1 && some_in m l.waiting) ≡ true
  one_open i t h = go (asks l.waiting i t) refl
    where
      go : (b : Bool) → asks l.waiting i t ≡ b → ltb x (cond b 1 0) ≡ true → (ltb x 1 && some_in m l.waiting) ≡ true
      go true q e = every e (true_some (filled l.waiting) m i h (rw (ne_eqb (get_or l.waiting i 0) 0 (λ z. true≢false (sym q ∙ ap (λ s. has s t) z ∙ has_none t)))))
      go false q e = absurd (omega (arith, ltb-true x 0 e))

  to : over m l ≡ true → (counted || (ltb x 1 && some_in m l.waiting)) ≡ true
  unfolding over high figures_of
  to e =
      let (i, h, f) = some_true (λ i. some (is_high i) m) m e in
      let (t, g, p) = some_true (is_high i) m f in
      any_of _ _ _ _ _ (λ q. rw (one_above l.asked i t h g q)) (λ q. rw (one_above l.connected i t h g q, or-true))
      (λ q. rw (one_above l.fresh i t h g q, or-true)) (λ q. rw (one_above l.withdrawn i t h g q, or-true))
      (λ q. rw (one_open i t h q, or-true)) p

  -- a count that is above x is a figure of its pair
  of_pair : (counts : List ℕ) → above counts x (pairs m) ≡ true
      → ((i t : ℕ) → ltb x (get_or counts (pair m i t) 0) ≡ true → high x (figures_of m l i t) ≡ true) → over m l ≡ true
  unfolding over
  of_pair counts e shows =
      let (k, h, q) = some_true (is_above counts) (pairs m) e in
      let some_port : 0 < m = positive k h in
      true_some (λ i. some (is_high i) m) m (k / m) ((div-lt_iff_lt-mul some_port).1 h)
      (true_some (is_high (k / m)) m (k % m) (mod-lt k some_port) (shows (k / m) (k % m) (rw (div-add-mod' k m) q)))
    where
      positive : (k : ℕ) → k < pairs m → 0 < m
      positive k h = go (dec_lt 0 m)
        where
          go : Dec (0 < m) → 0 < m
          go (yes p) = p
          go (no p) = let z : m ≡ 0 = omega arith in absurd (omega (arith, rw z at h))

  -- so with nothing above x, no count is
  within_slots : over m l ≡ false → (counts : List ℕ) → ((i t : ℕ) → ltb x (get_or counts (pair m i t) 0) ≡ true → high x (figures_of m l i t) ≡ true)
      → (k : ℕ) → k < pairs m → get_or counts k 0 ≤ x
  within_slots none counts shows k h = ltb-false x (get_or counts k 0) (refuted _ (λ e. true≢false (sym (of_pair counts (true_some (is_above counts) (pairs m) k h e) shows) ∙ none)))

  pub record Within : Type 0 where
    pub asked : (k : ℕ) → k < pairs m → get_or l.asked k 0 ≤ l.slots
    pub connected : (k : ℕ) → k < pairs m → get_or l.connected k 0 ≤ l.slots
    pub fresh : (k : ℕ) → k < pairs m → get_or l.fresh k 0 ≤ l.slots
    pub withdrawn : (k : ℕ) → k < pairs m → get_or l.withdrawn k 0 ≤ l.slots

  pub none_over : over m l ≡ false → Within
  unfolding high figures_of
  none_over none = record {
    asked = within_slots none l.asked (λ i t q. rw q);
    connected = within_slots none l.connected (λ i t q. rw (q, or-true));
    fresh = within_slots none l.fresh (λ i t q. rw (q, or-true));
    withdrawn = within_slots none l.withdrawn (λ i t q. rw (q, or-true));
  }

  module _ (small : (i : ℕ) → get_or l.waiting i 0 < 2 ^ m) where
    of_open : (ltb x 1 && some_in m l.waiting) ≡ true → ((i t : ℕ) → ltb x (cond (asks l.waiting i t) 1 0) ≡ true → high x (figures_of m l i t) ≡ true) → over m l ≡ true
    unfolding over
    of_open e shows =
        let (z, f) = both (ltb x 1) _ e in
        let (i, h, q) = some_true (filled l.waiting) m f in
        let row : ℕ = get_or l.waiting i 0 in
        let none : row ≡ 0 → ⊥ = eqb-false row 0 (not-true (eqb row 0) q) in
        let first : asks l.waiting i (count_trailing_zeros m row) ≡ true = eq-eqb _ 1 (first_digit m row none (small i)).0 in
        true_some (λ i. some (is_high i) m) m i h (true_some (is_high i) m (count_trailing_zeros m row) (trailing_below m row (omega arith) (small i)) (shows i (count_trailing_zeros m row) (rw first z)))

    from : (counted || (ltb x 1 && some_in m l.waiting)) ≡ true → over m l ≡ true
    unfolding high figures_of
    from = any_of _ _ _ _ _ (λ e. of_pair l.asked e (λ i t q. rw q)) (λ e. of_pair l.connected e (λ i t q. rw (q, or-true)))
        (λ e. of_pair l.fresh e (λ i t q. rw (q, or-true))) (λ e. of_pair l.withdrawn e (λ i t q. rw (q, or-true)))
        (λ e. of_open e (λ i t q. rw (q, or-true)))

    pub over-tables : over m l ≡ (counted || (ltb x 1 && some_in m l.waiting))
    over-tables = same _ _ to from

    -- what the code finds
    pub tests_over : {a b c d e : Bool} → a ≡ above l.asked x (pairs m) → b ≡ above l.connected x (pairs m) → c ≡ above l.fresh x (pairs m)
        → d ≡ above l.withdrawn x (pairs m) → e ≡ some_in m l.waiting → (a || b || c || d || (ltb x 1 && e)) ≡ over m l
    tests_over pa pc pf pw pe = rw (pa, pc, pf, pw, pe) (sym over-tables)

-- ---- four tables in one

some_append : (p : ℕ → Bool) (a b : ℕ) → some p (a + b) ≡ (some p a || some (λ k. p (a + k)) b)
some_append p a b = same _ _ to from
  where
    to : some p (a + b) ≡ true → (some p a || some (λ k. p (a + k)) b) ≡ true
    to e = let (k, h, q) = some_true p (a + b) e in go k h q (dec_lt k a)
      where
        go : (k : ℕ) → k < a + b → p k ≡ true → Dec (k < a) → (some p a || some (λ k. p (a + k)) b) ≡ true
        go k h q (yes l) = rw (true_some p a k l q)
        go k h q (no l) =
            let is : a + (k - a) ≡ k = omega arith in
            rw (true_some (λ k. p (a + k)) b (k - a) (omega arith) (rw is q), or-true)

    from : (some p a || some (λ k. p (a + k)) b) ≡ true → some p (a + b) ≡ true
    from e = ⊎_elim
        (λ f. let (k, h, q) = some_true p a f in true_some p (a + b) k (omega arith) q)
        (λ f. let (k, h, q) = some_true (λ k. p (a + k)) b f in true_some p (a + b) (a + k) (omega arith) q)
        (either (some p a) _ e)

pub four-above : (p x : ℕ) (words : List ℕ) → above (take (4 * p) (drop 1 words)) x (4 * p)
    ≡ (above (take p (drop (1 + 0 * p) words)) x p || above (take p (drop (1 + 1 * p) words)) x p
    || above (take p (drop (1 + 2 * p) words)) x p || above (take p (drop (1 + 3 * p) words)) x p)
four-above p x words =
    let four : 4 * p ≡ p + p + p + p = omega arith in
    ap (some is) four ∙ some_append is (p + p + p) p ∙ rw (some_append is (p + p) p, some_append is p p)
    (ap₂ ◌||◌ (ap₂ ◌||◌ (ap₂ ◌||◌
    (table (1 + 0 * p) (λ k. k) (λ k h. (omega arith, omega arith)))
    (table (1 + 1 * p) (λ k. p + k) (λ k h. (omega arith, omega arith))))
    (table (1 + 2 * p) (λ k. p + p + k) (λ k h. (omega arith, omega arith))))
    (table (1 + 3 * p) (λ k. p + p + p + k) (λ k h. (omega arith, omega arith))))
  where
    is : ℕ → Bool
    is k = ltb x (get_or (take (4 * p) (drop 1 words)) k 0)

    table : (start : ℕ) (at : ℕ → ℕ) → ((k : ℕ) → k < p → (at k < 4 * p) × (1 + at k ≡ start + k))
        → some (λ k. is (at k)) p ≡ above (take p (drop start words)) x p
    table start at place = same_steps _ _ false p (λ k found h.
        let (below, same_place) = place k h in
        rw (get_or-take (4 * p) (drop 1 words) (at k) 0 below, get_or-drop 1 words (at k) 0, same_place, get_or-take p (drop start words) k 0 h, get_or-drop start words k 0))
