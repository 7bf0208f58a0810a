-- The records of a capture, as its pieces of one size yield them.
use Rattle.std.proofs.Common.{◌≡◌, ℕ, suc, ◌+◌, ◌-◌, ◌*◌, ◌/◌, ◌<◌, ◌≤◌, List, ◌++◌, length, take, drop, sym, ap, ◌∙◌, le_of_eq, arith, zero-mul, suc-mul, length-append, length-drop, drop-drop, take_at, drop_at}
use Rattle.std.proofs.Math.Nat.{le-div_iff_mul-le}
use lib.Seq.{take_all}
use Rattle.captures.specs.Capture.{header_len, record_len, record_at, records_of}

some_record : (n : ℕ) → 0 < record_len n
unfolding record_len
some_record n = omega arith

-- what is left, in pieces of this size, behind i records
pub record Left (n : ℕ) (s : List ℕ) (size : ℕ) (rest : List ℕ) (i : ℕ) : Type 0 where
  pub is : size ≡ record_len n
  pub left : rest ≡ drop (header_len + i * record_len n) s
  pub within : header_len + i * record_len n ≤ length s

module _ (n : ℕ) (s : List ℕ) where
  abbrev w : ℕ
  w = record_len n

  pub left_all : (size : ℕ) (rest : List ℕ) → size ≡ w → rest ≡ take (length s - 24) (drop 24 s) → header_len ≤ length s → Left n s size rest 0
  left_all size rest e is long = record {
    is = e;
    left = rw (zero-mul (record_len n)) (is ∙ take_all (length s - 24) (drop 24 s) (le_of_eq (length-drop 24 s)));
    within = rw (zero-mul (record_len n)) long;
  }

  module _ (size size' i : ℕ) (rest rest' x : List ℕ) (l : Left n s size rest i) (same : size' ≡ size) (first : rest ≡ x ++ rest') (long : length x ≡ size) where
    abbrev at : ℕ
    at = header_len + i * w

    pub record_is : x ≡ record_at n s i
    unfolding record_at
    record_is = sym (take_at x rest' w (long ∙ l.is)) ∙ ap (take w) (sym first ∙ l.left)

    inside : at + w ≤ length s
    inside =
        let all : length s - at ≡ length x + length rest' = sym (length-drop at s) ∙ ap length (sym l.left ∙ first) ∙ length-append x rest' in
        let width = long ∙ l.is in
        omega (arith, l.within)

    next : at + w ≡ header_len + suc i * w
    next = omega (arith, suc-mul i w)

    pub left_next : Left n s size' rest' (suc i)
    left_next = record {
      is = same ∙ l.is;
      left = sym (drop_at x rest' w (long ∙ l.is)) ∙ ap (drop w) (sym first ∙ l.left) ∙ drop-drop w at s ∙ ap (λ (z : ℕ). drop z s) next;
      within = omega (arith, inside, next);
    }

    pub one_of : suc i ≤ records_of n s
    unfolding records_of
    one_of = (le-div_iff_mul-le (some_record n)).1 (omega (arith, inside, next))

  pub left_none : (size i : ℕ) (rest : List ℕ) → Left n s size rest i → length rest < size → i ≡ records_of n s
  unfolding records_of
  left_none size i rest l few =
      let least : i ≤ (length s - header_len) / w = (le-div_iff_mul-le (some_record n)).1 (omega (arith, l.within)) in
      let is : length rest ≡ length s - (header_len + i * w) = ap length l.left ∙ length-drop (header_len + i * w) s in
      let short : length s - (header_len + i * w) < w = rw (is, l.is) at few in
      let not-more : suc i ≤ (length s - header_len) / w → ⊥ = λ more. omega (arith, suc-mul i w, (le-div_iff_mul-le (some_record n)).0 more) in
      omega (arith, least, not-more)
