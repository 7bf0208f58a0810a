-- A ledger in lent words is the ledger that it reads as, feed by feed, and zeros are an empty one: so its figures are the history's.
use mathlib.Core.Path.{◌≡◌, refl, sym, ap, ◌∙◌}
use mathlib.Core.Logic.{⊎_elim}
use mathlib.Core.Bool.{Bool, true, false, cond}
use mathlib.Core.List.{List, [], ◌∷◌, ◌++◌, map, append_assoc, append-nil}
use Prim.Native.Nat.{ℕ, suc, ◌+◌, ◌%◌, ◌^◌, ◌≤◌, ◌<◌}
use native.Mathlib.Nat.{mod-lt, mod-eq_of_lt, lt_of_lt_of_le, lt_of_le_of_lt}
use native.Mathlib.Omega.{arith}
use lib.Bits.{bit_and, and_le_l, xor_lt}
use lib.Dec.{eqb}
use lib.ListN.{length, get_or, replicate, length-append, length-replicate, replicate-append-replicate}
use lib.Pow.{pow_pos, pow_mono}
use borrow.Author.Tests.{eqb-true, eq-eqb, lt-leb}
use Rattle.laws.specs.Sets.{tabled}
use Rattle.laws.proofs.Members.{set_row}
use Rattle.laws.proofs.Rows.{length_tabled, no_bits}
use Rattle.laws.proofs.Steps.{kept}
use Rattle.ports.specs.Tables.{within}
use Rattle.refusals.specs.Numbers.{Answer}
use Rattle.ledger.specs.Counts.{pairs}
use Rattle.ledger.specs.Events.{but, less, happened}
use Rattle.ledger.specs.Ledger.{empty, shown, number, next, feed}
use Rattle.ledger.specs.Lent.{words_len, table_start, ledger_of, words_of, lent_number, lent_feed, lent_shown}
use Rattle.ledger.specs.History.{Feed}
use Rattle.ledger.specs.Shows.{fed, counted, told, lent_fed}
use Rattle.ledger.specs.declared.book.Ledger.{Ledger}
use Rattle.ledger.proofs.CountLaws.{length_raised}
use Rattle.ledger.proofs.Feeds.{countable}
use Rattle.ledger.proofs.LentLaws.{Stands, the_part, rest_from}
use Rattle.ledger.proofs.Told.{shows}

-- ---- what is written reads back

-- tables of the size that m ports ask, and sets of m bits
pub record Formed (m : ℕ) (l : Ledger) : Type 0 where
  pub asked : length l.asked ≡ pairs m
  pub connected : length l.connected ≡ pairs m
  pub fresh : length l.fresh ≡ pairs m
  pub withdrawn : length l.withdrawn ≡ pairs m
  pub waiting : length l.waiting ≡ m
  pub small : (i : ℕ) → get_or l.waiting i 0 < 2 ^ m

cut_none : (b : ℕ) (rows : List ℕ) → ((i : ℕ) → get_or rows i 0 < b) → map (λ s. s % b) rows ≡ rows
cut_none b [] h = refl
cut_none b (row ∷ rows) h = rw (mod-eq_of_lt (h 0), cut_none b rows (λ i. h (suc i)))

module _ (m : ℕ) (l : Ledger) (f : Formed m l) where
  abbrev a : List ℕ
  a = l.asked

  abbrev c : List ℕ
  c = l.connected

  abbrev n : List ℕ
  n = l.fresh

  abbrev w : List ℕ
  w = l.withdrawn

  abbrev r : List ℕ
  r = l.waiting

  first : Stands (table_start m 0) (pairs m) (l.slots ∷ []) a (c ++ (n ++ (w ++ r))) (words_of l)
  unfolding words_of
  first = record { is = refl; start = omega arith; size = f.asked }

  second : Stands (table_start m 1) (pairs m) (l.slots ∷ a) c (n ++ (w ++ r)) (words_of l)
  unfolding words_of
  second = record { is = refl; start = omega (arith, f.asked); size = f.connected }

  third : Stands (table_start m 2) (pairs m) (l.slots ∷ (a ++ c)) n (w ++ r) (words_of l)
  unfolding words_of
  third = record {
    is = ap (λ (s : List ℕ). l.slots ∷ s) (sym (append_assoc a c _));
    start = omega (arith, length-append a c, f.asked, f.connected);
    size = f.fresh;
  }

  fourth : Stands (table_start m 3) (pairs m) (l.slots ∷ ((a ++ c) ++ n)) w r (words_of l)
  unfolding words_of
  fourth = record {
    is = third.is ∙ ap (λ (s : List ℕ). l.slots ∷ s) (sym (append_assoc (a ++ c) n _));
    start = omega (arith, length-append (a ++ c) n, third.start, f.fresh);
    size = f.withdrawn;
  }

  last : Stands (table_start m 4) m (l.slots ∷ (((a ++ c) ++ n) ++ w)) r [] (words_of l)
  unfolding words_of
  last = record {
    is = fourth.is ∙ ap (λ (s : List ℕ). l.slots ∷ s) (ap (λ (s : List ℕ). ((a ++ c) ++ n) ++ (w ++ s)) (sym (append-nil r)) ∙ sym (append_assoc ((a ++ c) ++ n) w _));
    start = omega (arith, length-append ((a ++ c) ++ n) w, fourth.start, f.withdrawn);
    size = f.waiting;
  }

  length_words : length (words_of l) ≡ words_len m
  unfolding words_of
  length_words = ap length last.is ∙ length-append (l.slots ∷ (((a ++ c) ++ n) ++ w)) (r ++ []) ∙ rw (append-nil) (omega (arith, last.start, f.waiting))

  pub reads_back : ledger_of m (words_of l) ≡ l
  unfolding ledger_of words_of
  reads_back = rw (the_part first, the_part second, the_part third, the_part fourth, rest_from last, append-nil, cut_none (2 ^ m) r f.small)

-- ---- every feed leaves a ledger of that size

rows_below : (m b : ℕ) (f : ℕ → ℕ) → 0 < b → ((k : ℕ) → f k < b) → (n i : ℕ) → get_or (tabled m f n) i 0 < b
rows_below m b f some below n i = kept _ (replicate m 0) (λ k rows. get_or rows i 0 < b) n
    (λ k rows h e. ⊎_elim (λ q. rw q e) (λ q. rw q.1 (below k)) (set_row rows k (f k) i)) (rw (no_bits m i) some)

within_below : (m n : ℕ) (rows : List ℕ) → n ≤ m → (i : ℕ) → get_or (within n rows) i 0 < 2 ^ m
unfolding within
within_below m n rows h =
    rows_below (length rows) (2 ^ m) (λ i. get_or rows i 0 % 2 ^ n) (pow_pos m) (λ k. lt_of_lt_of_le (mod-lt (get_or rows k 0) (pow_pos n)) (pow_mono h)) n

less_below : (m : ℕ) (a b : List ℕ) → ((i : ℕ) → get_or a i 0 < 2 ^ m) → (i : ℕ) → get_or (less m a b) i 0 < 2 ^ m
unfolding less
less_below m a b small = rows_below m (2 ^ m) (λ i. but (get_or a i 0) (get_or b i 0)) (pow_pos m)
    (λ k. xor_lt m (get_or a k 0) (bit_and (get_or a k 0) (get_or b k 0)) (small k) (lt_of_le_of_lt (and_le_l (get_or a k 0) (get_or b k 0)) (small k))) m

length_less : (m : ℕ) (a b : List ℕ) → length (less m a b) ≡ m
unfolding less
length_less m a b = length_tabled m _ m

formed-next : (m : ℕ) (l : Ledger) (n : ℕ) (asked connected : List ℕ) → n ≤ m → Formed m (next m l n asked connected)
unfolding next happened
formed-next m l n asked connected h = record {
  asked = length_raised m _ _;
  connected = length_raised m _ _;
  fresh = length_raised m _ _;
  withdrawn = length_raised m _ _;
  waiting = length_less m _ _;
  small = less_below m (within n asked) connected (within_below m n asked h);
}

formed-empty : (m : ℕ) → Formed m (empty m)
unfolding empty
formed-empty m = record {
  asked = length-replicate (pairs m) 0;
  connected = length-replicate (pairs m) 0;
  fresh = length-replicate (pairs m) 0;
  withdrawn = length-replicate (pairs m) 0;
  waiting = length-replicate m 0;
  small = λ i. rw (no_bits m i) (pow_pos m);
}

-- zeros are an empty ledger
pub zeros : (m : ℕ) → words_of (empty m) ≡ replicate (words_len m) 0
unfolding words_of empty
zeros m =
    let count : suc (pairs m + (pairs m + (pairs m + (pairs m + m)))) ≡ words_len m = omega arith in
    simp replicate-append-replicate (ap (λ k. replicate k 0) count)

-- ---- feed by feed

pub record Reads (m : ℕ) (words : List ℕ) (l : Ledger) : Type 0 where
  pub long : length words ≡ words_len m
  pub is : ledger_of m words ≡ l

pub lent_number_lem : (m : ℕ) (words : List ℕ) (n : ℕ) (l : Ledger) → Reads m words l → lent_number m words n ≡ number m l n
unfolding lent_number
lent_number_lem m words n l r = rw (eq-eqb _ _ r.long, r.is)

lent_feed_lem : (m : ℕ) (words : List ℕ) (l : Ledger) (n : ℕ) (asked connected : List ℕ) → Reads m words l
    → Reads m (lent_feed m words n asked connected) (feed m l n asked connected).fields
unfolding lent_feed feed
lent_feed_lem m words l n asked connected r = rw (lent_number_lem m words n l r, r.is) (go (eqb (number m l n) 0) refl)
  where
    after : Bool → Answer Ledger
    after b = cond b (record { number = 0; fields = next m l n asked connected }) (record { number = number m l n; fields = l })

    go : (b : Bool) → eqb (number m l n) 0 ≡ b → Reads m (cond b (words_of (next m l n asked connected)) words)
        (after b).fields
    go true e =
        let formed = formed-next m l n asked connected (countable m l n (eqb-true _ 0 e)).ports in
        record { long = length_words m _ formed; is = reads_back m _ formed }
    go false e = r

pub lent_reads : (m : ℕ) (feeds : List Feed) → Reads m (lent_fed m feeds) (fed m feeds)
unfolding lent_fed fed
lent_reads m [] = record { long = length-replicate (words_len m) 0; is = ap (ledger_of m) (sym (zeros m)) ∙ reads_back m (empty m) (formed-empty m) }
lent_reads m (f ∷ feeds) = lent_feed_lem m (lent_fed m feeds) (fed m feeds) f.ports f.asked f.connected (lent_reads m feeds)

-- the figures that are shown are the history's
pub lent_tells : (m : ℕ) (feeds : List Feed) (i t : ℕ) → i < m → t < m → lent_shown m (lent_fed m feeds) i t ≡ record { number = 0; fields = told (counted m feeds) i t }
unfolding lent_shown shown
lent_tells m feeds i t i< t< =
    rw (eq-eqb _ _ (lent_reads m feeds).long, (lent_reads m feeds).is, lt-leb m i i<, lt-leb m t t<, (shows m feeds).figures i t i< t<)
