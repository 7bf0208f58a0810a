-- The ledger in lent words: parts that stand one after the other, and what the words come to.
use mathlib.Core.Path.{◌≡◌, refl, sym, ap, ◌∙◌}
use mathlib.Core.Bool.{Bool, ◌&&◌, ◌||◌, cond}
use mathlib.Core.List.{List, [], ◌∷◌, ◌++◌, map, append_assoc, append-nil}
use Prim.Native.Nat.{ℕ, ◌+◌, ◌*◌, ◌%◌, ◌^◌, ◌≤◌, ◌<◌}
use native.Mathlib.Omega.{arith}
use lib.Dec.{ltb}
use lib.ListN.{length, get_or, set, take, drop, length-append, length-drop, length-map, take-append-drop}
use lib.Seq.{ext_get_or, get_or-take, get_or-drop, take_at, drop_at, drop-drop, set_split, length-take-le}
use borrow.Rule.Slice.PartMut.{mid_of, put_mid}
use Rattle.laws.specs.Sets.{has, tabled}
use Rattle.laws.proofs.Rows.{row_map, length_tabled, row-tabled}
use borrow.Author.Tests.{eq-eqb, ne_eqb}
use Rattle.std.specs.Prelude.{Result, Ok, Err}
use Rattle.refusals.specs.Numbers.{number_of}
use Rattle.refusals.specs.declared.Refusal.{Refusal}
use Rattle.refusals.specs.declared.Refusal.TheVariants.{BadLen}
use Rattle.refusals.proofs.Unique.{refused_is_not_done}
use Rattle.ledger.specs.Counts.{pairs, pair, raised, above, Room}
use Rattle.ledger.specs.Events.{happened}
use Rattle.ledger.specs.Ledger.{figures_of, over, number, next}
use Rattle.ledger.specs.Lent.{words_len, table_start, ledger_of, words_of, lent_number, lent_feed}
use Rattle.ledger.specs.declared.book.Figures.{Figures}
use Rattle.ledger.specs.declared.events.Events.{Events}
use Rattle.ledger.proofs.CountLaws.{pair_range, length_raised}
use Rattle.ledger.proofs.OverLaws.{some_in, over-tables, four-above}

-- ---- a part at its place

-- part stands in words after `pre`, of which there are `at`, and before `post`
pub record Stands (at k : ℕ) (pre part post words : List ℕ) : Type 0 where
  pub is : words ≡ pre ++ (part ++ post)
  pub start : length pre ≡ at
  pub size : length part ≡ k

module _ {at k : ℕ} {pre part post words : List ℕ} (s : Stands at k pre part post words) where
  pub rest_from : drop at words ≡ part ++ post
  rest_from = rw (s.is, drop_at pre (part ++ post) at s.start)

  pub the_part : take k (drop at words) ≡ part
  the_part = rw (s.is, drop_at pre (part ++ post) at s.start, take_at part post k s.size)

  -- with something else in its place
  exchanged : (new : List ℕ) → take at words ++ (new ++ drop k (drop at words)) ≡ pre ++ (new ++ post)
  exchanged new = rw (s.is, take_at pre (part ++ post) at s.start, drop_at pre (part ++ post) at s.start, drop_at part post k s.size)

-- ---- the parts of the words

abbrev table_of : ℕ → List ℕ → ℕ → List ℕ
table_of m words j = take (pairs m) (drop (table_start m j) words)

abbrev sets_of : ℕ → List ℕ → List ℕ
sets_of m words = drop (table_start m 4) words

module _ (m : ℕ) (words : List ℕ) (long : length words ≡ words_len m) where
  cut : (a b : ℕ) → a + pairs m ≡ b → drop a words ≡ take (pairs m) (drop a words) ++ drop b words
  cut a b e = sym (take-append-drop (pairs m) (drop a words))
      ∙ ap (λ (l : List ℕ). take (pairs m) (drop a words) ++ l) (drop-drop (pairs m) a words ∙ ap (λ z. drop z words) e)

  rest_is : drop 1 words ≡ table_of m words 0 ++ (table_of m words 1 ++ (table_of m words 2 ++ (table_of m words 3 ++ sets_of m words)))
  rest_is =
      let start : 1 ≡ table_start m 0 = omega arith in
      ap (λ z. drop z words) start ∙ cut (table_start m 0) (table_start m 1) (omega arith)
      ∙ ap (λ (l : List ℕ). table_of m words 0 ++ l) (cut (table_start m 1) (table_start m 2) (omega arith)
      ∙ ap (λ (l : List ℕ). table_of m words 1 ++ l) (cut (table_start m 2) (table_start m 3) (omega arith)
      ∙ ap (λ (l : List ℕ). table_of m words 2 ++ l) (cut (table_start m 3) (table_start m 4) (omega arith))))

  pub table_size : (j : ℕ) → table_start m j + pairs m ≤ words_len m → length (table_of m words j) ≡ pairs m
  table_size j h = length-take-le (pairs m) (drop (table_start m j) words) (omega (arith, length-drop (table_start m j) words))

  sets_size : length (sets_of m words) ≡ m
  sets_size = length-drop (table_start m 4) words ∙ omega arith

  -- the sets, made one by one
  pub sets_read : tabled m (λ i. get_or words (table_start m 4 + i) 0 % 2 ^ m) m ≡ map (λ s. s % 2 ^ m) (sets_of m words)
  sets_read = ext_get_or 0 _ _ (length_tabled m _ m ∙ sym (length-map (sets_of m words) _ ∙ sets_size)) same
    where
      same : (i : ℕ) → i < length (tabled m (λ i. get_or words (table_start m 4 + i) 0 % 2 ^ m) m)
          → get_or (tabled m (λ i. get_or words (table_start m 4 + i) 0 % 2 ^ m) m) i 0 ≡ get_or (map (λ s. s % 2 ^ m) (sets_of m words)) i 0
      same i l =
          let small : i < m = omega (arith, length_tabled m (λ i. get_or words (table_start m 4 + i) 0 % 2 ^ m) m) in
          row-tabled m _ m i small small ∙ ap (λ s. s % 2 ^ m) (sym (get_or-drop (table_start m 4) words i 0))
          ∙ sym (row_map (λ s. s % 2 ^ m) (sets_of m words) i (omega (arith, sets_size)))

-- ---- one slot more

-- a table at its place is raised, and what follows stands behind it
module _ (m : ℕ) {at : ℕ} {pre part post words : List ℕ} (s : Stands at (pairs m) pre part post words) where
  pub ready : Room m part → (length (mid_of at (pairs m) words) ≡ pairs m) × Room m (mid_of at (pairs m) words)
  ready room = rw (the_part s) (s.size, room)

  table_after : (rows : List ℕ) {new next rest : List ℕ} → new ≡ raised m rows (mid_of at (pairs m) words) → post ≡ next ++ rest → {k : ℕ} → length next ≡ k
      → Stands (at + pairs m) k (pre ++ raised m rows part) next rest (put_mid at (pairs m) words new)
  table_after rows e is size = record {
    is = ap (put_mid at (pairs m) words) (e ∙ ap (raised m rows) (the_part s)) ∙ exchanged s (raised m rows part) ∙ ap (λ (l : List ℕ). pre ++ (raised m rows part ++ l)) is ∙ sym (append_assoc pre _ _);
    start = length-append pre (raised m rows part) ∙ rw (s.start, length_raised);
    size = size;
  }

regrouped : (a c f w r : List ℕ) → (((a ++ c) ++ f) ++ w) ++ (r ++ []) ≡ a ++ (c ++ (f ++ (w ++ r)))
regrouped a c f w r = simp (append_assoc, append-nil)

-- the first word, then each table behind those that are raised, and the sets at the end
module _ (m : ℕ) (words : List ℕ) (long : length words ≡ words_len m) (slot : Events) where
  abbrev x : ℕ
  x = get_or words 0 0 + 1

  abbrev table : ℕ → List ℕ
  table = table_of m words

  abbrev sets : List ℕ
  sets = sets_of m words

  abbrev first : List ℕ
  first = set words 0 x

  pub first_table : Stands 1 (pairs m) (x ∷ []) (table 0) (table 1 ++ (table 2 ++ (table 3 ++ sets))) (set words 0 x)
  first_table = record {
    is = set_split words 0 x (omega arith) ∙ ap (λ (l : List ℕ). x ∷ l) (rest_is m words long);
    start = refl;
    size = table_size m words long 0 (omega arith);
  }

  module _ {a : List ℕ} (e : a ≡ raised m slot.asked (mid_of 1 (pairs m) first)) where
    abbrev asked : List ℕ
    asked = x ∷ raised m slot.asked (table 0)

    abbrev second : List ℕ
    second = put_mid 1 (pairs m) first a

    pub second_table : Stands (1 + pairs m) (pairs m) asked (table 1) (table 2 ++ (table 3 ++ sets)) second
    second_table = table_after m first_table slot.asked e refl (table_size m words long 1 (omega arith))

    module _ {c : List ℕ} (f : c ≡ raised m slot.connected (mid_of (1 + pairs m) (pairs m) second)) where
      abbrev connected : List ℕ
      connected = asked ++ raised m slot.connected (table 1)

      abbrev third : List ℕ
      third = put_mid (1 + pairs m) (pairs m) second c

      pub third_table : Stands (1 + pairs m + pairs m) (pairs m) connected (table 2) (table 3 ++ sets) third
      third_table = table_after m second_table slot.connected f refl (table_size m words long 2 (omega arith))

      module _ {n : List ℕ} (g : n ≡ raised m slot.fresh (mid_of (1 + pairs m + pairs m) (pairs m) third)) where
        abbrev fresh : List ℕ
        fresh = connected ++ raised m slot.fresh (table 2)

        abbrev fourth : List ℕ
        fourth = put_mid (1 + pairs m + pairs m) (pairs m) third n

        pub fourth_table : Stands (1 + pairs m + pairs m + pairs m) (pairs m) fresh (table 3) sets fourth
        fourth_table = table_after m third_table slot.fresh g refl (table_size m words long 3 (omega arith))

        module _ {w : List ℕ} (h : w ≡ raised m slot.withdrawn (mid_of (1 + pairs m + pairs m + pairs m) (pairs m) fourth)) where
          abbrev last : List ℕ
          last = put_mid (1 + pairs m + pairs m + pairs m) (pairs m) fourth w

          the_sets : Stands (1 + pairs m + pairs m + pairs m + pairs m) m (fresh ++ raised m slot.withdrawn (table 3)) sets [] last
          the_sets = table_after m fourth_table slot.withdrawn h (sym (append-nil sets)) (sets_size m words long)

          pub counted_words : (k : ℕ) (asks connects : List ℕ) {waits : List ℕ} → slot ≡ happened m k (ledger_of m words).waiting asks connects → waits ≡ slot.waiting
              → put_mid (1 + pairs m + pairs m + pairs m + pairs m) m last waits ≡ words_of (next m (ledger_of m words) k asks connects)
          unfolding words_of next ledger_of
          counted_words k asks connects {waits} is is_waits = exchanged the_sets waits
              ∙ ap (λ (l : List ℕ). x ∷ l) (regrouped (raised m slot.asked (table 0)) (raised m slot.connected (table 1)) (raised m slot.fresh (table 2)) (raised m slot.withdrawn (table 3)) waits)
              ∙ rw (is_waits, is)

-- ---- the feed, by a result

module _ (m : ℕ) (words : List ℕ) (n : ℕ) (asked connected : List ℕ) where
  abbrev Ends : Result (Unit {0}) Refusal → List ℕ → Type 0
  Ends result left = (number_of result ≡ lent_number m words n) × (left ≡ lent_feed m words n asked connected)

  pub lent_unfit : (length words ≡ words_len m → ⊥) → Ends (Err BadLen) words
  unfolding lent_number lent_feed
  lent_unfit other = rw (ne_eqb _ _ other) (refl, refl)

  module _ (long : length words ≡ words_len m) where
    pub lent_declines : (e : Refusal) (left : List ℕ) → left ≡ words → number_of {A = Unit {0}} (Err e) ≡ number m (ledger_of m words) n → Ends (Err e) left
    unfolding lent_number lent_feed
    lent_declines e left same is = rw (eq-eqb _ _ long, ← is, ne_eqb _ 0 (refused_is_not_done e)) (refl, same)

    pub lent_counts : (left : List ℕ) → number m (ledger_of m words) n ≡ 0 → left ≡ words_of (next m (ledger_of m words) n asked connected) → Ends (Ok tt) left
    unfolding lent_number lent_feed
    lent_counts left z is = rw (eq-eqb _ _ long, z) (refl, is)

-- the figures above the slots counted, in the words
pub lent_over : (m : ℕ) (words : List ℕ) {waiting part : List ℕ} {a e : Bool} → part ≡ take (4 * pairs m) (drop 1 words) → length part ≡ 4 * pairs m
    → waiting ≡ (ledger_of m words).waiting → ((i : ℕ) → get_or waiting i 0 < 2 ^ m) → a ≡ above part (get_or words 0 0) (length part) → e ≡ some_in m waiting
    → (a || (ltb (get_or words 0 0) 1 && e)) ≡ over m (ledger_of m words)
unfolding ledger_of
lent_over m words is long same small above-is any-is =
    rw (above-is, any-is, long, is, same, four-above (pairs m) (get_or words 0 0) words) (sym (over-tables m (ledger_of m words) (rw same at small)))

-- the figures of a pair, in the words
module _ (m : ℕ) (words : List ℕ) (long : length words ≡ words_len m) (i t : ℕ) (i< : i < m) (t< : t < m) where
  count_of : (j : ℕ) → get_or (table_of m words j) (pair m i t) 0 ≡ get_or words (table_start m j + pair m i t) 0
  count_of j = get_or-take (pairs m) (drop (table_start m j) words) (pair m i t) 0 (pair_range m i t t< i<) ∙ get_or-drop (table_start m j) words (pair m i t) 0

  set_of : get_or (map (λ s. s % 2 ^ m) (sets_of m words)) i 0 ≡ get_or words (table_start m 4 + i) 0 % 2 ^ m
  set_of = row_map (λ s. s % 2 ^ m) (sets_of m words) i (omega (arith, sets_size m words long)) ∙ ap (λ s. s % 2 ^ m) (get_or-drop (table_start m 4) words i 0)

  pub lent_figures : {row o : ℕ} → row ≡ get_or words (table_start m 4 + i) 0 % 2 ^ m → o ≡ cond (has row t) 1 0 → ◌≡◌ {A = Figures} (record {
    asked = get_or words (table_start m 0 + pair m i t) 0;
    connected = get_or words (table_start m 1 + pair m i t) 0;
    fresh = get_or words (table_start m 2 + pair m i t) 0;
    withdrawn = get_or words (table_start m 3 + pair m i t) 0;
    isopen = o;
  }) (figures_of m (ledger_of m words) i t)
  unfolding figures_of ledger_of
  lent_figures is_row is_open = rw (count_of 0, count_of 1, count_of 2, count_of 3, set_of, is_open, is_row)
