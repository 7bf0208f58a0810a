-- The words before the entries.
use mathlib.Core.Path.{◌≡◌, refl, ap, ◌∙◌}
use mathlib.Core.Bool.{true}
use mathlib.Core.List.{List, [], ◌∷◌, ◌++◌, append-nil}
use Prim.Native.Nat.{ℕ, ◌-◌, ◌≤◌}
use native.Mathlib.Omega.{arith}
use lib.Dec.{leb}
use lib.ListN.{length, set, take, drop, drop_of_length-le, length-drop, length-set}
use borrow.Author.Tests.{eqb-true, leb-true}
use borrow.Author.Rules.{part_to_end}
use borrow.Rule.Slice.PartMut.{put_mid}
use Rattle.laws.specs.Tests.{between}
use Rattle.laws.proofs.Parts.{length_parts}
use Rattle.laws.proofs.Tests.{both, from_to}
use Rattle.queue_records.specs.Entries.{entry_of}
use Rattle.queue_records.specs.Records.{records_len, ports_of, cells_of, count_of, words_of}
use Rattle.queue_records.specs.Order.{head_in_order}
use Rattle.queue_records.specs.Making.{fresh_entries}

-- the three words are set, and what stands behind them is put there
pub put_behind : (words last : List ℕ) (x y z n : ℕ) → length words ≡ records_len n
    → let set3 = set (set (set words 0 x) 1 y) 2 z in put_mid 3 (length set3 - 3) set3 last ≡ x ∷ y ∷ z ∷ last
put_behind [] last x y z n e = absurd (omega arith)
put_behind (a ∷ []) last x y z n e = absurd (omega arith)
put_behind (a ∷ b ∷ []) last x y z n e = absurd (omega arith)
put_behind (a ∷ b ∷ d ∷ s) last x y z n e =
    let none : drop (length (x ∷ y ∷ z ∷ s) - 3) s ≡ [] = drop_of_length-le s {i = length (x ∷ y ∷ z ∷ s) - 3} (omega arith) in
    ap (λ (l : List ℕ). x ∷ y ∷ z ∷ (last ++ l)) none ∙ rw append-nil

-- new queues
module _ (m : ℕ) (words : List ℕ) (n cells : ℕ) (long : length words ≡ records_len cells) where
  abbrev head : List ℕ
  head = set (set (set words 0 n) 1 cells) 2 0

  pub behind_long : length (take (length head - 3) (drop 3 head)) ≡ cells
  behind_long = rw (part_to_end head 3, length-drop, length-set, length-set, length-set) (omega arith)

  module _ (last : List ℕ) (filled : last ≡ fresh_entries m (length (take (length head - 3) (drop 3 head)))) where
    pub fresh_words : put_mid 3 (length head - 3) head last ≡ words_of n cells [] (fresh_entries m cells)
    fresh_words = put_behind words last n cells 0 cells long ∙ rw (filled, behind_long)

    pub fresh_long : length (put_mid 3 (length head - 3) head last) ≡ length words
    fresh_long = ap length fresh_words ∙ rw (length_parts (λ k. entry_of m k 0 0 ∷ []) 1 (λ k. refl) cells) (omega arith)

pub record Head (m c : ℕ) (words : List ℕ) : Type 0 where
  pub some_port : 1 ≤ ports_of words
  pub ports : ports_of words ≤ m
  pub some_cell : 1 ≤ cells_of words
  pub cells : cells_of words ≤ c
  pub held : count_of words ≤ cells_of words
  pub long : length words ≡ records_len (cells_of words)

pub head_known : (m c : ℕ) (words : List ℕ) → head_in_order m c words ≡ true → Head m c words
unfolding head_in_order
head_known m c words e =
    let (ports, rest) = both (between 1 m (ports_of words)) _ e in
    let (cells, rest2) = both (between 1 c (cells_of words)) _ rest in
    let (held, long) = both (leb (count_of words) (cells_of words)) _ rest2 in
    record {
      some_port = (from_to 1 m (ports_of words) ports).0;
      ports = (from_to 1 m (ports_of words) ports).1;
      some_cell = (from_to 1 c (cells_of words) cells).0;
      cells = (from_to 1 c (cells_of words) cells).1;
      held = leb-true (count_of words) (cells_of words) held;
      long = eqb-true (length words) (records_len (cells_of words)) long;
    }
