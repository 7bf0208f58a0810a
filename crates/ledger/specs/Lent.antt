-- The ledger in lent words, on shelves of at most m ports: the slots counted, the four tables of counts, and the sets that wait.
use Rattle.std.specs.Prelude.{ℕ, ◌+◌, ◌*◌, ◌%◌, ◌^◌, cond, List, ◌∷◌, ◌++◌, map, eqb, length, get_or, take, drop}
use Rattle.refusals.specs.Numbers.{Answer}
use Rattle.ledger.specs.Counts.{pairs}
use Rattle.ledger.specs.Ledger.{hidden, shown, number, next}
use Rattle.ledger.specs.declared.book.Ledger.{Ledger}
use Rattle.ledger.specs.declared.book.Figures.{Figures}

-- how many words there are, and where table j starts; the sets stand after table 3
abbrev pub words_len : ℕ → ℕ
words_len m = 1 + 4 * pairs m + m

abbrev pub table_start : ℕ → ℕ → ℕ
table_start m j = 1 + j * pairs m

-- bits at or above m of a set are ignored
unfoldable pub ledger_of : ℕ → List ℕ → Ledger
ledger_of m words =
    let table : ℕ → List ℕ = λ j. take (pairs m) (drop (table_start m j) words) in
    record {
      slots = get_or words 0 0;
      asked = table 0;
      connected = table 1;
      fresh = table 2;
      withdrawn = table 3;
      waiting = map (λ s. s % 2 ^ m) (drop (table_start m 4) words);
    }

unfoldable pub words_of : Ledger → List ℕ
words_of l = l.slots ∷ (l.asked ++ (l.connected ++ (l.fresh ++ (l.withdrawn ++ l.waiting))))

-- the feed: number 8 for another count of words before the others; words that decline stay as they were
unfoldable pub lent_number : ℕ → List ℕ → ℕ → ℕ
lent_number m words n = cond (eqb (length words) (words_len m)) (number m (ledger_of m words) n) 8

unfoldable pub lent_feed : ℕ → List ℕ → ℕ → List ℕ → List ℕ → List ℕ
lent_feed m words n asked connected =
    cond (eqb (lent_number m words n) 0) (words_of (next m (ledger_of m words) n asked connected)) words

-- the figures of a pair
unfoldable pub lent_shown : ℕ → List ℕ → ℕ → ℕ → Answer Figures
lent_shown m words i t = cond (eqb (length words) (words_len m)) (shown m (ledger_of m words) i t) (hidden 8)
