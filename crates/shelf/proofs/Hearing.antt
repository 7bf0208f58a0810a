-- One host more is heard, or is not: what the rows and the set of heard hosts come to.
use mathlib.Core.Path.{◌≡◌, refl, sym, ap, ◌∙◌}
use mathlib.Core.Bool.{Bool, true, false}
use mathlib.Core.List.{List}
use Prim.Native.Nat.{ℕ, zero, suc, ◌+◌, ◌*◌, ◌%◌, ◌^◌, ◌≤◌, ◌<◌}
use native.Mathlib.Omega.{arith}
use native.Mathlib.Numerals.{add-one}
use Rattle.std.specs.Prelude.{Result, Ok, Err}
use lib.Bits.{bit_or}
use lib.Dec.{eqb}
use lib.ListN.{get_or, set, replicate}
use lib.Seq.{get_or-set_other, set-get_or}
use Rattle.laws.specs.Steps.{steps}
use Rattle.laws.specs.Sets.{gathered, tabled}
use Rattle.laws.proofs.Rows.{next_row, no_bits}
use Rattle.laws.proofs.Words.{or_puts}
use Rattle.refusals.specs.Numbers.{Answer, answer_of}
use Rattle.refusals.specs.declared.Refusal.{Refusal}
use Rattle.refusals.proofs.Unique.{not_done}
use Rattle.frames.specs.Config.{no_config}
use Rattle.frames.specs.declared.config.Config.{Config}
use Rattle.shelf.specs.Hosts.{said, is_heard, field_of, hosts_of}

-- an answer that is no frame: a number, and zero fields
unheard : (r : Result Config Refusal) → ((c : Config) → r ≡ Ok c → ⊥) → (eqb (answer_of no_config r).number 0 ≡ false) × ((answer_of no_config r).fields ≡ no_config)
unheard (Ok c) e = absurd (e c refl)
unheard (Err why) e = (not_done why, refl)

module _ (m : ℕ) (f : ℕ → ℕ) where
  blank : (h k : ℕ) → h ≤ k → get_or (tabled m f h) k 0 ≡ 0
  unfolding steps
  blank zero k l = no_bits m k
  blank (suc h) k l = get_or-set_other (tabled m f h) h k (f h) 0 (λ e. omega arith) ∙ blank h k (omega arith)

  row_skipped : (h : ℕ) (rows : List ℕ) → rows ≡ tabled m f h → f h ≡ 0 → rows ≡ tabled m f (h + 1)
  row_skipped h rows are e = sym (set-get_or rows h 0) ∙ next_row m f h are (ap (λ (l : List ℕ). get_or l h 0) are ∙ blank h h (omega arith) ∙ sym e)

module _ (p : ℕ → Bool) where
  one_gathered : (w h s : ℕ) → h < w → s ≡ gathered p h → p h ≡ true → bit_or s ((1 * 2 ^ h) % 2 ^ w) ≡ gathered p (h + 1)
  unfolding steps
  one_gathered w h s l is e = rw (add-one h, e, ← is) (or_puts w s h l)

  one_left : (h s : ℕ) → s ≡ gathered p h → p h ≡ false → s ≡ gathered p (h + 1)
  unfolding steps
  one_left h s is e = rw (add-one h, e) is

-- the first h hosts of n have been heard; their rows stand in tables of m
pub record Heard (m n : ℕ) (block : List ℕ) (h heard : ℕ) (req pre ben : List ℕ) : Type 0 where
  pub who : heard ≡ gathered (is_heard m n block) h
  pub asked : req ≡ tabled m (field_of m n block (λ c. c.req)) h
  pub claimed : pre ≡ tabled m (field_of m n block (λ c. c.pre)) h
  pub voted : ben ≡ tabled m (field_of m n block (λ c. c.ben)) h

pub nobody : (m n : ℕ) (block : List ℕ) → Heard m n block 0 0 (replicate m 0) (replicate m 0) (replicate m 0)
unfolding steps
nobody m n block = record { who = refl; asked = refl; claimed = refl; voted = refl }

module _ {m n : ℕ} {block : List ℕ} {h heard : ℕ} {req pre ben : List ℕ} (so_far : Heard m n block h heard req pre ben) (r : Result Config Refusal) (is : answer_of no_config r ≡ said m n block h) where
  pub misses : ((c : Config) → r ≡ Ok c → ⊥) → Heard m n block (h + 1) heard req pre ben
  misses other =
      let (number, fields) = unheard r other in
      let skipped : (f : Config → ℕ) (rows : List ℕ) → f no_config ≡ 0 → rows ≡ tabled m (field_of m n block f) h → rows ≡ tabled m (field_of m n block f) (h + 1)
      = λ f rows z are. row_skipped m (field_of m n block f) h rows are (ap f (ap (λ (a : Answer Config). a.fields) (sym is) ∙ fields) ∙ z) in
      record {
        who = one_left (is_heard m n block) h heard so_far.who (ap (λ (a : Answer Config). eqb a.number 0) (sym is) ∙ number);
        asked = skipped (λ c. c.req) req refl so_far.asked;
        claimed = skipped (λ c. c.pre) pre refl so_far.claimed;
        voted = skipped (λ c. c.ben) ben refl so_far.voted;
      }

  pub hears : (w : ℕ) (c : Config) → h < w → r ≡ Ok c → Heard m n block (h + 1) (bit_or heard ((1 * 2 ^ h) % 2 ^ w)) (set req h c.req) (set pre h c.pre) (set ben h c.ben)
  hears w c l e =
      let same = sym is ∙ ap (answer_of no_config) e in
      let filled : (f : Config → ℕ) (rows : List ℕ) → rows ≡ tabled m (field_of m n block f) h → set rows h (f c) ≡ tabled m (field_of m n block f) (h + 1)
      = λ f rows are. next_row m (field_of m n block f) h are (sym (ap (λ (a : Answer Config). f a.fields) same)) in
      record {
        who = one_gathered (is_heard m n block) w h heard l so_far.who (ap (λ (a : Answer Config). eqb a.number 0) same);
        asked = filled (λ c. c.req) req so_far.asked;
        claimed = filled (λ c. c.pre) pre so_far.claimed;
        voted = filled (λ c. c.ben) ben so_far.voted;
      }

pub all_heard : {m n : ℕ} {block : List ℕ} {h heard : ℕ} {req pre ben : List ℕ} → Heard m n block h heard req pre ben → h ≡ n
    → record { heard = heard; req = req; pre = pre; ben = ben } ≡ hosts_of m n block
unfolding hosts_of
all_heard r e = let all = rw e at r in rw (all.who, all.asked, all.claimed, all.voted)
