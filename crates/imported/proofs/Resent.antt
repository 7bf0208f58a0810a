-- Resent frames: they are counted.
use mathlib.Core.Path.{◌≡◌, refl, sym, ap, ◌∙◌}
use mathlib.Core.Bool.{Bool, true, false, ◌&&◌, ◌||◌, cond, or-false, or-true}
use mathlib.Core.List.{List}
use Prim.Native.Nat.{ℕ, suc, ◌+◌, ◌%◌, ◌^◌}
use native.Mathlib.Omega.{arith}
use lib.Dec.{eqb}
use borrow.Author.Tests.{eq-eqb, ne_eqb}
use Rattle.laws.specs.Sets.{has}
use Rattle.laws.specs.Steps.{steps, some}
use Rattle.laws.proofs.Steps.{kept}
use Rattle.frames.specs.Part.{most_ports}
use Rattle.captures.specs.Capture.{is_low, packet_in, record_at, records_of}
use Rattle.captures.specs.declared.packet.Packet.{Packet}
use Rattle.import_steps.specs.Taking.{Known, started, begun, same_slot, heard, slot_begun, numbered}
use Rattle.imports.specs.Cut.{Record, host_of, Cut, uncut, cut_more, cut}
use Rattle.imports.specs.Import.{whole_cut, import_answer}
use Rattle.imports.proofs.Blocks.{heard_in, heard-more}
use Rattle.imports.proofs.Cases.{cases}
use Rattle.imports.proofs.Good.{Good, good_more}
use Rattle.imports.proofs.Hosts.{host_known}
use Rattle.imported.specs.Records.{host_at, turn, of_slot, resent_at, resent_in}
use Rattle.imported.proofs.Calls.{done, good_at}
use Rattle.imported.proofs.Sorted.{Sorted, sorted_more, sorted_none, none_of_new, open_of_same}
use Rattle.imported.proofs.Turns.{grown}

swap : (a b : Bool) → (a || b) ≡ (b || a)
swap true b = sym (or-true b)
swap false b = sym (or-false b)

module _ (n : ℕ) (s : List ℕ) where
  -- a host is heard among the records of a slot if one of them is of it
  heard_is : (q h i : ℕ) → heard_in (of_slot n s q i) h ≡ some (λ j. eqb (turn n s j) q && eqb (host_at n s j) h) i
  unfolding heard_in steps
  heard_is q h = grown n s q (λ i rs. heard_in rs h ≡ some (λ j. eqb (turn n s j) q && eqb (host_at n s j) h) i)
      (λ i e before. heard-more (of_slot n s q i) (record_at n s i) h ∙ swap (heard_in (of_slot n s q i) h) (eqb (host_at n s i) h) ∙ rw (before, eq-eqb (turn n s i) q e))
      (λ i d before. before ∙ rw (ne_eqb (turn n s i) q d))
      refl

  module _ (low : Bool) (i : ℕ) (g : Cut) (good : Good n g) (h : Sorted n s i g) where
    abbrev r : Record
    r = record_at n s i

    abbrev k : Packet
    k = packet_in low r

    resent_heard : resent_at n s i ≡ heard_in (of_slot n s (turn n s i) i) (host_of r)
    unfolding resent_at
    resent_heard = sym (heard_is (turn n s i) (host_of r) i)

    -- the first record of a slot is not resent; another is, if the step says so
    pub new_kept : same_slot g.known k ≡ false → resent_at n s i ≡ false
    unfolding heard_in
    new_kept a = resent_heard ∙ ap (λ (rs : List Record). heard_in rs (host_of r)) (none_of_new n s low i g h a)

    pub same_resent : same_slot g.known k ≡ true → resent_at n s i ≡ has g.known.hosts k.host
    same_resent e = resent_heard ∙ ap (λ (rs : List Record). heard_in rs (host_of r)) (open_of_same n s low i g h e) ∙ sym (good.held.heard (host_of r)) ∙ ap (has g.known.hosts) (sym (host_known low r))

  -- ---- the count

  record Counted (i : ℕ) (g : Cut) : Type 0 where
    in_slots : Sorted n s i g
    count : g.known.resent ≡ resent_in n s i % 2 ^ 32

  count_more : (i : ℕ) → resent_in n s (suc i) ≡ cond (resent_at n s i) (resent_in n s i + 1) (resent_in n s i)
  unfolding resent_in steps
  count_more i = refl

  counted-more : (low : Bool) (i : ℕ) (g : Cut) → Good n g → (g.known.number ≡ 0 → Counted i g) → (cut_more most_ports low (record_at n s i) g).known.number ≡ 0
      → (cut_more most_ports low (record_at n s i) g).known.resent ≡ resent_in n s (suc i) % 2 ^ 32
  unfolding numbered heard slot_begun
  counted-more low i g good c = cases low (record_at n s i) g (λ q. q.known.number ≡ 0 → q.known.resent ≡ resent_in n s (suc i) % 2 ^ 32)
      (λ other e. absurd (other e))
      (λ ok e _. same (c ok.number) e)
      (λ ok a _ _. new (c ok.number) a)
      (λ ok a _ _. new (c ok.number) a)
    where
      new : Counted i g → same_slot g.known (packet_in low (record_at n s i)) ≡ false → g.known.resent ≡ resent_in n s (suc i) % 2 ^ 32
      new x a = x.count ∙ rw (count_more i, new_kept low i g good x.in_slots a)

      go : (b : Bool) (x y : ℕ) → x ≡ y % 2 ^ 32 → cond b ((x + 1) % 2 ^ 32) x ≡ cond b (y + 1) y % 2 ^ 32
      go true x y e = rw e (omega arith)
      go false x y e = e

      same : Counted i g → same_slot g.known (packet_in low (record_at n s i)) ≡ true
          → cond (has g.known.hosts (packet_in low (record_at n s i)).host) ((g.known.resent + 1) % 2 ^ 32) g.known.resent ≡ resent_in n s (suc i) % 2 ^ 32
      same x e = rw (count_more i, same_resent low i g good x.in_slots e) (go (has g.known.hosts (packet_in low (record_at n s i)).host) g.known.resent (resent_in n s i) x.count)

  counted : (low : Bool) (p : Known) → begun p ≡ false → p.resent ≡ 0 → Good n (uncut p) → (i : ℕ) → Good n (cut most_ports low n s p i) × ((cut most_ports low n s p i).known.number ≡ 0 → Counted i (cut most_ports low n s p i))
  unfolding cut resent_in steps
  counted low p shut none first i =
      kept _ _ (λ i g. Good n g × (g.known.number ≡ 0 → Counted i g)) i
      (λ i g l x. (
        good_more n low (record_at n s i) g x.0,
        λ z. record { in_slots = sorted_more n s low i g (λ y. (x.1 y).in_slots) z; count = counted-more low i g x.0 x.1 z },
      ))
      (first, λ _. record { in_slots = sorted_none n s p shut; count = none })

-- the frames resent that the call answers are the records resent, modulo 2 ^ 32
pub resent_counted : (n mode i j : ℕ) (s out : List ℕ) → (import_answer most_ports n mode i j s out).number ≡ 0
    → (import_answer most_ports n mode i j s out).fields.resent ≡ resent_in n s (records_of n s) % 2 ^ 32
unfolding whole_cut started cut steps
resent_counted n mode i j s out e =
    let d = done n mode i j s out e in
    d.resent ∙ ((counted n s (is_low s) (started most_ports n mode i j) refl refl (good_at n mode i j s out d.start 0) (records_of n s)).1 d.taken).count
