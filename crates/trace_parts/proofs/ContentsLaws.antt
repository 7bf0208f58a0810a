-- What is known of sound contents.
use mathlib.Core.Path.{◌≡◌}
use mathlib.Core.Bool.{true}
use mathlib.Core.List.{List}
use Prim.Native.Nat.{ℕ, ◌+◌, ◌≤◌, ◌<◌}
use native.Mathlib.Nat.{mul-le-mul_right}
use native.Mathlib.Omega.{arith}
use lib.Dec.{ltb, leb}
use lib.ListN.{length, take, get_or}
use borrow.Author.Tests.{eqb-true, ltb-true, leb-true, lt-ltb, le-leb}
use Rattle.laws.specs.Bytes.{number_from, number_at}
use Rattle.laws.specs.Tests.{between}
use Rattle.laws.proofs.Every.{every_each}
use Rattle.laws.proofs.Tests.{both, same, from_to, in_range}
use Rattle.laws.proofs.Tests as tests
use Rattle.words.specs.Check.{intact}
use Rattle.words.proofs.BytesAt.{one_at}
use Rattle.trace_parts.specs.Layout.{contents_len, most_bodies, most_slots}
use Rattle.trace_parts.specs.Contents.{ports_of, count_of, entry_at, entry_of, contents_end, due, entry_sound, contents_sound, contents_fit, has_entry}

-- the number of one byte is that byte
pub byte_at : (s : List ℕ) (at : ℕ) → at + 1 ≤ length s → number_at 1 at s ≡ get_or s at 0
unfolding number_from
byte_at s at h = rw (one_at s at h) (omega arith)

pub record EntrySound (s : List ℕ) (k : ℕ) : Type 0 where
  pub least : 1 ≤ (entry_of s k).slots
  pub most : (entry_of s k).slots ≤ most_slots (ports_of s)
  pub follows : (entry_of s k).offset ≡ due s k

entry_sound_lem : (s : List ℕ) (k : ℕ) → entry_sound s k ≡ true → EntrySound s k
unfolding entry_sound
entry_sound_lem s k e =
    let (a, b) = both (between 1 (most_slots (ports_of s)) (entry_of s k).slots) _ e in
    let (least, most) = from_to 1 (most_slots (ports_of s)) (entry_of s k).slots a in
    record { least = least; most = most; follows = eqb-true _ _ b }

pub record Contents (m : ℕ) (s : List ℕ) : Type 0 where
  pub long : contents_end s ≤ length s
  pub intact : intact (take (contents_end s) s) ≡ true
  pub some : 1 ≤ ports_of s
  pub ports : ports_of s ≤ m
  pub count : count_of s ≤ most_bodies
  pub entries : (k : ℕ) → k < count_of s → EntrySound s k

pub contents : (m : ℕ) (s : List ℕ) → contents_sound m s ≡ true → Contents m s
unfolding contents_sound
contents m s e =
    let (a, e1) = both (leb (contents_end s) (length s)) _ e in
    let (b, e2) = both (intact (take (contents_end s) s)) _ e1 in
    let (c, e3) = both (between 1 m (ports_of s)) _ e2 in
    let (d, f) = both (leb (count_of s) most_bodies) _ e3 in
    let (some, ports) = from_to 1 m (ports_of s) c in
    record {
      long = leb-true _ _ a;
      intact = b;
      some = some;
      ports = ports;
      count = leb-true (count_of s) most_bodies d;
      entries = λ k l. entry_sound_lem s k (every_each (entry_sound s) (count_of s) f k l);
    }

pub fitting : (m len : ℕ) (s : List ℕ) → contents_fit m len s ≡ true → Contents m s × (due s (count_of s) ≡ len)
unfolding contents_fit
fitting m len s e = let (a, b) = both (contents_sound m s) _ e in (contents m s a, eqb-true _ _ b)

-- the entry of a body stands in the contents
pub entry_within : (k count len : ℕ) → k < count → contents_len count ≤ len → entry_at k + 10 ≤ len
entry_within k count len l h = omega (arith, mul-le-mul_right 10 l)

pub there : (m : ℕ) (s : List ℕ) (k : ℕ) → has_entry m s k ≡ true → (entry_at k + 10 ≤ length s) × (k < count_of s)
unfolding has_entry
there m s k e =
    let (a, r) = both (leb (entry_at k + 10) (length s)) _ e in
    let (b, c) = both (between 1 m (ports_of s)) _ r in
    (leb-true _ _ a, ltb-true _ _ c)

-- sound contents hold the entries of their bodies
pub has_known : {m : ℕ} {s : List ℕ} → Contents m s → (k : ℕ) → has_entry m s k ≡ ltb k (count_of s)
unfolding has_entry
has_known {m} {s} c k =
    same _ _
    (λ e. lt-ltb k (count_of s) (there m s k e).1)
    (λ e. tests.every (le-leb _ _ (entry_within k (count_of s) (length s) (ltb-true k (count_of s) e) c.long)) (tests.every (in_range c.some c.ports) e))
