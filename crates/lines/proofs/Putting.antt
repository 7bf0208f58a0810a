-- Text after text: what is put in two parts is put as one.
use mathlib.Core.Path.{◌≡◌, refl, sym, ap, ◌∙◌}
use mathlib.Core.List.{List, [], ◌∷◌, ◌++◌}
use Prim.Native.Nat.{ℕ, suc, ◌+◌, ◌≤◌, ◌<◌}
use native.Mathlib.Nat.{add-zero}
use native.Mathlib.Decide.{dec_le}
use native.Mathlib.Numerals.{add-one}
use native.Mathlib.Omega.{arith}
use lib.ListN.{length, set, get_or, take, drop, length-append}
use lib.Seq.{sets, sets-eq, length-sets, set_out, take-suc}
use Rattle.std.proofs.lemmas.List.{take_all}
use Rattle.laws.specs.Parts.{parts}
use Rattle.laws.specs.Steps.{steps}
use Rattle.lines.specs.Put.{Put, Puts}
use Rattle.lines.specs.declared.Text.{Text}

sets_append : (o : List ℕ) (at : ℕ) (s t : List ℕ) → sets (sets o at s) (at + length s) t ≡ sets o at (s ++ t)
sets_append o at [] t = ap (λ (k : ℕ). sets o k t) (add-zero at)
sets_append o at (b ∷ s) t =
    let e : at + suc (length s) ≡ suc at + length s = omega arith in
    ap (λ (k : ℕ). sets (sets (set o at b) (suc at) s) k t) e ∙ sets_append (set o at b) (suc at) s t

sets_beyond : (o : List ℕ) (at : ℕ) (s : List ℕ) → length o ≤ at → sets o at s ≡ o
sets_beyond o at [] h = refl
sets_beyond o at (b ∷ s) h = rw (set_out o at b h) (sets_beyond o (suc at) s (omega arith))

as_long : {o : List ℕ} {at : ℕ} {s out : List ℕ} {end : ℕ} → Put o at s out end → length out ≡ length o
as_long {o} {at} {s} p = ap length p.bytes ∙ length-sets o at s

nothing : (o : List ℕ) (at : ℕ) → Put o at [] o at
nothing o at = record { bytes = refl; ends = omega arith }

then : {o : List ℕ} {at : ℕ} {s out : List ℕ} {end : ℕ} → Put o at s out end → (t last : List ℕ) (behind : ℕ) → Put out end t last behind → Put o at (s ++ t) last behind
then {o} {at} {s} {out} {end} p t last behind q =
    let long : length out ≡ length o = as_long p in
    let both = length-append s t in
    record {
      bytes = q.bytes ∙ go (dec_le (at + length s) (length o));
      ends = omega (arith, q.ends, p.ends);
    }
  where
    go : Dec (at + length s ≤ length o) → sets out end t ≡ sets o at (s ++ t)
    go (yes h) =
        let e : end ≡ at + length s = omega (arith, p.ends) in
        rw (p.bytes, e) (sets_append o at s t)
    go (no h) =
        let long : length out ≡ length o = as_long p in
        let beyond : length out ≤ end = omega (arith, p.ends) in
        sets_beyond out end t beyond ∙ p.bytes ∙ sym (sets_beyond (sets o at s) (at + length s) t (omega (arith, length-sets o at s))) ∙ sets_append o at s t

-- where there is room, the text stands whole in its place, and all else is as it was
pub whole : {o : List ℕ} {at : ℕ} {s out : List ℕ} {end : ℕ} → Put o at s out end → at + length s ≤ length o → (out ≡ take at o ++ s ++ drop (at + length s) o) × (end ≡ at + length s)
whole {o} {at} {s} p room = (p.bytes ∙ sets-eq s o at room, omega (arith, p.ends))

-- the same of a text, which keeps the bytes that it was lent
pub nothing_put : (t : Text) → Puts t [] t
nothing_put t = record { put = nothing _ _; lent = refl }

pub both_put : {t u v : Text} {s r : List ℕ} → Puts t s u → Puts u r v → Puts t (s ++ r) v
both_put p q = record { put = then p.put _ _ _ q.put; lent = q.lent ∙ p.lent }

pub byte_more : (s : List ℕ) (i : ℕ) {t u v : Text} → i < length s → Puts t (take i s) u → Puts u (get_or s i 0 ∷ []) v → Puts t (take (i + 1) s) v
byte_more s i more p q = rw (add-one i, take-suc s i 0 more) (both_put p q)

pub bytes_all : (s : List ℕ) (i : ℕ) {t u : Text} → length s ≤ i → Puts t (take i s) u → Puts t s u
bytes_all s i all p = rw (take_all i s all) at p

module _ (f : ℕ → List ℕ) where
  pub none_put : (t : Text) → Puts t (parts f 0) t
  unfolding steps
  none_put t = nothing_put t

  pub part_put : (k : ℕ) {t u v : Text} → Puts t (parts f k) u → Puts u (f k) v → Puts t (parts f (k + 1)) v
  unfolding steps
  part_put k p q = rw (add-one k) (both_put p q)
