-- The records of the open slot: whole, and of the hosts that the set tells.
use mathlib.Core.Path.{◌≡◌, refl, sym, ◌∙◌}
use mathlib.Core.Bool.{Bool, true, false, ◌||◌, cond, or-true, or-false}
use mathlib.Core.List.{List, [], ◌∷◌, ◌++◌}
use Prim.Native.Nat.{ℕ}
use native.Mathlib.Omega.{arith}
use lib.Dec.{eqb, leb}
use lib.ListN.{length, drop, length-drop}
use lib.Seq.{length-take-le}
use borrow.Author.Tests.{eqb-true, eq-eqb}
use Rattle.laws.specs.Sets.{has, with}
use Rattle.laws.proofs.Members.{has_none, has-with}
use Rattle.laws.proofs.Tests.{same}
use Rattle.frames.specs.Part.{frame_len}
use Rattle.captures.specs.Capture.{packet_len, record_len, packet_in, packet_of, frame_of}
use Rattle.imports.specs.Cut.{Record, host_of, frame_for}
use Rattle.imports.proofs.Blocks.{heard_in, heard-more, framed_none, framed_more}

pub record Held (n hosts : ℕ) (rs : List Record) : Type 0 where
  pub framed : (h : ℕ) → length (frame_for n rs h) ≡ frame_len n
  pub heard : (h : ℕ) → has hosts h ≡ heard_in rs h

-- the byte order does not move the host
pub host_known : (low : Bool) (r : Record) → (packet_in low r).host ≡ host_of r
unfolding packet_in packet_of
host_known low r = go (leb 21 (length r))
  where
    go : (b : Bool) → (cond b (packet_of low r) (record { captured = 0; slot = 0; host = 0 })).host ≡ (cond b (packet_of false r) (record { captured = 0; slot = 0; host = 0 })).host
    go true = refl
    go false = refl

pub frame_size : (n : ℕ) (r : Record) → length r ≡ record_len n → length (frame_of n r) ≡ frame_len n
unfolding frame_of record_len packet_len
frame_size n r e = length-take-le 11 (drop 21 r) (rw length-drop (omega arith))

eqb_swap : (a b : ℕ) → eqb a b ≡ eqb b a
eqb_swap a b = same (eqb a b) (eqb b a) (λ e. eq-eqb b a (sym (eqb-true a b e))) (λ e. eq-eqb a b (sym (eqb-true b a e)))

-- the first frame of a slot
pub held_first : (n : ℕ) (low : Bool) (r : Record) → length r ≡ record_len n → Held n (with 0 (packet_in low r).host) (r ∷ [])
unfolding heard_in
held_first n low r e = record {
  framed = framed_more n [] r (frame_size n r e) (framed_none n);
  heard = λ h. has-with 0 (packet_in low r).host h ∙ rw (has_none h, host_known low r, eqb_swap h (host_of r)) (sym (or-false (eqb (host_of r) h)));
}

module _ (hosts : ℕ) (rs : List Record) (r : Record) (heard : (h : ℕ) → has hosts h ≡ heard_in rs h) (h : ℕ) where
  abbrev Told : ℕ → Type 0
  Told s = has s h ≡ (heard_in rs h || eqb (host_of r) h)

  told_again : has hosts (host_of r) ≡ true → (c : Bool) → eqb (host_of r) h ≡ c → Told hosts
  told_again q true s = rw (s, or-true, ← eqb-true (host_of r) h s) q
  told_again q false s = rw (s, or-false) (heard h)

  told : (b : Bool) → has hosts (host_of r) ≡ b → Told (cond b hosts (with hosts (host_of r)))
  told true q = told_again q (eqb (host_of r) h) refl
  told false q = has-with hosts (host_of r) h ∙ rw (heard h, eqb_swap h (host_of r))

-- another frame of it
pub held_more : (n hosts : ℕ) (low : Bool) (rs : List Record) (r : Record) → length r ≡ record_len n → Held n hosts rs
    → Held n (cond (has hosts (packet_in low r).host) hosts (with hosts (packet_in low r).host)) (rs ++ (r ∷ []))
held_more n hosts low rs r e held = record {
  framed = framed_more n rs r (frame_size n r e) held.framed;
  heard = λ h. rw (host_known low r) (told hosts rs r held.heard h (has hosts (host_of r)) refl ∙ sym (heard-more rs r h));
}
