-- The frames of a slot: those of the records taken so far, and of one more.
use mathlib.Core.Path.{◌≡◌, refl, sym, ap, ◌∙◌}
use mathlib.Core.Bool.{Bool, true, false, ◌||◌, cond, or-false, true≢false}
use mathlib.Core.List.{List, [], ◌∷◌, ◌++◌}
use Prim.Native.Nat.{ℕ, zero, suc, ◌*◌}
use native.Mathlib.Nat.{zero-mul, suc-mul}
use lib.Dec.{eqb}
use lib.ListN.{length, replicate, length-replicate, replicate-append-replicate}
use borrow.Author.Tests.{eqb-true, eqb-false, eq-eqb, ne_eqb}
use Rattle.laws.specs.Steps.{steps}
use Rattle.laws.specs.Parts.{parts}
use Rattle.laws.proofs.Loops.{same_steps}
use Rattle.laws.proofs.Parts.{length_parts}
use Rattle.frames.specs.Part.{frame_len}
use Rattle.trace_parts.specs.Layout.{block_len}
use Rattle.captures.specs.Capture.{frame_of}
use Rattle.imports.specs.Cut.{Record, host_of, frame_for, block_of}

abbrev pub zeros : ℕ → List ℕ
zeros n = replicate (frame_len n) 0

-- some record is of the host
unfoldable pub heard_in : List Record → ℕ → Bool
heard_in [] h = false
heard_in (r ∷ rs) h = eqb (host_of r) h || heard_in rs h

or_more : (b x y z : Bool) → x ≡ (y || z) → (b || x) ≡ ((b || y) || z)
or_more true x y z e = refl
or_more false x y z e = e

pub heard-more : (rs : List Record) (r : Record) (h : ℕ) → heard_in (rs ++ (r ∷ [])) h ≡ (heard_in rs h || eqb (host_of r) h)
unfolding heard_in
heard-more [] r h = or-false (eqb (host_of r) h)
heard-more (q ∷ rs) r h = or_more (eqb (host_of q) h) _ (heard_in rs h) (eqb (host_of r) h) (heard-more rs r h)

cond_more : (b a : Bool) (x y z w : List ℕ) → y ≡ cond a z w → cond b x y ≡ cond (b || a) (cond b x z) w
cond_more true a x y z w e = refl
cond_more false a x y z w e = e

-- a record more counts only for its host, and only if it is the first
pub frame_more : (n : ℕ) (rs : List Record) (r : Record) (h : ℕ)
    → frame_for n (rs ++ (r ∷ [])) h ≡ cond (heard_in rs h) (frame_for n rs h) (cond (eqb (host_of r) h) (frame_of n r) (zeros n))
unfolding frame_for heard_in
frame_more n [] r h = refl
frame_more n (q ∷ rs) r h = cond_more (eqb (host_of q) h) (heard_in rs h) (frame_of n q) _ (frame_for n rs h) _ (frame_more n rs r h)

cond_none : (b a : Bool) (x y z : List ℕ) → (a ≡ false → y ≡ z) → b || a ≡ false → cond b x y ≡ z
cond_none true a x y z f e = absurd (true≢false e)
cond_none false a x y z f e = f e

-- a host that is not heard has zeros
pub unheard_zeros : (n : ℕ) (rs : List Record) (h : ℕ) → heard_in rs h ≡ false → frame_for n rs h ≡ zeros n
unfolding frame_for heard_in
unheard_zeros n [] h e = refl
unheard_zeros n (q ∷ rs) h e = cond_none (eqb (host_of q) h) (heard_in rs h) (frame_of n q) _ _ (unheard_zeros n rs h) e

-- a block of absent frames
pub blank_block : (w k : ℕ) → parts (λ h. replicate w 0) k ≡ replicate (k * w) 0
unfolding steps
blank_block w zero = rw (zero-mul w)
blank_block w (suc k) = rw (blank_block w k, suc-mul k w) (replicate-append-replicate (k * w) w 0)

module _ (n : ℕ) (rs : List Record) (r : Record) where
  pub frame_other : (h : ℕ) → (host_of r ≡ h → ⊥) → frame_for n (rs ++ (r ∷ [])) h ≡ frame_for n rs h
  frame_other h d = frame_more n rs r h ∙ go (heard_in rs h) refl
    where
      go : (b : Bool) → heard_in rs h ≡ b → cond b (frame_for n rs h) (cond (eqb (host_of r) h) (frame_of n r) (zeros n)) ≡ frame_for n rs h
      go true e = refl
      go false e = rw (ne_eqb (host_of r) h d) (sym (unheard_zeros n rs h e))

  -- the first frame of its host counts
  pub frame_first : heard_in rs (host_of r) ≡ false → frame_for n (rs ++ (r ∷ [])) (host_of r) ≡ frame_of n r
  frame_first e = frame_more n rs r (host_of r) ∙ rw (e, eq-eqb (host_of r) (host_of r) refl)

  -- a resent one does not
  pub frame_resent : heard_in rs (host_of r) ≡ true → (h : ℕ) → frame_for n (rs ++ (r ∷ [])) h ≡ frame_for n rs h
  frame_resent e h = go (eqb (host_of r) h) refl
    where
      go : (b : Bool) → eqb (host_of r) h ≡ b → frame_for n (rs ++ (r ∷ [])) h ≡ frame_for n rs h
      go true q = frame_more n rs r h ∙ rw (rw (eqb-true (host_of r) h q) at e)
      go false q = frame_other h (eqb-false (host_of r) h q)

  pub framed_more : length (frame_of n r) ≡ frame_len n → ((h : ℕ) → length (frame_for n rs h) ≡ frame_len n) → (h : ℕ) → length (frame_for n (rs ++ (r ∷ [])) h) ≡ frame_len n
  framed_more long each h = ap length (frame_more n rs r h) ∙ go (heard_in rs h) (eqb (host_of r) h)
    where
      go : (a b : Bool) → length (cond a (frame_for n rs h) (cond b (frame_of n r) (zeros n))) ≡ frame_len n
      go true b = each h
      go false true = long
      go false false = length-replicate {A = ℕ} (frame_len n) 0

pub framed_none : (n h : ℕ) → length (frame_for n [] h) ≡ frame_len n
unfolding frame_for
framed_none n h = length-replicate {A = ℕ} (frame_len n) 0

-- the bytes of a block
pub length_block : (n : ℕ) (rs : List Record) → ((h : ℕ) → length (frame_for n rs h) ≡ frame_len n) → length (block_of n rs) ≡ block_len n
unfolding block_of block_len
length_block n rs each = length_parts (frame_for n rs) (frame_len n) each n

pub block_none : (n : ℕ) → replicate (block_len n) 0 ≡ block_of n []
unfolding block_of block_len frame_for
block_none n = sym (blank_block (frame_len n) n)

-- the block stays where a frame is resent
pub block_resent : (n : ℕ) (rs : List Record) (r : Record) → heard_in rs (host_of r) ≡ true → block_of n (rs ++ (r ∷ [])) ≡ block_of n rs
unfolding block_of
block_resent n rs r e = same_steps _ _ [] n (λ h u l. ap (λ (z : List ℕ). u ++ z) (frame_resent n rs r e h))
