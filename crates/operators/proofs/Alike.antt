-- Two works that one operator cannot tell apart: its initiators' rows are the same, and no live request goes from one operator's port to
-- another's. Its own joins, made in both, and the others' joins, made in either, keep them so.
use mathlib.Core.Path.{◌≡◌, refl, sym, ap, ◌∙◌}
use mathlib.Core.Bool.{Bool, true, false, cond, true≢false}
use mathlib.Core.List.{List}
use Prim.Native.Nat.{ℕ}
use lib.ListN.{length, get_or, length-set, length-map}
use lib.Seq.{get_or-set_other}
use Rattle.laws.specs.Sets.{has, asks, with, without}
use Rattle.laws.proofs.Tests.{refuted}
use Rattle.choices.specs.Join.{join}
use Rattle.choices.specs.declared.work.Work.{Work}
use Rattle.demands.proofs.Join.{row-joined, live_left}
use Rattle.operators.proofs.Agreeing.{set_agrees, without_absent}

-- which ports are the operator's
module _ (own : ℕ → Bool) where
  -- nobody asks for another operator's port
  abbrev pub Apart : List ℕ → Type 0
  Apart rows = (i t : ℕ) → asks rows i t ≡ true → own i ≡ own t

  -- two tables with the same rows for the operator's own initiators
  pub record Agree (a b : List ℕ) : Type 0 where
    pub left : Apart a
    pub right : Apart b
    pub row : (i : ℕ) → own i ≡ true → get_or a i 0 ≡ get_or b i 0
    pub as_long : length a ≡ length b

  pub record Alike (s u : Work) : Type 0 where
    pub live : Agree s.live u.live
    pub held : (i : ℕ) → own i ≡ true → get_or s.held i 0 ≡ get_or u.held i 0
    pub as_long : length s.held ≡ length u.held

  turn : {a b : List ℕ} → Agree a b → Agree b a
  turn h = record { left = h.right; right = h.left; row = λ i o. sym (h.row i o); as_long = sym h.as_long }

  flip : {s u : Work} → Alike s u → Alike u s
  flip h = record { live = turn h.live; held = λ i o. sym (h.held i o); as_long = sym h.as_long }

  -- the operator's own row and another's are two
  other : {i j : ℕ} → own i ≡ true → own j ≡ false → i ≡ j → ⊥
  other p q e = true≢false (sym p ∙ ap own e ∙ q)

  join_apart : (s : Work) (w c : ℕ) → Apart s.live → Apart (join s w c).live
  join_apart s w c h i t e = h i t (live_left s w c i t e).was

  live_length : (s : Work) (w c : ℕ) → length (join s w c).live ≡ length s.live
  unfolding join
  live_length s w c = simp (length-map, length-set)

  -- one pair, joined in both
  join_both : (s u : Work) (w c : ℕ) → Alike s u → Alike (join s w c) (join u w c)
  unfolding join
  join_both s u w c h = record {
    live = record {
      left = join_apart s w c h.live.left;
      right = join_apart u w c h.live.right;
      row = λ i o. row-joined s w c i ∙ ap (λ r. without r c) (set_agrees s.live u.live w 0 0 i h.live.as_long (h.live.row i o) (λ q. refl)) ∙ sym (row-joined u w c i);
      as_long = live_length s w c ∙ h.live.as_long ∙ sym (live_length u w c);
    };
    held = λ i o. set_agrees s.held u.held w _ _ i h.as_long (h.held i o) (λ q. ap (λ r. with r c) (rw q at (h.held i o)));
    as_long = length-set s.held w _ ∙ h.as_long ∙ sym (length-set u.held w _);
  }

  -- a pair of others, joined in the first
  join_one : (s u : Work) (w c : ℕ) → own w ≡ false → own c ≡ false → Alike s u → Alike (join s w c) u
  unfolding join
  join_one s u w c x y h = record {
    live = record {
      left = join_apart s w c h.live.left;
      right = h.live.right;
      row = λ i o. row-joined s w c i ∙ ap (λ r. without r c) (get_or-set_other s.live w i 0 0 (other o x)) ∙ without_absent _ c (unasked i o) ∙ h.live.row i o;
      as_long = live_length s w c ∙ h.live.as_long;
    };
    held = λ i o. get_or-set_other s.held w i _ 0 (other o x) ∙ h.held i o;
    as_long = length-set s.held w _ ∙ h.as_long;
  }
    where
      unasked : (i : ℕ) → own i ≡ true → asks s.live i c ≡ false
      unasked i o = refuted _ (λ e. true≢false (sym o ∙ h.live.left i c e ∙ y))

  -- a pair of others, joined if b
  abbrev Others : Bool → ℕ → ℕ → Type 0
  Others b w c = b ≡ true → (own w ≡ false) × (own c ≡ false)

  try_one : (s u : Work) (b : Bool) (w c : ℕ) → Others b w c → Alike s u → Alike (cond b (join s w c) s) u
  try_one s u true w c x h = let (p, q) = x refl in join_one s u w c p q h
  try_one s u false w c x h = h

  -- One step of any rule. In the operator's own turn the same pair is joined in both, or none; in others' turn each work may have a pair of
  -- others joined.
  pub step_alike : (s u : Work) (turn b d : Bool) (w x c y : ℕ)
      → (turn ≡ true → (b ≡ d) × (w ≡ x) × (c ≡ y)) → (turn ≡ false → Others b w c × Others d x y)
      → Alike s u → Alike (cond b (join s w c) s) (cond d (join u x y) u)
  step_alike s u true b d w x c y same others h = let (p, q, r) = same refl in rw (p, q, r) (go d)
    where
      go : (d : Bool) → Alike (cond d (join s x y) s) (cond d (join u x y) u)
      go true = join_both s u x y h
      go false = h
  step_alike s u false b d w x c y same others h =
      let (p, q) = others refl in
      try_one s (cond d (join u x y) u) b w c p (flip (try_one u s d x y q (flip h)))

  -- who asks for one of its targets, in tables that agree
  pub asked_alike : {a b : List ℕ} → Agree a b → (t : ℕ) → own t ≡ true → (i : ℕ) → asks a i t ≡ asks b i t
  asked_alike {a} {b} h t o i = go (own i) refl
    where
      go : (z : Bool) → own i ≡ z → asks a i t ≡ asks b i t
      go true e = ap (λ r. has r t) (h.row i e)
      go false e = refuted _ (λ x. true≢false (sym o ∙ sym (h.left i t x) ∙ e)) ∙ sym (refuted _ (λ x. true≢false (sym o ∙ sym (h.right i t x) ∙ e)))
