-- The sets asked of a block are the pairs that it asks, and a block that is not whole asks none.
use mathlib.Core.Path.{◌≡◌, refl, sym, ◌∙◌}
use mathlib.Core.Logic.{◌↔◌}
use mathlib.Core.Bool.{Bool, true, false, ◌&&◌, ◌||◌, cond}
use mathlib.Core.List.{List}
use Prim.Native.Nat.{ℕ, ◌*◌}
use native.Mathlib.Omega.{arith}
use lib.Dec.{eqb, ltb}
use lib.ListN.{length, replicate}
use borrow.Author.Tests.{ltb-true, ltb-false, lt-ltb, le-ltb, eqb-true, eq-eqb, not-false}
use Rattle.refusals.specs.Numbers.{Answer}
use Rattle.laws.specs.Sets.{asks}
use Rattle.laws.proofs.Tests.{both, every, neither, arms}
use Rattle.frames.specs.Part.{frame_len}
use Rattle.frames.specs.Frame.{differs}
use Rattle.ports.proofs.Seen.{asks-within}
use Rattle.shelf.specs.Asked.{block_number, sets_asked}
use Rattle.demands.specs.Block.{Asks}
use Rattle.demands.proofs.SlotHosts.{Whole, requests_count}

module _ (m n owners : ℕ) (block : List ℕ) where
  -- neither 1 nor 6 applies to a whole block, and to no other
  whole_number : Whole m n block → block_number m n block ≡ 0
  unfolding block_number
  whole_number w = rw (le-ltb n 1 w.some_port, le-ltb m n w.ports_at_most, eq-eqb (length block) (n * frame_len n) w.whole_block)

  number_whole : block_number m n block ≡ 0 → Whole m n block
  unfolding block_number
  number_whole e =
      let (ports, size) = none_given (ltb n 1 || ltb m n) (differs (length block) (n * frame_len n)) e in
      let (some, most) = neither (ltb n 1) (ltb m n) ports in
      record { some_port = ltb-false n 1 some; ports_at_most = ltb-false m n most; whole_block = eqb-true _ _ (not-false _ size) }
    where
      none_given : (b c : Bool) → ◌≡◌ {A = ℕ} (cond b 1 (cond c 6 0)) 0 → (b ≡ false) × (c ≡ false)
      none_given false false e = (refl, refl)
      none_given false true e = absurd (omega arith)
      none_given true c e = absurd (omega arith)

  asked-number : (sets_asked m n owners block).number ≡ block_number m n block
  unfolding sets_asked
  asked-number = arms (λ (a : Answer (List ℕ)). a.number ≡ block_number m n block) (eqb (block_number m n block) 0) _ _ (λ e. sym (eqb-true _ 0 e)) (λ e. refl)

  -- The call takes whole blocks of 1 to m ports.
  pub asked_of_whole : ((sets_asked m n owners block).number ≡ 0) ↔ Whole m n block
  asked_of_whole = (λ e. number_whole (sym asked-number ∙ e), λ w. asked-number ∙ whole_number w)

  -- Of any other it gives no set.
  pub asked_of_none : ((sets_asked m n owners block).number ≡ 0 → ⊥) → (sets_asked m n owners block).fields ≡ replicate m 0
  unfolding sets_asked
  asked_of_none = arms (λ (a : Answer (List ℕ)). (a.number ≡ 0 → ⊥) → a.fields ≡ replicate m 0) (eqb (block_number m n block) 0) _ _ (λ e ne. absurd (ne refl)) (λ e ne. refl)

  -- The pairs in the sets are those that the block asks.
  pub asked_exactly : Whole m n block → (i t : ℕ) → (asks (sets_asked m n owners block).fields i t ≡ true) ↔ Asks n owners block i t
  unfolding sets_asked
  asked_exactly w i t = rw (eq-eqb _ 0 (whole_number w)) (
    λ e. let (ports, a) = both (ltb i n && ltb t n) _ (sym (asks-within n _ i t) ∙ e) in
        let (i<, t<) = both (ltb i n) (ltb t n) ports in
        let (_, enabled, asked) = (requests_count owners w i t).0 a in
        record { initiator = ltb-true i n i<; target = ltb-true t n t<; enabled = enabled; asked = asked },
    λ a. asks-within n _ i t ∙ every (every (lt-ltb i n a.initiator) (lt-ltb t n a.target)) ((requests_count owners w i t).1 (a.initiator, a.enabled, a.asked)),
  )
