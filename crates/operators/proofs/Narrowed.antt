-- What counts under owners: nothing goes from one operator's port to another's, and a host's row depends on its own operator's hosts alone.
use mathlib.Core.Path.{◌≡◌, refl, sym, ap, ◌∙◌}
use mathlib.Core.Bool.{Bool, true, ◌&&◌}
use mathlib.Core.List.{List}
use Prim.Native.Nat.{ℕ, ◌<◌}
use native.Mathlib.Decide.{ℕ_discrete}
use lib.Dec.{eqb, ltb}
use lib.ListN.{length, get_or}
use Rattle.laws.specs.Sets.{has}
use Rattle.laws.proofs.Loops.{same_steps}
use Rattle.laws.proofs.Rows.{length_tabled}
use Rattle.laws.proofs.Tests.{refuted}
use Rattle.ports.specs.Owners.{operator, of, among}
use Rattle.ports.proofs.Owners.{among-has, has-among}
use Rattle.hearing.specs.Heard.{clears, present, counted}
use Rattle.demands.proofs.Hosts.{counted-asks}
use Rattle.operators.proofs.Agreeing.{tabled-agrees}
use Rattle.operators.proofs.Alike.{Apart, Agree}

module _ (owners a n : ℕ) where
  -- the ports of operator a
  abbrev own : ℕ → Bool
  own = of owners a

  counted_apart : (heard : ℕ) (ben rows : List ℕ) → Apart own (counted n owners heard ben rows)
  counted_apart heard ben rows i t e = ap (λ o. eqb o a) (counted-asks n owners heard ben rows i t e).2

  -- hosts of which the operator's own are heard alike and vote alike
  module _ (heard heard' : ℕ) (ben ben' : List ℕ) (hear : (h : ℕ) → h < n → own h ≡ true → has heard h ≡ has heard' h)
      (vote : (h : ℕ) → h < n → own h ≡ true → get_or ben h 0 ≡ get_or ben' h 0) where
    clears_alike : (i h : ℕ) → own i ≡ true → h < n → clears (among owners i heard) ben i h ≡ clears (among owners i heard') ben' i h
    clears_alike i h o h< = go (ℕ_discrete (operator owners i) (operator owners h))
      where
        go : Dec (operator owners i ≡ operator owners h) → clears (among owners i heard) ben i h ≡ clears (among owners i heard') ben' i h
        go (yes q) =
            let mine : own h ≡ true = ap (λ x. eqb x a) (sym q) ∙ o in
            rw (has-among owners i heard h q, has-among owners i heard' h q, hear h h< mine, vote h h< mine)
        go (no q) = rw (refuted _ (λ e. q (among-has owners i heard h e).1), refuted _ (λ e. q (among-has owners i heard' h e).1))

    present_alike : (i : ℕ) → i < n → own i ≡ true → present n (among owners i heard) ben i ≡ present n (among owners i heard') ben' i
    unfolding present
    present_alike i i< o = rw (has-among owners i heard i refl, has-among owners i heard' i refl, hear i i< o)
        (ap (λ c. has heard' i && ltb c 2) (same_steps _ _ 0 n (λ h c h<. rw (clears_alike i h o h<))))

    pub counted_agree : (rows rows' : List ℕ) → length rows ≡ length rows' → ((i : ℕ) → i < n → own i ≡ true → get_or rows i 0 ≡ get_or rows' i 0)
        → Agree own (counted n owners heard ben rows) (counted n owners heard' ben' rows')
    unfolding counted
    counted_agree rows rows' long row = record {
      left = counted_apart heard ben rows;
      right = counted_apart heard' ben' rows';
      row = λ i o. rw long (tabled-agrees (length rows') _ _ n i (λ l. rw (present_alike i l o, row i l o)));
      as_long = length_tabled (length rows) _ n ∙ long ∙ sym (length_tabled (length rows') _ n);
    }
