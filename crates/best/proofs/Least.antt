-- Two is the least such number: for every n of 2 or more, and every mode, a slot reaches it.
use mathlib.Core.Path.{◌≡◌, refl, sym, ap, ◌∙◌}
use mathlib.Core.Logic.{◌⊎◌, inl, inr}
use mathlib.Core.Bool.{true, true≢false}
use Prim.Native.Nat.{ℕ, zero, suc, ◌*◌, ◌^◌, ◌≤◌, ◌<◌}
use native.Mathlib.Nat.{mul-le-mul_right, suc-mul}
use native.Mathlib.Decide.{dec_le}
use native.Mathlib.Omega.{arith}
use lib.ListN.{get_or, length-replicate}
use Rattle.laws.specs.Sets.{has}
use Rattle.laws.proofs.Members.{has_none, below_has}
use Rattle.laws.proofs.Parts.{length_parts, part_at}
use Rattle.std.specs.Prelude.{Ok}
use Rattle.refusals.specs.Numbers.{Answer, answer_of}
use Rattle.frames.specs.Width.{narrow}
use Rattle.frames.specs.Part.{frame_len}
use Rattle.frames.specs.Config.{config_fields, config_frame, no_config, read_config}
use Rattle.frames.specs.declared.config.Config.{Config}
use Rattle.frames.proofs.ConfigLaws.{length_config, config_reads}
use Rattle.ports.specs.declared.state.Mode.{Mode}
use Rattle.ports.proofs.Owners.{no_owners}
use Rattle.demands.specs.Numbers.{WrongLimit}
use Rattle.demands.specs.SlotCall.{number}
use Rattle.demands.specs.Block.{says, Enabled, Given, Live}
use Rattle.demands.proofs.SlotServed.{served-in_order}
use Rattle.best.specs.Best.{Enough, EnoughOnTables, factor, Reached}
use Rattle.best.specs.Cross.{Cross, cross_host, cross_block, cross_state, cross_call}
use Rattle.best.proofs.Counting.{exactly_one}
use Rattle.best.proofs.Half.{enough_on_frames}
use Rattle.best.proofs.Cross.{cross_on_frames}

-- ---- the cross in frames

fits : (h i : ℕ) → get_or (config_fields (cross_host h)) i 0 < 256 ^ narrow
fits zero zero = omega arith
fits (suc zero) zero = omega arith
fits (suc (suc h)) zero = omega arith
fits h (suc zero) = omega arith
fits h (suc (suc zero)) = omega arith
fits h (suc (suc (suc zero))) = omega arith
fits h (suc (suc (suc (suc i)))) = omega arith

-- who asks for what
asked_by : (j u : ℕ) → has (cross_host j).req u ≡ true → (j ≡ 0) ⊎ (u ≡ 0)
asked_by zero u e = inl refl
asked_by (suc zero) u e = inr (let l = (below_has 1 1 u e).0 in omega arith)
asked_by (suc (suc j)) u e = absurd (true≢false (sym e ∙ has_none u))

-- nobody votes against host 0 or host 1
lets : (i : ℕ) → i < 2 → has 3 i ≡ true
lets zero h = refl
lets (suc zero) h = refl
lets (suc (suc i)) h = absurd (omega arith)

module _ (n : ℕ) (two : 2 ≤ n) where
  cross_says : (h : ℕ) → h < n → says n (cross_block n) h ≡ answer_of no_config (Ok (cross_host h))
  cross_says h h< = ap read_config (part_at (λ h. config_frame (cross_host h)) (frame_len n) (λ h. length_config (cross_host h)) n h h<) ∙ config_reads (cross_host h) (fits h)

  cross_enabled : (i : ℕ) → i < 2 → Enabled n 0 (cross_block n) i
  cross_enabled i i< = record {
    heard = ap (λ (a : Answer Config). a.number) (cross_says i (omega arith));
    not_by_two = λ g h g< h< p q. absurd (true≢false (sym (ap (λ (a : Answer Config). has a.fields.ben i) (cross_says g g<) ∙ lets i i<) ∙ p.clear));
  }

  nothing_given : (i t : ℕ) → Given (cross_state n) (cross_block n) i t → ⊥
  nothing_given i t g = true≢false (sym g.claimant.plans.planned ∙ ap (λ (a : Answer Config). has a.fields.pre t) (cross_says i g.initiator) ∙ has_none t)

  cross_live : (i t : ℕ) → i < 2 → t < 2 → has (cross_host i).req t ≡ true → Live (cross_state n) (cross_block n) i t
  cross_live i t i< t< e = record {
    initiator = omega arith;
    target = omega arith;
    enabled = cross_enabled i i<;
    asked = record { asked = ap (λ (a : Answer Config). has a.fields.req t) (cross_says i (omega arith)) ∙ e; allied = no_owners i ∙ sym (no_owners t) };
    given_none = λ u. nothing_given i u;
    given_to_none = λ j. nothing_given j t;
  }

  crossed : Cross (Live (cross_state n) (cross_block n)) 0 0
  crossed = record {
    centre = cross_live 0 0 (omega arith) (omega arith) refl;
    other_target = 1;
    in_row = cross_live 0 1 (omega arith) (omega arith) refl;
    apart_in_row = λ e. omega arith;
    other_initiator = 1;
    in_column = cross_live 1 0 (omega arith) (omega arith) refl;
    apart_in_column = λ e. omega arith;
    only = λ j u l. asked_by j u (sym (ap (λ (a : Answer Config). has a.fields.req u) (cross_says j l.initiator)) ∙ l.asked.asked);
  }

  -- For every n of 2 or more, and every mode, there is a slot in which the best has exactly twice as many pairs.
  pub twice_reached : (m : ℕ) → n ≤ m → (mode : Mode) → (WrongLimit m mode → ⊥) → Reached m n mode factor
  twice_reached m most mode limit = record {
    state = cross_state n;
    call = cross_call n mode;
    ports = refl;
    in_mode = refl;
    served = served;
    joins = 1;
    some = omega arith;
    compared = cross_on_frames m (cross_state n) (cross_call n mode) served crossed;
  }
    where
      served : number m (cross_state n) (cross_call n mode) ≡ 0
      served = served-in_order m (cross_state n) (cross_call n mode)
          (record { some_port = omega arith; ports_at_most = most; offsets = record { initiator = omega arith; target = omega arith } }) refl limit
          (length_parts (λ h. config_frame (cross_host h)) (frame_len n) (λ h. length_config (cross_host h)) n) (rw length-replicate (omega arith))

-- ---- so no smaller number is enough

reached_least : {m n : ℕ} {mode : Mode} (j k : ℕ) → Reached m n mode j → Enough m n mode k → j ≤ k
reached_least j k r enough = go (dec_le j k)
  where
    go : Dec (j ≤ k) → j ≤ k
    go (yes l) = l
    go (no l) =
        let more : suc k ≤ j = omega arith in
        let a = enough r.state r.call r.ports r.in_mode r.served in
        let b = r.compared in
        absurd (omega (
          arith,
          r.some,
          a.at_most b.best b.is_best.conflict_free,
          b.best_has,
          b.joined-has,
          exactly_one _ a.joined b.joined a.exactly b.exactly,
          mul-le-mul_right r.joins more,
          suc-mul k r.joins,
          ap (λ x. k * x) (exactly_one _ a.joined b.joined a.exactly b.exactly ∙ b.joined-has),
        ))

module _ (m n : ℕ) (two : 2 ≤ n) (most : n ≤ m) (mode : Mode) (limit : WrongLimit m mode → ⊥) (k : ℕ) where
  pub least : Enough m n mode k → factor ≤ k
  least = reached_least factor k (twice_reached n two m most mode limit)

  pub least-on_tables : EnoughOnTables m n mode k → factor ≤ k
  least-on_tables enough = least (enough_on_frames m n mode k enough)
