-- The crowd's block: every host of it is heard to say the same, and waits for target 0.
use mathlib.Core.Path.{◌≡◌, sym, ap, ◌∙◌}
use mathlib.Core.Bool.{true, true≢false}
use Prim.Native.Nat.{ℕ, zero, suc, ◌*◌, ◌^◌, ◌≤◌, ◌<◌}
use native.Mathlib.Omega.{arith}
use lib.ListN.{length, get_or}
use lib.Pow.{pow_mono}
use Rattle.laws.specs.Sets.{has, gathered}
use Rattle.laws.proofs.Members.{has_none, gathered-has, has-gathered}
use Rattle.laws.proofs.Parts.{length_parts, part_at}
use Rattle.std.specs.Prelude.{Ok}
use Rattle.refusals.specs.Numbers.{Answer, answer_of}
use Rattle.frames.specs.Width.{narrow}
use Rattle.frames.specs.Part.{most_ports, frame_len}
use Rattle.frames.specs.Config.{config_fields, config_frame, no_config, read_config}
use Rattle.frames.specs.declared.config.Config.{Config}
use Rattle.frames.proofs.ConfigLaws.{length_config, config_reads}
use Rattle.ports.proofs.Owners.{no_owners}
use Rattle.demands.specs.Block.{says, Waits}
use Rattle.demands.proofs.Small.{small}
use Rattle.diagonals.specs.Crowd.{asks_zero, crowd_block}

pub crowd_long : (n : ℕ) → length (crowd_block n) ≡ n * frame_len n
crowd_long n = length_parts (λ h. config_frame (asks_zero n)) (frame_len n) (λ h. length_config (asks_zero n)) n

module _ (n : ℕ) (most : n ≤ most_ports) where
  fits : (i : ℕ) → get_or (config_fields (asks_zero n)) i 0 < 256 ^ narrow
  fits zero = omega arith
  fits (suc zero) = omega arith
  fits (suc (suc zero)) = omega (arith, small n (gathered (λ h. true) n) (λ k e. (gathered-has (λ h. true) n k e).0), pow_mono most)
  fits (suc (suc (suc zero))) = omega arith
  fits (suc (suc (suc (suc i)))) = omega arith

  crowd_says : (h : ℕ) → h < n → says n (crowd_block n) h ≡ answer_of no_config (Ok (asks_zero n))
  crowd_says h h< = ap read_config (part_at (λ h. config_frame (asks_zero n)) (frame_len n) (λ h. length_config (asks_zero n)) n h h<) ∙ config_reads (asks_zero n) fits

  -- of a shelf whose ports are all operator 0's
  pub crowd_waits : (h : ℕ) → h < n → Waits n 0 (crowd_block n) h 0
  crowd_waits h h< = record {
    enabled = record {
      heard = ap (λ (a : Answer Config). a.number) (crowd_says h h<);
      not_by_two = λ g k g< k< p q.
          absurd (true≢false (sym (has-gathered (λ h. true) n h h<) ∙ sym (ap (λ (a : Answer Config). has a.fields.ben h) (crowd_says g g<)) ∙ p.clear));
    };
    asked = record { asked = ap (λ (a : Answer Config). has a.fields.req 0) (crowd_says h h<); allied = no_owners h ∙ sym (no_owners 0) };
    plans_nothing = λ u u< p. true≢false (sym p.planned ∙ ap (λ (a : Answer Config). has a.fields.pre u) (crowd_says h h<) ∙ has_none u);
    unplanned = λ g g< e p. true≢false (sym p.planned ∙ ap (λ (a : Answer Config). has a.fields.pre 0) (crowd_says g g<) ∙ has_none 0);
  }
