-- A cross: live requests in one row and one column alone, others than the one where they meet in both.
use Rattle.std.specs.Prelude.{◌≡◌, ◌⊎◌, ◌≢◌, List, [], ◌∷◌, ℕ, ◌*◌, get_or, replicate}
use Rattle.laws.specs.Parts.{parts}
use Rattle.frames.specs.Config.{config_frame}
use Rattle.frames.specs.Part.{told_len}
use Rattle.frames.specs.declared.config.Config.{Config}
use Rattle.ports.specs.declared.state.State.{State}
use Rattle.ports.specs.declared.state.Mode.{Mode}
use Rattle.demands.specs.SlotCall.{SlotCall}

pub record Cross (Live : ℕ → ℕ → Type 0) (i t : ℕ) : Type 0 where
  pub centre : Live i t
  pub other_target : ℕ
  pub in_row : Live i other_target
  pub apart_in_row : other_target ≢ t
  pub other_initiator : ℕ
  pub in_column : Live other_initiator t
  pub apart_in_column : other_initiator ≢ i
  pub only : (j u : ℕ) → Live j u → (j ≡ i) ⊎ (u ≡ t)

-- the smallest one: host 0 asks for targets 0 and 1, host 1 for target 0, the others for nothing; nothing is planned, and neither is disabled
abbrev pub cross_host : ℕ → Config
cross_host h = record { req = get_or (3 ∷ 1 ∷ []) h 0; pre = 0; ben = 3; qen = 0 }

abbrev pub cross_block : ℕ → List ℕ
cross_block n = parts (λ h. config_frame (cross_host h)) n

-- at offsets (0, 0), in the slot due, with just as much output as is needed
abbrev pub cross_state : ℕ → State
cross_state n = record { ports = n; initiator = record { 0 = 0 }; target = record { 0 = 0 }; due = 0; owners = 0 }

abbrev pub cross_call : ℕ → Mode → SlotCall
cross_call n mode = record { slot = 0; mode = mode; block = cross_block n; link = 0; out = replicate (n * told_len n) 0 }
