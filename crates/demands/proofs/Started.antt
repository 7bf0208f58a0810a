-- A fresh state is in order, and the slot that the caller named is the first that it serves.
use mathlib.Core.Path.{◌≡◌, ap, ◌∙◌}
use mathlib.Core.List.{List}
use Prim.Native.Nat.{ℕ, ◌*◌, ◌^◌, ◌≤◌, ◌<◌}
use lib.ListN.{length, get_or}
use Rattle.frames.specs.Part.{frame_len, told_len}
use Rattle.refusals.specs.Numbers.{Answer}
use Rattle.ports.specs.declared.state.State.{State}
use Rattle.ports.specs.Ready.{fresh}
use Rattle.ports.proofs.Started.{fresh_is}
use Rattle.demands.specs.Refusal.{InOrder}
use Rattle.demands.specs.Numbers.{WrongLimit}
use Rattle.demands.specs.SlotCall.{SlotCall, number}
use Rattle.demands.proofs.SlotRefusal.{served_when_due}
use Rattle.demands.proofs.SlotServed.{served-in_order}

module _ (m n due : ℕ) (operators : List ℕ) (some : 1 ≤ n) (most : n ≤ m) (operated : (p : ℕ) → p < n → get_or operators p 0 ≤ 1) where
  pub fresh-in_order : InOrder m (fresh m n due operators).fields
  fresh-in_order = rw (fresh_is operators m n due some most operated) (record { some_port = some; ports_at_most = most; offsets = record { initiator = some; target = some } })

  -- a call in order is served in that slot, and none in another
  pub fresh_serves : (c : SlotCall) → c.slot ≡ due → (WrongLimit m c.mode → ⊥) → length c.block ≡ n * frame_len n → n * told_len n ≤ length c.out
      → number m (fresh m n due operators).fields c ≡ 0
  fresh_serves c named limit block out =
      let is = fresh_is operators m n due some most operated in
      served-in_order m (fresh m n due operators).fields c fresh-in_order (rw is named) limit (rw is block) (rw is out)

  pub fresh_serves_only : (c : SlotCall) → c.slot < 2 ^ 32 → due < 2 ^ 32 → number m (fresh m n due operators).fields c ≡ 0 → c.slot ≡ due
  fresh_serves_only c slot< due< done =
      let named = ap (λ (f : Answer State). f.fields.due) (fresh_is operators m n due some most operated) in
      served_when_due m (fresh m n due operators).fields c slot< (rw named due<) done ∙ named
