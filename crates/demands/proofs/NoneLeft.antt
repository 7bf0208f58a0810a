-- The central and the diagonal-first form, and a limit of n or more, leave no request open: its initiator holds a target, or its target is held.
use mathlib.Core.Path.{◌≡◌, ◌∙◌}
use mathlib.Core.Logic.{◌⊎◌, inl, inr, ⊎_elim}
use mathlib.Core.Bool.{true}
use mathlib.Core.List.{List}
use Prim.Native.Nat.{ℕ, ◌≤◌, ◌<◌}
use native.Mathlib.Nat.{lt_of_lt_of_le}
use native.Mathlib.Decide.{ℕ_discrete}
use native.Mathlib.Omega.{arith}
use lib.ListN.{length, length-replicate}
use Rattle.laws.specs.Sets.{asks}
use Rattle.ports.specs.Tables.{within}
use Rattle.ports.specs.declared.state.State.{State}
use Rattle.ports.specs.declared.state.Mode.{Mode}
use Rattle.ports.specs.declared.state.Mode.TheVariants.{Central, Distributed, Diagonal}
use Rattle.choices.specs.Join.{join}
use Rattle.planned.specs.Planned.{planner, start}
use Rattle.lcf.specs.Slot.{diagonal_first, serve_mode, matched}
use Rattle.choices.specs.declared.work.Work.{Work}
use Rattle.demands.specs.Call as tables
use Rattle.demands.specs.SlotCall.{SlotCall, number, sets, on_tables}
use Rattle.demands.specs.Block.{Asks}
use Rattle.demands.specs.History.{Below}
use Rattle.demands.specs.Rounds.{SomeLive}
use Rattle.demands.specs.Progress.{Within, Full, Busy}
use Rattle.demands.proofs.Join.{left_live, held_still, held_now, held_length}
use Rattle.demands.proofs.Keeps.{diagonal_keeps, mode_keeps, planned_keeps}
use Rattle.demands.proofs.Stage.{within-asks, asks-within}
use Rattle.demands.proofs.Progress.{join-within, start-within}
use Rattle.demands.proofs.Cleared.{central_leaves_none}
use Rattle.demands.proofs.Rounds.{none_live_left}
use Rattle.demands.proofs.Calls.{served_call}
use Rattle.demands.proofs.SlotCalls.{request_rows, whole, same_number, same_sets}
use Rattle.demands.proofs.SlotHosts.{requests_count}

-- no live request is left
pub leaves_none : (st : State) (req pre : List ℕ) → st.ports ≤ length req → Below st → (mode : Mode) → Full st.ports mode
    → SomeLive st.ports (matched st mode req pre).work.live → ⊥
unfolding matched serve_mode diagonal_first
leaves_none st req pre rows b Central full = central_leaves_none st (start st req pre) (start-within st req pre rows) b.target
leaves_none st req pre rows b (Distributed limit) full = none_live_left st req pre rows limit full
leaves_none st req pre rows b Diagonal full =
    central_leaves_none st _ (diagonal_keeps (Within st.ports) (join-within st) st (start st req pre) (start-within st req pre rows)) b.target

module _ (i t : ℕ) where
  -- the request of i for t is live, or i or t is busy
  abbrev Lives : Work → Type 0
  Lives s = (asks s.live i t ≡ true) ⊎ Busy s.held i t

  join_lives : (s : Work) (w c : ℕ) → w < length s.held → Lives s → Lives (join s w c)
  join_lives s w c row = ⊎_elim (λ x. here x (ℕ_discrete i w) (ℕ_discrete t c)) (λ b. inr (still b))
    where
      held : asks (join s w c).held w c ≡ true
      held = held_now s w c row

      here : asks s.live i t ≡ true → Dec (i ≡ w) → Dec (t ≡ c) → Lives (join s w c)
      here x (yes e) d = inr (inl (c, rw e held))
      here x (no n) (yes e) = inr (inr (w, rw e held))
      here x (no n) (no k) = inl (left_live s w c i t (record { was = x; other_row = n; other_column = k }))

      still : Busy s.held i t → Busy (join s w c).held i t
      still (inl (u, x)) = inl (u, held_still s w c i u x)
      still (inr (j, x)) = inr (j, held_still s w c j t x)

  module _ (st : State) (req pre : List ℕ) (rows : st.ports ≤ length req) (i< : i < st.ports) (t< : t < st.ports) (asked : asks req i t ≡ true) where
    -- so it is after the planned stage
    start_lives : Lives (start st req pre)
    unfolding start
    start_lives = (planned_keeps (λ k u. (length u.held ≡ length req) × Lives u) st _ _
        (λ c u c< e (l, x).
        let w = planner st (within st.ports pre) c in
        (held_length u w c ∙ l, join_lives u w c (omega (arith, l, (within-asks st.ports pre w c e).0)) x))
        (λ c u e x. x) (length-replicate {A = ℕ} (length req) 0, inl (asks-within st.ports req i t i< t< asked))).1

    -- and at the end nothing is live
    matched_busy : (mode : Mode) → Full st.ports mode → Below st → Busy (matched st mode req pre).work.held i t
    unfolding matched
    matched_busy mode full b = ⊎_elim
        (λ live. absurd (leaves_none st req pre rows b mode full (record { initiator = i; target = t; below = i<; asked = live }))) (λ busy. busy)
        (mode_keeps (λ u. Within st.ports u × Lives u)
        (λ s w c live (h, x). (join-within st s w c live h, join_lives s w c (lt_of_lt_of_le (h.inside w c live).0 h.room) x))
        st mode (start st req pre) (start-within st req pre rows, start_lives)).1

  -- On tables, and on frames.
  module _ (m : ℕ) (st : State) where
    pub busy_on_tables : (c : tables.Call) → tables.number m st c ≡ 0 → Full st.ports c.mode → st.ports ≤ length c.req
        → i < st.ports → t < st.ports → asks c.req i t ≡ true → Busy (tables.sets m st c) i t
    busy_on_tables c done full rows i< t< asked =
        let r = served_call m st c done in
        rw r.sets-matched (matched_busy st c.req c.pre rows i< t< asked c.mode full r.in_order.offsets)

    -- Every request of an enabled heard host is connected, or its initiator holds another target, or its target another initiator.
    pub busy_in_block : (c : SlotCall) → number m st c ≡ 0 → Full st.ports c.mode → Asks st.ports st.owners c.block i t → Busy (sets m st c) i t
    busy_in_block c done full a =
        let block = whole m st c done in
        rw (same_sets m st c done)
        (busy_on_tables (on_tables m st c) (same_number m st c done) full (rw (request_rows m st c) block.ports_at_most) a.initiator a.target
        ((requests_count st.owners block i t).1 (a.initiator, a.enabled, a.asked)))
