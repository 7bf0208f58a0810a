-- No conflict-free set of a slot's live requests has more than twice as many pairs as the slot joins after its planned stage.
use mathlib.Core.Path.{◌≡◌, sym, ap, subst₂, ◌∙◌}
use mathlib.Core.Logic.{◌⊎◌, inl, inr, ⊎_elim, ◌↔◌}
use mathlib.Core.Bool.{Bool, true, false, not, ◌&&◌, true≢false}
use mathlib.Core.List.Memᴰ
use mathlib.Core.List.{List, Memᴰ}
use Prim.Native.Nat.{ℕ, ◌≤◌, ◌<◌}
use native.Mathlib.Omega.{arith}
use lib.ListN.{length, length-map}
use borrow.Author.Tests.{not-true}
use Rattle.laws.specs.Sets.{asks}
use Rattle.laws.proofs.Tests.{both, every, refuted}
use Rattle.ports.specs.declared.state.State.{State}
use Rattle.ports.specs.declared.state.Mode.{Mode}
use Rattle.planned.specs.Planned.{start}
use Rattle.demands.specs.Call as tables
use Rattle.demands.specs.Origin.{Given, Live}
use Rattle.demands.specs.Progress.{Full}
use Rattle.demands.specs.SlotCall.{SlotCall, number, sets, on_tables}
use Rattle.demands.specs.Block as frames
use Rattle.demands.proofs.Connections.{nothing_from_nowhere}
use Rattle.demands.proofs.Calls.{served_call}
use Rattle.demands.proofs.NoneLeft.{busy_on_tables}
use Rattle.demands.proofs.SlotCalls.{request_rows, whole, same_number, same_sets}
use Rattle.demands.proofs.SlotHosts.{given_exactly, live_exactly}
use Rattle.demands.proofs.Stage.{start_held, given_held}
use Rattle.best.specs.Pairs.{Pair, initiators, targets, Exactly}
use Rattle.best.specs.Best.{Joined, AtMost, Enough, EnoughOnTables, factor, Compared}
use Rattle.best.proofs.Counting.{meets}
use Rattle.best.proofs.Listed.{listed, listed_exactly}
use Rattle.best.proofs.Alike.{at_most_alike, compared_alike}

-- ---- on tables

-- in the table, and not held after the planned stage
abbrev pub joins : ℕ → State → tables.Call → ℕ → ℕ → Bool
joins m st c i t = asks (tables.sets m st c) i t && not (asks (start st c.req c.pre).held i t)

module _ (m : ℕ) (st : State) (c : tables.Call) (done : tables.number m st c ≡ 0) (rows : st.ports ≤ length c.req) where
  abbrev table : List ℕ
  table = tables.sets m st c

  abbrev planned : List ℕ
  planned = (start st c.req c.pre).held

  -- what the slot joins after its planned stage, in a list
  pub joined-listed : Exactly (Joined (Given st c.pre) (tables.sets m st c)) (listed (joins m st c) st.ports)
  joined-listed = listed_exactly (joins m st c) st.ports _ (served_call m st c done).in_order.some_port (λ i t. (to i t, from i t))
    where
      to : (i t : ℕ) → Joined (Given st c.pre) table i t → (i < st.ports) × (t < st.ports) × (joins m st c i t ≡ true)
      to i t j =
          let free : asks planned i t ≡ false = refuted _ (λ e. j.not_given (start_held st c.req c.pre i t e)) in
          ⊎_elim
          (λ g. absurd (j.not_given g))
          (λ (live, alone). (live.initiator, live.target, every j.connected (ap not free)))
          (nothing_from_nowhere m st c i t j.connected)

      from : (i t : ℕ) → (i < st.ports) × (t < st.ports) × (joins m st c i t ≡ true) → Joined (Given st c.pre) table i t
      from i t (i<, t<, e) =
          let (held, free) = both (asks table i t) _ e in
          record { connected = held; not_given = λ g. true≢false (sym (given_held st c.req c.pre i t (omega arith) g) ∙ not-true _ free) }

  -- every live request shares its row or its column with a joined pair, and each joined pair meets at most two
  twice : Full st.ports c.mode → AtMost factor (Live st c.req c.pre) (Given st c.pre) table
  twice full = record {
    joined = joined;
    exactly = joined-listed;
    at_most = λ pairs free. omega (
      arith,
      meets pairs (initiators joined) (targets joined) free.no_initiator_twice free.no_target_twice (λ i t m. shares i t (free.live i t m)),
      length-map joined (λ (p : Pair). p.0),
      length-map joined (λ (p : Pair). p.1),
    );
  }
    where
      joined : List Pair
      joined = listed (joins m st c) st.ports

      shares : (i t : ℕ) → Live st c.req c.pre i t → Memᴰ i (initiators joined) ⊎ Memᴰ t (targets joined)
      shares i t live = ⊎_elim
          (λ (u, e). inl (Memᴰ.map (λ (p : Pair). p.0) (joined-listed.all i u (record { connected = e; not_given = live.given_none u }))))
          (λ (j, e). inr (Memᴰ.map (λ (p : Pair). p.1) (joined-listed.all j t (record { connected = e; not_given = live.given_to_none j }))))
          (busy_on_tables i t m st c done full rows live.initiator live.target live.asked)

pub half_on_tables : (m n : ℕ) (mode : Mode) → Full n mode → EnoughOnTables m n mode factor
half_on_tables m n mode full st c ports in_mode done rows = twice m st c done (rw ports rows) (subst₂ Full (sym ports) (sym in_mode) full)

-- ---- on frames

-- a served slot call is the call on tables that it comes to
module _ (m : ℕ) (st : State) (c : SlotCall) (done : number m st c ≡ 0) where
  pub rows_there : st.ports ≤ length (on_tables m st c).req
  rows_there = rw (request_rows m st c) (whole m st c done).ports_at_most

  same_live : (i t : ℕ) → Live st (on_tables m st c).req (on_tables m st c).pre i t ↔ frames.Live st c.block i t
  same_live = live_exactly (whole m st c done)

  same_joined : (i t : ℕ) → Joined (Given st (on_tables m st c).pre) (tables.sets m st (on_tables m st c)) i t ↔ Joined (frames.Given st c.block) (sets m st c) i t
  same_joined i t = (
    λ j. record { connected = ap (λ s. asks s i t) same ∙ j.connected; not_given = λ g. j.not_given (given.1 g) },
    λ j. record { connected = ap (λ s. asks s i t) (sym same) ∙ j.connected; not_given = λ g. j.not_given (given.0 g) },
  )
    where
      same : sets m st c ≡ tables.sets m st (on_tables m st c)
      same = same_sets m st c done

      given : Given st (on_tables m st c).pre i t ↔ frames.Given st c.block i t
      given = given_exactly (whole m st c done) i t

  pub compared_on_frames : (could did : ℕ)
      → Compared (Live st (on_tables m st c).req (on_tables m st c).pre) (Given st (on_tables m st c).pre) (tables.sets m st (on_tables m st c)) could did
      → Compared (frames.Live st c.block) (frames.Given st c.block) (sets m st c) could did
  compared_on_frames = compared_alike same_live same_joined

-- so what is enough on tables is enough
pub enough_on_frames : (m n : ℕ) (mode : Mode) (k : ℕ) → EnoughOnTables m n mode k → Enough m n mode k
enough_on_frames m n mode k enough st c ports in_mode done =
    at_most_alike (same_live m st c done) (same_joined m st c done) k
    (enough st (on_tables m st c) ports in_mode (same_number m st c done) (rw (← ports) (rows_there m st c done)))

pub half : (m n : ℕ) (mode : Mode) → Full n mode → Enough m n mode factor
half m n mode full = enough_on_frames m n mode factor (half_on_tables m n mode full)
