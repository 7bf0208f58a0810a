-- Diagonal first, the share: of slot calls on frames, of the card's lent calls and of C calls.
use mathlib.Core.Path.{◌≡◌}
use mathlib.Core.List.{List}
use Prim.Native.Nat.{ℕ, ◌≤◌, ◌<◌}
use native.Mathlib.Omega.{arith}
use borrow.Author.Tests.{eq-eqb, ne_eqb, eqb-true}
use Rattle.laws.specs.Bytes.{Bytes}
use Rattle.frames.specs.Part.{most_ports}
use Rattle.ports.specs.Modes.{diagonal_mode, mode_of}
use Rattle.ports.specs.declared.state.State.{State}
use Rattle.ports.specs.declared.state.Mode.TheVariants.{Diagonal}
use Rattle.demands.specs.History.{Below, how_many, InEach, InServed, ByValue, Fair}
use Rattle.demands.specs.SlotCall as frames
use Rattle.demands.specs.SlotShare as at_frames
use Rattle.demands.specs.LentCall as lent
use Rattle.demands.proofs.Calls.{served_call}
use Rattle.demands.proofs.Turns.{by_value}
use Rattle.demands.proofs.SlotCalls.{whole, same_number}
use Rattle.demands.proofs.SlotHosts.{waits_on_tables}
use Rattle.demands.proofs.SlotShare.{connects_named, slots_move}
use Rattle.demands.proofs.LentHistory.{lent_fair}
use Rattle.table_bytes.specs.State.{state_of}
use Rattle.promised.specs.Call as c
use Rattle.promised.specs.Share as on_bytes
use Rattle.promised.proofs.Histories.{all_on_bytes, c_fair}
use Rattle.diagonals.specs.Share.{Waiting, LentWaiting, CWaiting, one_in_any, n_in_any}
use Rattle.diagonals.proofs.Diagonal.{OnDiagonal, on_below, diagonal-connects}
use Rattle.diagonals.proofs.Aligned.{fair_once, fair_n_times}

module _ (m : ℕ) (most : m ≤ most_ports) (i t : ℕ) where
  pub slots_diagonal : Fair (λ st. st) ByValue (frames.next m) (frames.served m) (at_frames.connects m i t) (Waiting i t) (OnDiagonal i t)
  slots_diagonal = record {
    moves = slots_move m;
    favours = λ st c k e (mode, w) on.
        let done = eqb-true (frames.number m st c) 0 e in
        let at_tables = same_number m st c done in
        let r = served_call m st (frames.on_tables m st c) at_tables in
        let (i<, _) = on_below i t st on in
        let hit = diagonal-connects st _ _ i t r.in_order.offsets on (waits_on_tables st.owners (whole m st c done) i t i< w) in
        connects_named m most st c i t i< done w (rw (eq-eqb _ 0 at_tables, r.sets-matched, mode) hit);
  }

  -- Slot calls on frames; the grant frame of the pair's host says so each time.
  module _ (st : State) (calls : List frames.SlotCall) (b : Below st) (i< : i < st.ports) (t< : t < st.ports)
      (w : InServed (frames.next m) (frames.served m) (Waiting i t) st calls) where
    pub once : one_in_any st.ports (how_many (frames.next m) (frames.served m) st calls) ≤ how_many (frames.next m) (at_frames.connects m i t) st calls
    once = fair_once slots_diagonal st calls (by_value (frames.next m) calls st) b i< t< w

    pub n_times : n_in_any st.ports (how_many (frames.next m) (frames.served m) st calls) ≤ how_many (frames.next m) (at_frames.connects m i t) st calls
    n_times = fair_n_times slots_diagonal st calls (by_value (frames.next m) calls st) b i< t< w

  -- The card's calls, lent the state and the output.
  module _ (st : State) (calls : List lent.LentCall) (kept : InEach lent.next (lent.Kept m) st calls) (b : Below st) (i< : i < st.ports) (t< : t < st.ports)
      (w : InServed lent.next lent.served (LentWaiting i t) st calls) where
    pub lent_once : one_in_any st.ports (how_many lent.next lent.served st calls) ≤ how_many lent.next (lent.connects i t) st calls
    lent_once = fair_once (lent_fair m i t slots_diagonal) st calls kept b i< t< w

    pub lent_n_times : n_in_any st.ports (how_many lent.next lent.served st calls) ≤ how_many lent.next (lent.connects i t) st calls
    lent_n_times = fair_n_times (lent_fair m i t slots_diagonal) st calls kept b i< t< w

  -- C calls: in the bytes of the table and of the output.
  diagonal_mode_lem : (mode : ℕ) → mode ≡ diagonal_mode m → mode_of m mode ≡ Diagonal
  unfolding mode_of
  diagonal_mode_lem mode e = rw (ne_eqb mode 0 (λ z. omega arith), eq-eqb mode (diagonal_mode m) e)

  pub c_diagonal : Fair state_of (c.OnBytes m) c.next c.served (on_bytes.connects i t) (CWaiting m i t) (OnDiagonal i t)
  c_diagonal =
      let fair = c_fair m most i t slots_diagonal in
      record { moves = fair.moves; favours = λ state d kept e (mode, w) on. fair.favours state d kept e (diagonal_mode_lem d.handed.mode mode, w) on }

  module _ (state : List ℕ) (bytes : Bytes state) (calls : List c.CCall) (kept : InEach c.next (c.Kept m) state calls) (b : Below (state_of state)) (i< : i < (state_of state).ports) (t< : t < (state_of state).ports)
      (w : InServed c.next c.served (CWaiting m i t) state calls) where
    pub c_once : one_in_any (state_of state).ports (how_many c.next c.served state calls) ≤ how_many c.next (on_bytes.connects i t) state calls
    c_once = fair_once c_diagonal state calls (all_on_bytes m most calls state bytes kept) b i< t< w

    pub c_n_times : n_in_any (state_of state).ports (how_many c.next c.served state calls) ≤ how_many c.next (on_bytes.connects i t) state calls
    c_n_times = fair_n_times c_diagonal state calls (all_on_bytes m most calls state bytes kept) b i< t< w
