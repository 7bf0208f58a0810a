-- Rules 1 to 4: what the frames of a whole block say is what counts in the tables.
use mathlib.Core.Path.{◌≡◌, refl, sym, ap, ◌∙◌}
use mathlib.Core.Logic.{◌↔◌}
use mathlib.Core.Bool.{true, not}
use mathlib.Core.List.{List}
use Prim.Native.Nat.{ℕ, ◌+◌, ◌*◌, ◌≤◌, ◌<◌}
use native.Mathlib.Nat.{mod-lt}
use native.Mathlib.Omega.{arith}
use lib.ListN.{length, get_or, replicate}
use borrow.Author.Tests.{eqb-true, eq-eqb, le-ltb, lt-leb, not-true}
use Rattle.laws.specs.Sets.{has, asks, tabled}
use Rattle.laws.proofs.Tests.{both, every, refuted}
use Rattle.laws.proofs.Members.{gathered-has, has-gathered}
use Rattle.laws.proofs.Rows.{row-tabled}
use Rattle.refusals.specs.Numbers.{Answer}
use Rattle.frames.specs.Config.{read_config}
use Rattle.frames.specs.Part.{frame_len, host_number}
use Rattle.frames.specs.declared.config.Config.{Config}
use Rattle.frames.proofs.Trips.{zeros_unread}
use Rattle.ports.specs.declared.state.State.{State}
use Rattle.ports.specs.Owners.{among}
use Rattle.ports.proofs.Owners.{among-has, has-among}
use Rattle.hearing.specs.Heard.{clears, present, counted}
use Rattle.shelf.specs.Hosts.{said, is_heard, field_of, hosts_of}
use Rattle.demands.specs.Origin as tables
use Rattle.demands.specs.Share as tables-share
use Rattle.demands.specs.Choice.{target_start}
use Rattle.demands.specs.Block.{frame_part, says, Heard, Allied, Requests, Plans, Clears, Enabled, Waits, Given, Live}
use Rattle.demands.proofs.Hosts.{present_exactly, counted-asks, asks-counted}

-- A missing frame, eleven zeros, is unheard.
pub missing_unheard : (n : ℕ) (block : List ℕ) (h : ℕ) → frame_part n block h ≡ replicate (frame_len n) 0 → Heard n block h → ⊥
missing_unheard n block h missing heard =
    let nine = sym (ap (λ (s : List ℕ). (read_config s).number) missing ∙ zeros_unread) in
    omega arith

-- a block of n frames, on a shelf of at most m ports
pub record Whole (m n : ℕ) (block : List ℕ) : Type 0 where
  pub some_port : 1 ≤ n
  pub ports_at_most : n ≤ m
  pub whole_block : length block ≡ n * frame_len n

module _ {m n : ℕ} {block : List ℕ} (whole : Whole m n block) where
  abbrev heard : ℕ
  heard = (hosts_of m n block).heard

  abbrev ben : List ℕ
  ben = (hosts_of m n block).ben

  -- ---- rule 1

  pub said-says : (h : ℕ) → h < n → said m n block h ≡ says n block h
  unfolding said host_number
  said-says h h< =
      rw (le-ltb n 1 whole.some_port, le-ltb m n whole.ports_at_most, eq-eqb (length block) (n * frame_len n) whole.whole_block, lt-leb n h h<)

  pub heard_exactly : (h : ℕ) → h < n → (has heard h ≡ true) ↔ Heard n block h
  unfolding hosts_of
  heard_exactly h h< =
      let at = has-gathered (is_heard m n block) n h h< in
      let same = ap (λ (a : Answer Config). a.number) (said-says h h<) in
      (λ e. sym same ∙ eqb-true _ 0 (sym at ∙ e), λ e. at ∙ eq-eqb _ 0 (same ∙ e))

  field_row : (field : Config → ℕ) (h : ℕ) → h < n → get_or (tabled m (field_of m n block field) n) h 0 ≡ field (says n block h).fields
  field_row field h h< = row-tabled m (field_of m n block field) n h h< (omega (arith, whole.ports_at_most)) ∙ ap (λ (a : Answer Config). field a.fields) (said-says h h<)

  votes : (h : ℕ) → h < n → get_or ben h 0 ≡ (says n block h).fields.ben
  unfolding hosts_of
  votes = field_row (λ c. c.ben)

-- ---- rule 2, the shelf's ports having these owners

module _ (owners : ℕ) {m n : ℕ} {block : List ℕ} (whole : Whole m n block) where
  abbrev own_heard : ℕ → ℕ
  own_heard i = among owners i (heard whole)

  pub clears_exactly : (i h : ℕ) → h < n → (clears (own_heard i) (ben whole) i h ≡ true) ↔ Clears n owners block i h
  clears_exactly i h h< = (
    λ e. let (a, b) = both (has (own_heard i) h) _ e in
        let (a, o) = among-has owners i (heard whole) h a in
        record { heard = (heard_exactly whole h h<).0 a; allied = o; clear = ap (λ s. has s i) (sym (votes whole h h<)) ∙ not-true _ b },
    λ c. every (has-among owners i (heard whole) h c.allied ∙ (heard_exactly whole h h<).1 c.heard) (ap not (ap (λ s. has s i) (votes whole h h<) ∙ c.clear)),
  )

  pub enabled_exactly : (i : ℕ) → (present n (own_heard i) (ben whole) i ≡ true) ↔ ((i < n) × Enabled n owners block i)
  unfolding hosts_of
  enabled_exactly i = (to, from)
    where
      to : present n (own_heard i) (ben whole) i ≡ true → (i < n) × Enabled n owners block i
      to e =
          let (a, b) = (present_exactly n (own_heard i) (ben whole) i).0 e in
          let (a, _) = among-has owners i (heard whole) i a in
          let i< = (gathered-has (is_heard m n block) n i a).0 in
          (i<, record { heard = (heard_exactly whole i i<).0 a; not_by_two = λ g h g< h< p q. b g h g< h< ((clears_exactly i g g<).1 p) ((clears_exactly i h h<).1 q) })

      from : (i < n) × Enabled n owners block i → present n (own_heard i) (ben whole) i ≡ true
      from (i<, e) = (present_exactly n (own_heard i) (ben whole) i).1
          (has-among owners i (heard whole) i refl ∙ (heard_exactly whole i i<).1 e.heard, λ g h g< h< p q. e.not_by_two g h g< h< ((clears_exactly i g g<).0 p) ((clears_exactly i h h<).0 q))

  -- what counts of a field is what an enabled host sent, towards its own operator's ports
  counts : (field : Config → ℕ) (i t : ℕ)
      → (asks (counted n owners (heard whole) (ben whole) (tabled m (field_of m n block field) n)) i t ≡ true)
      ↔ ((i < n) × Enabled n owners block i × (has (field (says n block i).fields) t ≡ true) × Allied owners i t)
  counts field i t = (
    λ e. let (p, a, o) = counted-asks n owners (heard whole) (ben whole) _ i t e in
        let (i<, enabled) = (enabled_exactly i).0 p in
        (i<, enabled, ap (λ s. has s t) (sym (field_row whole field i i<)) ∙ a, o),
    λ (i<, enabled, a, o). asks-counted n owners (heard whole) (ben whole) _ i t i< ((enabled_exactly i).1 (i<, enabled))
        (ap (λ s. has s t) (field_row whole field i i<) ∙ a) o,
  )

  abbrev req : List ℕ
  req = counted n owners (heard whole) (ben whole) (hosts_of m n block).req

  abbrev pre : List ℕ
  pre = counted n owners (heard whole) (ben whole) (hosts_of m n block).pre

  pub requests_count : (i t : ℕ) → (asks req i t ≡ true) ↔ ((i < n) × Enabled n owners block i × Requests n owners block i t)
  unfolding hosts_of
  requests_count i t = (
    λ e. let (i<, enabled, a, o) = (counts (λ c. c.req) i t).0 e in (i<, enabled, record { asked = a; allied = o }),
    λ (i<, enabled, r). (counts (λ c. c.req) i t).1 (i<, enabled, r.asked, r.allied),
  )

  plans_count : (i t : ℕ) → (asks pre i t ≡ true) ↔ ((i < n) × Enabled n owners block i × Plans n owners block i t)
  unfolding hosts_of
  plans_count i t = (
    λ e. let (i<, enabled, a, o) = (counts (λ c. c.pre) i t).0 e in (i<, enabled, record { planned = a; allied = o }),
    λ (i<, enabled, r). (counts (λ c. c.pre) i t).1 (i<, enabled, r.planned, r.allied),
  )

  -- ---- demand 3

  pub waits_on_tables : (i t : ℕ) → i < n → Waits n owners block i t → tables-share.Waits n req pre i t
  waits_on_tables i t i< w = record {
    asked = (requests_count i t).1 (i<, w.enabled, w.asked);
    plans_nothing = λ u u<. refuted _ (λ e. w.plans_nothing u u< ((plans_count i u).0 e).2);
    unplanned = λ h h<. refuted _ (λ e. let (a, enabled, plans) = (plans_count h t).0 e in w.unplanned h h< enabled plans);
  }

-- ---- rules 3 and 4

module _ {m : ℕ} {st : State} {block : List ℕ} (whole : Whole m st.ports block) where
  pub given_exactly : (i t : ℕ) → tables.Given st (pre st.owners whole) i t ↔ Given st block i t
  given_exactly i t = (
    λ g. let (i<, enabled, plans) = (plans_count st.owners whole i t).0 g.claimant.asks_too in
        record {
          initiator = i<;
          target = g.target;
          claimant = record { enabled = enabled; plans = plans };
          turn = g.claimant.turn;
          turn_below = g.claimant.turn_below;
          in_turn = g.claimant.in_turn;
          first = λ k l q. g.claimant.first k l ((plans_count st.owners whole _ t).1 (mod-lt (target_start st t + k) whole.some_port, q.enabled, q.plans)) refl;
        },
    λ g. record {
      target = g.target;
      claimant = record {
        below = g.initiator;
        asks_too = (plans_count st.owners whole i t).1 (g.initiator, g.claimant.enabled, g.claimant.plans);
        lowest = λ x x< e. omega arith;
        turn = g.turn;
        turn_below = g.turn_below;
        in_turn = g.in_turn;
        first = λ k l e same. let (a, enabled, plans) = (plans_count st.owners whole _ t).0 e in g.first k l (record { enabled = enabled; plans = plans });
      };
    },
  )

  pub live_exactly : (i t : ℕ) → tables.Live st (req st.owners whole) (pre st.owners whole) i t ↔ Live st block i t
  live_exactly i t = (
    λ l. let (i<, enabled, asked) = (requests_count st.owners whole i t).0 l.asked in
        record {
          initiator = i<;
          target = l.target;
          enabled = enabled;
          asked = asked;
          given_none = λ u g. l.given_none u ((given_exactly i u).1 g);
          given_to_none = λ j g. l.given_to_none j ((given_exactly j t).1 g);
        },
    λ l. record {
      initiator = l.initiator;
      target = l.target;
      asked = (requests_count st.owners whole i t).1 (l.initiator, l.enabled, l.asked);
      given_none = λ u g. l.given_none u ((given_exactly i u).0 g);
      given_to_none = λ j g. l.given_to_none j ((given_exactly j t).0 g);
    },
  )
