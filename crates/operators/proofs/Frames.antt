-- Slot calls on frames: whatever the other operator's hosts send, an operator's own slots are the same to it.
use mathlib.Core.Path.{◌≡◌, refl, sym, ap, ◌∙◌}
use mathlib.Core.Bool.{Bool, true, false, cond}
use mathlib.Core.List.{List}
use Prim.Native.Nat.{ℕ, ◌≤◌, ◌<◌}
use native.Mathlib.Decide.{ℕ_discrete}
use lib.Dec.{eqb}
use lib.ListN.{get_or}
use Rattle.laws.specs.Sets.{has, tabled}
use Rattle.laws.proofs.Rows.{length_tabled}
use Rattle.refusals.specs.Numbers.{Answer}
use Rattle.frames.specs.Part.{most_ports, host_number}
use Rattle.frames.specs.declared.config.Config.{Config}
use Rattle.ports.specs.Owners.{of}
use Rattle.ports.specs.Due.{declined}
use Rattle.ports.specs.declared.state.State.{State}
use Rattle.hearing.specs.Heard.{counted}
use Rattle.shelf.specs.Hosts.{said, is_heard, field_of, hosts_of}
use Rattle.shelf.specs.Grants.{grant_of}
use Rattle.shelf.specs.Step.{refusal, slot_on_hosts, stepped}
use Rattle.shelf.specs.declared.hosts.Hosts.{Hosts}
use Rattle.demands.specs.SlotCall.{SlotCall, called, number, output_after}
use Rattle.demands.specs.SlotShare.{grant_part}
use Rattle.demands.proofs.SlotGrants.{in_place, beyond_untouched}
use Rattle.demands.proofs.SlotRefusal.{declined_does_nothing}
use Rattle.operators.specs.Unaffected.{SameFrames, SameToIt, Unaffected, SeenAlike}
use Rattle.operators.proofs.Agreeing.{tabled-agrees, member_agrees}
use Rattle.operators.proofs.Alike.{Agree}
use Rattle.operators.proofs.Modes.{tables_unaffected}
use Rattle.operators.proofs.Narrowed.{counted_agree}

module _ (own : ℕ → Bool) (m n : ℕ) (block block' : List ℕ) (same : SameFrames own n block block') where
  said_alike : (h : ℕ) → h < n → own h ≡ true → said m n block h ≡ said m n block' h
  unfolding said host_number
  said_alike h l o = rw (same.as_long, same.frames h l o)

  heard_alike : (h : ℕ) → h < n → own h ≡ true → has (hosts_of m n block).heard h ≡ has (hosts_of m n block').heard h
  unfolding hosts_of
  heard_alike h l o = member_agrees (is_heard m n block) (is_heard m n block') n h (λ l. ap (λ (a : Answer Config). eqb a.number 0) (said_alike h l o))

  fields_alike : (field : Config → ℕ) (h : ℕ) → h < n → own h ≡ true → get_or (tabled m (field_of m n block field) n) h 0 ≡ get_or (tabled m (field_of m n block' field) n) h 0
  fields_alike field h l o = tabled-agrees m _ _ n h (λ l. ap (λ (a : Answer Config). field a.fields) (said_alike h l o))

module _ (a m : ℕ) (st : State) (c d : SlotCall) (same : SameToIt (of st.owners a) st.ports c d) where
  -- the ports of operator a
  abbrev own : ℕ → Bool
  own = of st.owners a

  abbrev hosts : SlotCall → Hosts
  hosts c = hosts_of m st.ports c.block

  -- what counts of a field
  abbrev counts : SlotCall → (Config → ℕ) → List ℕ
  counts c field = counted st.ports st.owners (hosts c).heard (hosts c).ben (tabled m (field_of m st.ports c.block field) st.ports)

  counts_agree : (field : Config → ℕ) → Agree own (counts c field) (counts d field)
  unfolding hosts_of
  counts_agree field = counted_agree st.owners a st.ports _ _ _ _ (heard_alike own m st.ports c.block d.block same.frames)
      (fields_alike own m st.ports c.block d.block same.frames (λ c. c.ben)) _ _
      (length_tabled m _ _ ∙ sym (length_tabled m _ _)) (fields_alike own m st.ports c.block d.block same.frames field)

  same_refusal : refusal m st c.slot c.mode c.block c.out ≡ refusal m st d.slot d.mode d.block d.out
  unfolding refusal
  same_refusal = rw (same.slot, same.mode, same.frames.as_long, same.room)

  hosts_unaffected : Unaffected own (slot_on_hosts m st c.slot c.mode (hosts c)) (slot_on_hosts m st d.slot d.mode (hosts d))
  unfolding slot_on_hosts hosts_of
  hosts_unaffected = rw (same.slot, same.mode) (tables_unaffected own st m d.slot d.mode _ _ _ _ (counts_agree (λ c. c.req)) (counts_agree (λ c. c.pre)))

  -- The number, the next state and the operator's connections are the same whatever the other operator's frames hold.
  pub non_interference : Unaffected own (called m st c) (called m st d)
  unfolding stepped
  non_interference = rw same_refusal (go (eqb refused 0))
    where
      refused : ℕ
      refused = refusal m st d.slot d.mode d.block d.out

      go : (b : Bool) → Unaffected own (cond b (slot_on_hosts m st c.slot c.mode (hosts c)) (declined m st refused)) (cond b (slot_on_hosts m st d.slot d.mode (hosts d)) (declined m st refused))
      go true = hosts_unaffected
      go false = record { number = refl; state = refl; sets = λ i o. refl; as_long = refl }

  -- So are the bytes of its hosts' grant frames in a served slot, whatever the output held.
  pub same_grants : m ≤ most_ports → number m st c ≡ 0 → (i : ℕ) → i < st.ports → own i ≡ true → grant_part st.ports (output_after m st c) i ≡ grant_part st.ports (output_after m st d) i
  unfolding grant_of
  same_grants most done i i< o =
      in_place m most st c done i i<
      ∙ rw (non_interference.sets i o, heard_alike own m st.ports c.block d.block same.frames i i< o, same.link) refl
      ∙ sym (in_place m most st d (sym non_interference.number ∙ done) i i<)

  -- And in every slot, served or declined, what it sees of the output is the same if it was so before.
  pub same_output : m ≤ most_ports → SeenAlike own st.ports c.out d.out → SeenAlike own st.ports (output_after m st c) (output_after m st d)
  same_output most before = record {
    grants = λ i i< o. go i i< o (ℕ_discrete (number m st c) 0);
    rest = beyond_untouched m st c ∙ before.rest ∙ sym (beyond_untouched m st d);
  }
    where
      go : (i : ℕ) → i < st.ports → own i ≡ true → Dec (number m st c ≡ 0) → grant_part st.ports (output_after m st c) i ≡ grant_part st.ports (output_after m st d) i
      go i i< o (yes done) = same_grants most done i i< o
      go i i< o (no some) =
          rw ((declined_does_nothing m st c some).1, (declined_does_nothing m st d (λ e. some (non_interference.number ∙ e))).1) (before.grants i i< o)
