-- One bad host does not silence the shelf: a host by itself, whatever it votes, disables nobody.
use mathlib.Core.Path.{◌≡◌, refl, sym, ap, ap₂, ◌∙◌}
use mathlib.Core.Bool.{Bool, true, false, cond}
use mathlib.Core.List.{List}
use Prim.Native.Nat.{ℕ, ◌<◌}
use native.Mathlib.Decide.{ℕ_discrete}
use native.Mathlib.Omega.{arith}
use lib.Dec.{eqb}
use borrow.Author.Tests.{eqb-true}
use Rattle.laws.specs.Sets.{has, tabled}
use Rattle.laws.proofs.Loops.{same_steps}
use Rattle.laws.proofs.Tests.{refuted}
use Rattle.refusals.specs.Numbers.{Answer as Read}
use Rattle.frames.specs.declared.config.Config.{Config}
use Rattle.ports.specs.Due.{declined}
use Rattle.ports.specs.declared.state.State.{State}
use Rattle.ports.specs.declared.state.Mode.{Mode}
use Rattle.ports.specs.Answer.{Answer}
use Rattle.ports.specs.Owners.{among}
use Rattle.hearing.specs.Heard.{present, counted}
use Rattle.lcf.specs.Slot.{slot_on_tables}
use Rattle.shelf.specs.Hosts.{field_of, hosts_of}
use Rattle.shelf.specs.Grants.{granted}
use Rattle.shelf.specs.Step.{refusal, slot_on_hosts, stepped, output}
use Rattle.shelf.proofs.Refusals.{taken}
use Rattle.demands.specs.Block.{says, Heard, Clears, Enabled}
use Rattle.demands.specs.OneHost.{VoteAlone}
use Rattle.demands.proofs.Hosts.{one_disables_nobody}
use Rattle.demands.proofs.SlotCalls.{whole}
use Rattle.demands.proofs.SlotHosts.{Whole, said-says, clears_exactly}

-- With one port nobody is disabled.
pub one_port_enabled : (owners : ℕ) (block : List ℕ) → Heard 1 block 0 → Enabled 1 owners block 0
one_port_enabled owners block h = record { heard = h; not_by_two = λ x y x< y< p q. omega arith }

module _ {m n owners g : ℕ} {a b : List ℕ} (first : Whole m n a) (alone : VoteAlone n owners g a b) where
  second : Whole m n b
  second = record { some_port = first.some_port; ports_at_most = first.ports_at_most; whole_block = sym alone.same_length ∙ first.whole_block }

  -- what two frames have in common, g's and any other's
  in_common : {A : Type 0} (f : Read Config → A) → f (says n a g) ≡ f (says n b g) → (h : ℕ) → h < n → f (says n a h) ≡ f (says n b h)
  in_common f at_g h h< = go (ℕ_discrete h g)
    where
      go : Dec (h ≡ g) → f (says n a h) ≡ f (says n b h)
      go (yes e) = rw e at_g
      go (no e) = ap f (alone.others_same h h< e)

  heard_same : (hosts_of m n a).heard ≡ (hosts_of m n b).heard
  unfolding hosts_of
  heard_same = same_steps _ _ 0 n (λ h s h<. rw (said-says first h h<, said-says second h h<, in_common (λ x. x.number) alone.same_number h h<))

  rows_same : (field : Config → ℕ) → field (says n a g).fields ≡ field (says n b g).fields → tabled m (field_of m n a field) n ≡ tabled m (field_of m n b field) n
  rows_same field at_g = same_steps _ _ _ n (λ h s h<. rw (said-says first h h<, said-says second h h<, in_common (λ x. field x.fields) at_g h h<))

  -- who is present is who is heard, in both
  nobody_disabled : {c : List ℕ} (whole : Whole m n c) → ((h i : ℕ) → h < n → i < n → (h ≡ g → ⊥) → Clears n owners c i h → ⊥) → (i : ℕ) → i < n
      → present n (among owners i (hosts_of m n c).heard) (hosts_of m n c).ben i ≡ has (among owners i (hosts_of m n c).heard) i
  nobody_disabled whole nothing i i< = one_disables_nobody n _ _ g i (λ h h< other. refuted _ (λ e. nothing h i h< i< other ((clears_exactly owners whole i h h<).0 e)))

  others_clear_nothing : (h i : ℕ) → h < n → i < n → (h ≡ g → ⊥) → Clears n owners b i h → ⊥
  others_clear_nothing h i h< i< other c = let same = sym (alone.others_same h h< other) in
      alone.others_clear_nothing h i h< i< other (record { heard = ap (λ (x : Read Config). x.number) (sym same) ∙ c.heard; allied = c.allied; clear = ap (λ (x : Read Config). has x.fields.ben i) (sym same) ∙ c.clear })

  present_same : (i : ℕ) → i < n → present n (among owners i (hosts_of m n a).heard) (hosts_of m n a).ben i ≡ present n (among owners i (hosts_of m n b).heard) (hosts_of m n b).ben i
  present_same i i< = nobody_disabled first alone.others_clear_nothing i i< ∙ ap (λ s. has (among owners i s) i) heard_same ∙ sym (nobody_disabled second others_clear_nothing i i<)

  counted_same : {rows others : List ℕ} → rows ≡ others → counted n owners (hosts_of m n a).heard (hosts_of m n a).ben rows ≡ counted n owners (hosts_of m n b).heard (hosts_of m n b).ben others
  unfolding counted
  counted_same {rows} {others} e = rw e (same_steps _ _ _ n (λ k u k<. rw (present_same k k<)))

-- In two blocks that differ in one host's vote alone, the slot is the same: state, number, connections, rounds and output.
module _ (m : ℕ) (st : State) (slot : ℕ) (mode : Mode) (a b : List ℕ) (link : ℕ) (out : List ℕ) (g : ℕ) (alone : VoteAlone st.ports st.owners g a b) where
  refusal_same : refusal m st slot mode a out ≡ refusal m st slot mode b out
  unfolding refusal
  refusal_same = rw alone.same_length

  taken_whole : refusal m st slot mode a out ≡ 0 → Whole m st.ports a
  taken_whole e = let t = taken m st slot mode a out e in record { some_port = t.some_port; ports_at_most = t.ports; whole_block = t.whole }

  slot_same : Whole m st.ports a → slot_on_hosts m st slot mode (hosts_of m st.ports a) ≡ slot_on_hosts m st slot mode (hosts_of m st.ports b)
  unfolding slot_on_hosts hosts_of
  slot_same whole =
      let req = counted_same whole alone (rows_same whole alone (λ c. c.req) alone.same_req) in
      let pre = counted_same whole alone (rows_same whole alone (λ c. c.pre) alone.same_pre) in
      ap₂ (slot_on_tables m st slot mode) req pre

  pub one_vote_changes_nothing : stepped m st slot mode a out ≡ stepped m st slot mode b out
  unfolding stepped
  one_vote_changes_nothing = rw (← refusal_same) (go (eqb (refusal m st slot mode a out) 0) refl)
    where
      go : (r : Bool) → eqb (refusal m st slot mode a out) 0 ≡ r
          → cond r (slot_on_hosts m st slot mode (hosts_of m st.ports a)) (declined m st (refusal m st slot mode a out))
          ≡ cond r (slot_on_hosts m st slot mode (hosts_of m st.ports b)) (declined m st (refusal m st slot mode a out))
      go true e = slot_same (taken_whole (eqb-true _ 0 e))
      go false e = refl

  pub one_vote_changes_no_grant : output m st slot mode a link out ≡ output m st slot mode b link out
  unfolding output
  one_vote_changes_no_grant = rw (← one_vote_changes_nothing) (go (eqb answer.number 0) refl)
    where
      answer : Answer
      answer = (stepped m st slot mode a out).answer

      go : (r : Bool) → eqb answer.number 0 ≡ r
          → cond r (granted st.ports (hosts_of m st.ports a).heard link answer.sets out) out
          ≡ cond r (granted st.ports (hosts_of m st.ports b).heard link answer.sets out) out
      go true e =
          let served = whole m st (record { slot = slot; mode = mode; block = a; link = link; out = out }) (eqb-true _ 0 e) in
          ap (λ s. granted st.ports s link answer.sets out) (heard_same served alone)
      go false e = refl
