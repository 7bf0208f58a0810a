-- qen is carried and unused: two blocks that differ in qen alone give the same slot.
use mathlib.Core.Path.{◌≡◌, refl, ap}
use mathlib.Core.Bool.{Bool, true, false, cond}
use mathlib.Core.List.{List, []}
use Prim.Native.Nat.{ℕ, ◌<◌}
use lib.Dec.{eqb}
use lib.ListN.{set}
use Rattle.laws.specs.Sets.{with, gathered, tabled}
use Rattle.laws.proofs.Loops.{same_steps}
use Rattle.refusals.specs.Numbers.{Answer}
use Rattle.frames.specs.Config.{read_config}
use Rattle.frames.specs.Part.{frame_len, host_number}
use Rattle.frames.specs.declared.config.Config.{Config}
use Rattle.ports.specs.declared.state.State.{State}
use Rattle.ports.specs.declared.state.Mode.{Mode}
use Rattle.shelf.specs.Hosts.{said, is_heard, field_of, hosts_of}
use Rattle.shelf.specs.Step.{refusal, stepped, output}
use Rattle.demands.specs.Block.{frame_part, says, QenAlone}

module _ (m n : ℕ) (a b : List ℕ) (alone : QenAlone n a b) where
  said_same : (f : Answer Config → ℕ) (h : ℕ) → f (says n a h) ≡ f (says n b h) → f (said m n a h) ≡ f (said m n b h)
  unfolding said host_number
  said_same f h e = rw alone.same_length (go (eqb (host_number m (frame_len n) n h b) 0))
    where
      go : (found : Bool) → f (read_config (cond found (frame_part n a h) [])) ≡ f (read_config (cond found (frame_part n b h) []))
      go true = e
      go false = refl

  rows_same : (field : Config → ℕ) → ((h : ℕ) → h < n → field (says n a h).fields ≡ field (says n b h).fields)
      → tabled m (field_of m n a field) n ≡ tabled m (field_of m n b field) n
  rows_same field e = same_steps _ _ _ n (λ h rows h<. ap (set rows h) (said_same (λ s. field s.fields) h (e h h<)))

  heard_same : gathered (is_heard m n a) n ≡ gathered (is_heard m n b) n
  heard_same = same_steps _ _ _ n (λ h s h<. ap (λ (x : ℕ). cond (eqb x 0) (with s h) s) (said_same (λ s. s.number) h (alone.each h h<).same_number))

  hosts_same : hosts_of m n a ≡ hosts_of m n b
  unfolding hosts_of
  hosts_same = λ i. record {
    heard = heard_same i;
    req = rows_same (λ c. c.req) (λ h h<. (alone.each h h<).same_req) i;
    pre = rows_same (λ c. c.pre) (λ h h<. (alone.each h h<).same_pre) i;
    ben = rows_same (λ c. c.ben) (λ h h<. (alone.each h h<).same_ben) i;
  }

-- The same state, number, sets and rounds, and the same output.
module _ (m : ℕ) (st : State) (slot : ℕ) (mode : Mode) (a b : List ℕ) (link : ℕ) (out : List ℕ) (alone : QenAlone st.ports a b) where
  pub qen_unused : stepped m st slot mode a out ≡ stepped m st slot mode b out
  unfolding stepped refusal
  qen_unused = rw (alone.same_length, hosts_same m st.ports a b alone)

  pub qen_unused_output : output m st slot mode a link out ≡ output m st slot mode b link out
  unfolding output
  qen_unused_output = rw (qen_unused, hosts_same m st.ports a b alone)
