-- The slot on tables by its parts, over any greatest port count.
use Rattle.std.proofs.Common.{◌≡◌, ℕ, min, false, List, refl, arith, eq-eqb}
use Rattle.ports.specs.Ready.{Ready}
use Rattle.ports.specs.Due.{wrong_limit, due_number, orderly}
use Rattle.ports.specs.declared.state.State.{State}
use Rattle.ports.specs.declared.state.Mode.{Mode}
use Rattle.ports.specs.declared.state.Mode.TheVariants.{Central, Distributed, Diagonal}
use Rattle.ports.proofs.Numbers.{served, due_now, limit_fits, orderly_same}
use Rattle.planned.specs.Planned.{start}
use Rattle.central.specs.Central.{central}
use Rattle.distributed.specs.Distributed.{distributed}
use Rattle.lcf.specs.Slot.{diagonal_first, opened, serve_mode, matched, slot_on_tables, finish_due}
use Rattle.choices.specs.declared.work.Work.{Work}
use Rattle.choices.specs.declared.work.Run.{Run}

-- the modes that the central form ends, and those of the distributed form
module _ (st : State) (mode : Mode) (s : Work) where
  pub by_targets : {o : Work} {u : List ℕ} → ((limit : ℕ) → mode ≡ Distributed limit → ⊥) → o ≡ opened st mode s → u ≡ (central st o st.ports).held
      → (u ≡ (serve_mode st mode s).work.held) × (0 ≡ (serve_mode st mode s).rounds)
  unfolding serve_mode diagonal_first
  by_targets {o} {u} k p e = go mode k p
    where
      go : (mode : Mode) → ((limit : ℕ) → mode ≡ Distributed limit → ⊥) → o ≡ opened st mode s → (u ≡ (serve_mode st mode s).work.held) × (0 ≡ (serve_mode st mode s).rounds)
      go Central k p = (rw (e, p), refl)
      go (Distributed limit) k p = absurd (k limit refl)
      go Diagonal k p = (rw (e, p), refl)

module _ (m : ℕ) (st : State) (mode : Mode) (s : Work) (ready : Ready m st) where
  pub by_rounds : (limit : ℕ) {u : Run} → mode ≡ Distributed limit → wrong_limit m mode ≡ false → u ≡ distributed (orderly m st) (min limit m) s → u ≡ serve_mode st mode s
  unfolding serve_mode
  by_rounds limit is h e =
      let all : min limit m ≡ limit = omega (arith, limit_fits m limit mode is h) in
      rw is (rw (orderly_same m st ready, all) at e)

-- a slot in two calls is the slot on tables, if its number is 0
pub in_two : (m : ℕ) (st : State) (slot : ℕ) (mode : Mode) (req pre : List ℕ) → due_number m st slot mode ≡ 0
    → finish_due m st mode (start (orderly m st) req pre) ≡ slot_on_tables m st slot mode req pre
unfolding orderly finish_due slot_on_tables matched wrong_limit
in_two m st slot mode req pre due =
    rw (eq-eqb _ 0 (due_now m st slot mode Central due refl), eq-eqb _ 0 (due_now m st slot mode mode due (served m st slot mode due).limit), eq-eqb _ 0 due)
