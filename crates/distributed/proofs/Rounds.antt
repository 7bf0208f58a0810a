-- A round by its tables is the round.
use mathlib.Core.Path.{◌≡◌, refl, sym, ap, ◌∙◌}
use mathlib.Core.Bool.{Bool, true, false, ◌&&◌, cond, and-true, and-false}
use mathlib.Core.List.{List}
use Prim.Native.Nat.{ℕ, zero, suc, ◌-◌, ◌≤◌, ◌<◌}
use native.Mathlib.Nat.{lt_of_lt_of_le, add-sub_of_le}
use native.Mathlib.Omega.{arith}
use borrow.Author.Tests.{eqb-true, eqb-false}
use lib.Dec.{eqb}
use lib.ListN.{length, get_or, set, replicate, length-set, length-replicate}
use lib.Seq.{get_or-set_same, get_or-set_other}
use Rattle.laws.specs.Steps.{steps}
use Rattle.laws.specs.Sets.{asks, with, column, sizes, gathered}
use Rattle.laws.proofs.Loops.{same_steps, stays, done}
use Rattle.laws.proofs.Rows.{row-tabled, no_bits}
use Rattle.ports.specs.declared.state.State.{State}
use Rattle.choices.specs.Choice.{fewest}
use Rattle.distributed.specs.Distributed.{askers, grants, offers, accepted, answer, answered, one_more, rounds}
use Rattle.distributed.specs.Offers.{granted, offer, offering, Offers, accept}
use Rattle.choices.specs.Live.{any_live}
use Rattle.choices.specs.declared.work.Work.{Work}
use Rattle.choices.specs.declared.work.Run.{Run}

-- an offer to g reaches row i if g is i
reaches : (rows live : List ℕ) (g i t : ℕ) {s : ℕ} → i < length rows → get_or rows i 0 ≡ s
    → get_or (set rows g (cond (asks live g t) (with (get_or rows g 0) t) (get_or rows g 0))) i 0 ≡ cond (asks live i t && eqb g i) (with s t) s
reaches rows live g i t {s} l e = go (eqb g i) refl
  where
    go : (b : Bool) → eqb g i ≡ b → get_or (set rows g (cond (asks live g t) (with (get_or rows g 0) t) (get_or rows g 0))) i 0 ≡ cond (asks live i t && b) (with s t) s
    go true q = rw (eqb-true g i q, and-true) (get_or-set_same rows i _ 0 l ∙ rw e)
    go false q = rw and-false (get_or-set_other rows g i _ 0 (λ z. eqb-false g i q (sym z)) ∙ e)

module _ (st : State) (live : List ℕ) (h : st.ports ≤ length live) where
  -- a row of the grants
  grant_row : (t : ℕ) → t < st.ports → get_or (grants st live) t 0 ≡ granted st (get_or (askers st live) t 0) (sizes live) t
  unfolding grants askers fewest
  grant_row t l = row-tabled (length live) _ st.ports t l (lt_of_lt_of_le l h) ∙ rw (row-tabled (length live) (column live st.ports) st.ports t l (lt_of_lt_of_le l h))

  -- what the first k targets offer
  table : ℕ → List ℕ
  table = offering st live (askers st live) (sizes live) (replicate (length live) 0)

  length_table : (k : ℕ) → length (table k) ≡ length live
  unfolding table steps offer
  length_table zero = length-replicate (length live) 0
  length_table (suc k) = length-set (table k) (granted st (get_or (askers st live) k 0) (sizes live) k) _ ∙ length_table k

  made : (i k : ℕ) → i < st.ports → k ≤ st.ports → get_or (table k) i 0 ≡ gathered (λ t. asks live i t && eqb (get_or (grants st live) t 0) i) k
  unfolding table steps offer
  made i zero b l = no_bits (length live) i
  made i (suc k) b l = rw (grant_row k l) (reaches (table k) live _ i k (omega (arith, length_table k)) (made i k b (omega arith)))

  pub all_offered : (m k : ℕ) (asked counts start : List ℕ) {u : List ℕ} → length live ≡ m → asked ≡ askers st live → counts ≡ sizes live
      → start ≡ replicate m 0 → u ≡ offering st live asked counts start k → k ≤ st.ports → st.ports ≤ k → Offers st live u
  unfolding table offers
  all_offered m k asked counts start p q c z e l g i hi =
      ap (λ u. get_or u i 0) (done _ _ st.ports k (rw (q, c, z, ← p) at e) l g) ∙ made i st.ports hi (omega arith)

-- every initiator has answered
pub all_answered : (st : State) (live offered counts : List ℕ) (k : ℕ) (x : Work) {u : Work} → Offers st live offered → counts ≡ sizes (askers st live)
    → u ≡ steps (λ i. accept st counts (get_or offered i 0) i) x k → k ≤ st.ports → st.ports ≤ k → u ≡ answered st live (askers st live) (grants st live) x st.ports
unfolding accept answer accepted
all_answered st live offered counts k x o c e l g = done _ _ st.ports k e l g ∙ same_steps _ _ x st.ports (λ i r b. rw (c, o i b))

-- once nothing is live, more rounds change nothing
pub at_rest : (st : State) (x : Run) (k limit : ℕ) {u : Run} → u ≡ rounds st x k → k ≤ limit → any_live u.work.live st.ports ≡ false → u ≡ rounds st x limit
unfolding one_more
at_rest st x k limit {u} e l h = rw (← add-sub_of_le l) (e ∙ sym (stays _ x k (limit - k) (λ j _. rw (← e, h))))
