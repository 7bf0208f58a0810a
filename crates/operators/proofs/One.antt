-- With every port given to one operator nothing changes: the slot and the sets asked are those of a shelf without owners, for all inputs.
use mathlib.Core.Path.{◌≡◌, refl, sym, ap, ap₂, ◌∙◌}
use mathlib.Core.Bool.{Bool, true, false, ◌&&◌, cond}
use mathlib.Core.List.{List}
use Prim.Native.Nat.{ℕ, zero, suc, ◌+◌, ◌*◌, ◌%◌, ◌^◌, ◌<◌}
use native.Mathlib.Nat.{mod-one}
use native.Mathlib.Decide.{dec_lt}
use native.Mathlib.Omega.{arith}
use lib.Dec.{ltb}
use lib.ListN.{length, get_or, set, get_or-eq_default}
use lib.Pow.{mod-pow-add}
use borrow.Author.Tests.{eqb-true, eqb-false}
use Rattle.laws.specs.Sets.{digit, has, tabled}
use Rattle.laws.proofs.Loops.{same_steps}
use Rattle.laws.proofs.Rows.{length_tabled, row-tabled}
use Rattle.ports.specs.Owners.{among}
use Rattle.ports.specs.Tables.{within}
use Rattle.ports.specs.declared.state.State.{State}
use Rattle.ports.specs.declared.state.Mode.{Mode}
use Rattle.ports.proofs.Owners.{no_owners, has-among}
use Rattle.hearing.specs.Heard.{present, counted}
use Rattle.planned.specs.Planned.{start}
use Rattle.lcf.specs.Slot.{matched, slot_on_tables}
use Rattle.shelf.specs.Asked.{sets_asked}
use Rattle.shelf.specs.Hosts.{hosts_of}
use Rattle.shelf.specs.Step.{slot_on_hosts, stepped, output}
use Rattle.shelf.specs.declared.hosts.Hosts.{Hosts}
use Rattle.operators.specs.One.{OneOperator, counted_one, slot_on_hosts_one, stepped_one, output_one, sets_asked_one}

-- every port given to operator 0
pub none_owned : (n : ℕ) → OneOperator n 0
none_owned n p q p< q< = no_owners p ∙ sym (no_owners q)

-- words with the same members below n are the same below 2 ^ n
same_below : (n s u : ℕ) → ((k : ℕ) → k < n → has s k ≡ has u k) → s % 2 ^ n ≡ u % 2 ^ n
same_below zero s u e = mod-one s ∙ sym (mod-one u)
same_below (suc n) s u e =
    let one_more : suc n ≡ 1 + n = omega arith in
    rw one_more
    (mod-pow-add s 1 n
    ∙ ap₂ (λ x y. x * 2 ^ n + y) (bit (has s n) refl (sym (e n (omega arith)))) (same_below n s u (λ k l. e k (omega arith)))
    ∙ sym (mod-pow-add u 1 n))
  where
    bit : (b : Bool) → has s n ≡ b → has u n ≡ has s n → digit s n ≡ digit u n
    bit true p q = eqb-true (digit s n) 1 p ∙ sym (eqb-true (digit u n) 1 (q ∙ p))
    bit false p q = omega (arith, eqb-false (digit s n) 1 p, eqb-false (digit u n) 1 (q ∙ p))

-- what is seen of a row, if it is seen alike of what the row is made of
seen_row : (h f g : ℕ → ℕ) (m n k : ℕ) → (k < n → h (f k) ≡ h (g k)) → k < n → h (get_or (tabled m f n) k 0) ≡ h (get_or (tabled m g n) k 0)
seen_row h f g m n k e k< = go (dec_lt k m)
  where
    go : Dec (k < m) → h (get_or (tabled m f n) k 0) ≡ h (get_or (tabled m g n) k 0)
    go (yes l) = rw (row-tabled m f n k k< l, row-tabled m g n k k< l) (e k<)
    go (no l) =
        let past : (f : ℕ → ℕ) → get_or (tabled m f n) k 0 ≡ 0 = λ f. get_or-eq_default (tabled m f n) 0 (omega (arith, length_tabled m f n)) in
        rw (past f, past g)

module _ (n owners heard : ℕ) (ben : List ℕ) (one : OneOperator n owners) where
  present_one : (i : ℕ) → i < n → present n (among owners i heard) ben i ≡ present n heard ben i
  unfolding present
  present_one i i< = rw (has-among owners i heard i refl)
      (ap (λ c. has heard i && ltb c 2) (same_steps _ _ 0 n (λ h c h<. rw (has-among owners i heard h (one i h i< h<)))))

  as_long : (rows : List ℕ) → length (counted n owners heard ben rows) ≡ length (counted_one n heard ben rows)
  unfolding counted counted_one
  as_long rows = length_tabled (length rows) _ n ∙ sym (length_tabled (length rows) _ n)

  counted_one_lem : (rows : List ℕ) → within n (counted n owners heard ben rows) ≡ within n (counted_one n heard ben rows)
  unfolding within counted counted_one
  counted_one_lem rows = rw (length_tabled, length_tabled) (same_steps _ _ _ n (λ i u i<. ap (set u i) (seen_row (λ r. r % 2 ^ n) _ _ (length rows) n i (row i) i<)))
    where
      row : (i : ℕ) → i < n
          → cond (present n (among owners i heard) ben i) (among owners i (get_or rows i 0)) 0 % 2 ^ n ≡ cond (present n heard ben i) (get_or rows i 0) 0 % 2 ^ n
      row i i< = rw (present_one i i<) (go (present n heard ben i))
        where
          go : (b : Bool) → cond b (among owners i (get_or rows i 0)) 0 % 2 ^ n ≡ cond b (get_or rows i 0) 0 % 2 ^ n
          go true = same_below n _ _ (λ t t<. has-among owners i (get_or rows i 0) t (one i t i< t<))
          go false = refl

-- a slot on tables sees of them what the ports see
same_tables : (m : ℕ) (st : State) (slot : ℕ) (mode : Mode) (a b c d : List ℕ) → length a ≡ length b → within st.ports a ≡ within st.ports b → within st.ports c ≡ within st.ports d
    → slot_on_tables m st slot mode a c ≡ slot_on_tables m st slot mode b d
unfolding slot_on_tables matched start
same_tables m st slot mode a b c d long req pre = rw (long, req, pre)

module _ (m : ℕ) (st : State) (one : OneOperator st.ports st.owners) (slot : ℕ) (mode : Mode) where
  hosts_one : (hosts : Hosts) → slot_on_hosts m st slot mode hosts ≡ slot_on_hosts_one m st slot mode hosts
  unfolding slot_on_hosts slot_on_hosts_one
  hosts_one hosts =
      let same = counted_one_lem st.ports st.owners hosts.heard hosts.ben one in
      same_tables m st slot mode _ _ _ _ (as_long st.ports st.owners hosts.heard hosts.ben one hosts.req) (same hosts.req) (same hosts.pre)

  -- The slot call: the number, the next state, the sets and the rounds; and the output.
  pub one_operator : (block out : List ℕ) → stepped m st slot mode block out ≡ stepped_one m st slot mode block out
  unfolding stepped stepped_one
  one_operator block out = rw (hosts_one (hosts_of m st.ports block))

  pub one_operator_output : (block : List ℕ) (link : ℕ) (out : List ℕ) → output m st slot mode block link out ≡ output_one m st slot mode block link out
  unfolding output output_one
  one_operator_output block link out = rw (one_operator block out)

-- The sets asked.
pub one_operator_asked : (m n owners : ℕ) → OneOperator n owners → (block : List ℕ) → sets_asked m n owners block ≡ sets_asked_one m n block
unfolding sets_asked sets_asked_one
one_operator_asked m n owners one block = rw (counted_one_lem n owners (hosts_of m n block).heard (hosts_of m n block).ben one (hosts_of m n block).req)
