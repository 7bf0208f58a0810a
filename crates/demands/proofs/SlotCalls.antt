-- What a slot call on frames answers: its number is the table's, and if it is served, it is the call on tables that it comes to.
use mathlib.Core.Path.{◌≡◌, refl, sym, ap, subst, ◌∙◌}
use mathlib.Core.Logic.Iff
use mathlib.Core.Logic.{◌⊎◌, inl, inr, ⊎_elim, ◌↔◌}
use mathlib.Core.Bool.{Bool, true, false, not, ◌&&◌, ◌||◌, cond, or-true, true≢false}
use Prim.Native.Nat.{ℕ, zero, suc, ◌*◌, ◌^◌, ◌≤◌, ◌<◌}
use native.Mathlib.Decide.{ℕ_discrete}
use native.Mathlib.Omega.{arith}
use lib.Dec.{eqb, ltb, leb, eqb-suc-zero}
use lib.ListN.{length}
use borrow.Author.Tests.{eqb-false, eq-eqb, ne_eqb, ltb-true, lt-ltb, leb-true, le-leb, not-true}
use Rattle.laws.proofs.Tests.{both, every, either, arms}
use Rattle.laws.proofs.Rows.{length_tabled}
use Rattle.frames.specs.Part.{frame_len, told_len}
use Rattle.frames.specs.Frame.{differs}
use Rattle.ports.specs.Modes.{diagonal_mode, mode_of}
use Rattle.ports.specs.Due.{behind, wrong_limit, due_number, declined}
use Rattle.ports.specs.declared.state.State.{State}
use Rattle.ports.specs.declared.state.Mode.{Mode}
use Rattle.ports.specs.declared.state.Mode.TheVariants.{Central, Distributed, Diagonal}
use Rattle.ports.specs.Answer.{Stepped}
use Rattle.hearing.specs.Heard.{counted}
use Rattle.lcf.specs.Slot.{matched, ended, slot_on_tables}
use Rattle.choices.specs.declared.work.Run.{Run}
use Rattle.shelf.specs.Hosts.{hosts_of}
use Rattle.shelf.specs.Step.{refusal, slot_on_hosts, stepped}
use Rattle.demands.specs.Call as tables
use Rattle.demands.specs.SlotCall.{SlotCall, called, number, sets, on_tables}
use Rattle.demands.specs.Numbers.{WrongLimit, Row, given, passed, Table}
use Rattle.demands.proofs.Calls.{due_exactly}
use Rattle.demands.proofs.SlotHosts.{Whole}

-- ---- rows

-- a test that holds exactly if the row applies
abbrev Tests : Bool → Type 0 → Type 0
Tests b applies = (b ≡ true) ↔ applies

tests_less : (x y : ℕ) → Tests (ltb x y) (x < y)
tests_less x y = (ltb-true x y, lt-ltb x y)

tests_most : (x y : ℕ) → Tests (leb x y) (x ≤ y)
tests_most x y = (leb-true x y, le-leb x y)

tests_either : {A B : Type 0} (a b : Bool) → Tests a A → Tests b B → Tests (a || b) (A ⊎ B)
tests_either a b p q = (
  λ e. ⊎_elim (λ x. inl (p.0 x)) (λ x. inr (q.0 x)) (either a b e),
  ⊎_elim (λ x. ap (λ z. z || b) (p.1 x)) (λ x. ap (λ z. a || z) (q.1 x) ∙ or-true a),
)

tests_both : {A B : Type 0} (a b : Bool) → Tests a A → Tests b B → Tests (a && b) (A × B)
tests_both a b p q = (λ e. let (x, y) = both a b e in (p.0 x, q.0 y), λ (x, y). every (p.1 x) (q.1 y))

pub tests_limit : (m : ℕ) (mode : Mode) → Tests (wrong_limit m mode) (WrongLimit m mode)
unfolding wrong_limit
tests_limit m Central = (λ e. true≢false (sym e), λ e. absurd e)
tests_limit m (Distributed limit) = tests_either (ltb limit 1) (ltb m limit) (tests_less limit 1) (tests_less m limit)
tests_limit m Diagonal = (λ e. true≢false (sym e), λ e. absurd e)

-- A mode is a wrong limit exactly if its number is above that of diagonal-first.
pub limit_exactly : (m mode : ℕ) → WrongLimit m (mode_of m mode) ↔ (diagonal_mode m < mode)
unfolding mode_of
limit_exactly m zero = (λ wrong. absurd wrong, λ above. omega arith)
limit_exactly m (suc k) = rw (eqb-suc-zero k) (go (ℕ_discrete (suc k) (diagonal_mode m)))
  where
    go : Dec (suc k ≡ diagonal_mode m) → WrongLimit m (cond (eqb (suc k) (diagonal_mode m)) Diagonal (Distributed (suc k))) ↔ (diagonal_mode m < suc k)
    go (yes e) = rw (eq-eqb (suc k) (diagonal_mode m) e) (λ wrong. absurd wrong, λ above. omega arith)
    go (no ne) = rw (ne_eqb (suc k) (diagonal_mode m) ne) (⊎_elim (λ l. omega arith) (λ l. omega arith), λ above. inr (omega arith))

tests_other : (x y : ℕ) → Tests (differs x y) (x ≡ y → ⊥)
tests_other x y = (λ e. eqb-false x y (not-true _ e), λ ne. ap not (ne_eqb x y ne))

-- a row of the definition is a row of the table
row : (k : ℕ) {applies : Type 0} (b : Bool) {below : ℕ → Type 0} (x : ℕ) → Tests b applies → below x → Row k applies below (cond b k x)
row k true x tests rest = given (tests.0 refl) refl
row k false x tests rest = passed (λ a. true≢false (sym (tests.1 a))) rest

-- a row with another number does not apply
other_number : {k : ℕ} {applies : Type 0} {below : ℕ → Type 0} {x : ℕ} → (x ≡ k → ⊥) → Row k applies below x → (applies → ⊥) × below x
other_number other (given a e) = absurd (other e)
other_number other (passed n rest) = (n, rest)

-- rows give one number, if those below do
once : {k : ℕ} {applies : Type 0} {below : ℕ → Type 0} → ((x y : ℕ) → below x → below y → x ≡ y) → (x y : ℕ) → Row k applies below x → Row k applies below y → x ≡ y
once rest x y (given a e) (given b f) = e ∙ sym f
once rest x y (given a e) (passed n f) = absurd (n a)
once rest x y (passed n e) (given b f) = absurd (n b)
once rest x y (passed n e) (passed o f) = rest x y e f

module _ (m : ℕ) (st : State) (c : SlotCall) where
  -- ---- the number

  abbrev run : Run
  run = matched st c.mode (on_tables m st c).req (on_tables m st c).pre

  abbrev nest : Bool → Bool → Bool → Bool → Bool → ℕ → ℕ
  nest ports offsets stale early limit rest = cond ports 1 (cond offsets 2 (cond stale 3 (cond early 4 (cond limit 5 rest))))

  abbrev refused : ℕ → Bool → Bool → ℕ
  refused due block out = cond (differs due 0) due (cond block 6 (cond out 7 0))

  abbrev wrong_block : Bool
  wrong_block = differs (length c.block) (st.ports * frame_len st.ports)

  abbrev no_room : Bool
  no_room = ltb (length c.out) (st.ports * told_len st.ports)

  -- the tests of the call in one nest
  flat : (r : Run) (a b c d e f g : Bool)
      → (cond (eqb (refused (nest a b c d e 0) f g) 0)
      (cond (eqb (nest a b c d e 0) 0) (ended st r) (declined m st (nest a b c d e 0)))
      (declined m st (refused (nest a b c d e 0) f g))).answer.number
      ≡ nest a b c d e (cond f 6 (cond g 7 0))
  unfolding ended declined
  flat r true b c d e f g = refl
  flat r false true c d e f g = refl
  flat r false false true d e f g = refl
  flat r false false false true e f g = refl
  flat r false false false false true f g = refl
  flat r false false false false false true g = refl
  flat r false false false false false false true = refl
  flat r false false false false false false false = refl

  tabled : Table m st c (number m st c)
  unfolding stepped refusal slot_on_hosts slot_on_tables due_number
  tabled = subst (Table m st c) (sym (flat run (ltb n 1 || ltb m n) (leb n st.initiator.0 || leb n st.target.0) (leb 1 late && leb late (2 ^ 31)) (ltb (2 ^ 31) late) (wrong_limit m c.mode) wrong_block no_room))
      (row 1 _ _ (tests_either _ _ (tests_less _ _) (tests_less _ _))
      (row 2 _ _ (tests_either _ _ (tests_most _ _) (tests_most _ _))
      (row 3 _ _ (tests_both _ _ (tests_most _ _) (tests_most _ _))
      (row 4 _ _ (tests_less _ _)
      (row 5 _ _ (tests_limit m c.mode)
      (row 6 _ _ (tests_other _ _)
      (row 7 _ 0 (tests_less _ _) refl)))))))
    where
      n : ℕ
      n = st.ports

      late : ℕ
      late = behind st c.slot

  -- The number of a slot call is the table's, and the table gives one.
  pub number_by_table : (x : ℕ) → (number m st c ≡ x) ↔ Table m st c x
  number_by_table x = (λ e. rw e at tabled, λ t. once (once (once (once (once (once (once (λ x y e f. e ∙ sym f))))))) _ x tabled t)

  -- ---- the call

  abbrev refusing : ℕ
  refusing = refusal m st c.slot c.mode c.block c.out

  -- it is the call on tables, or it is declined before that
  pub slot_cases : (P : Stepped → Type 0) → P (tables.called m st (on_tables m st c)) → ((x : ℕ) → (x ≡ 0 → ⊥) → refusing ≡ x → P (declined m st x)) → P (called m st c)
  unfolding stepped slot_on_hosts
  slot_cases P at_tables declines = arms P (eqb refusing 0) _ _ (λ e. at_tables) (λ e. declines refusing (eqb-false refusing 0 e) refl)

  pub request_rows : length (on_tables m st c).req ≡ m
  unfolding counted hosts_of
  request_rows = simp length_tabled

  -- a served call is the call on tables
  module _ (done : number m st c ≡ 0) where
    -- no row applies, so the block is whole
    pub whole : Whole m st.ports c.block
    whole =
        let (ports, t2) = other_number (λ q. omega arith) ((number_by_table 0).0 done) in
        let (_, t3) = other_number (λ q. omega arith) t2 in
        let (_, t4) = other_number (λ q. omega arith) t3 in
        let (_, t5) = other_number (λ q. omega arith) t4 in
        let (_, t6) = other_number (λ q. omega arith) t5 in
        let (block, _) = other_number (λ q. omega arith) t6 in
        record { some_port = not_less (λ h. ports (inl h)); ports_at_most = not_less (λ h. ports (inr h)); whole_block = equal (ℕ_discrete _ _) block }
      where
        not_less : {x y : ℕ} → (x < y → ⊥) → y ≤ x
        not_less h = omega arith

        equal : {x y : ℕ} → Dec (x ≡ y) → ((x ≡ y → ⊥) → ⊥) → x ≡ y
        equal (yes q) h = q
        equal (no q) h = absurd (h q)

    pub as_on_tables : called m st c ≡ tables.called m st (on_tables m st c)
    unfolding declined
    as_on_tables = slot_cases (λ r. r.answer.number ≡ 0 → r ≡ tables.called m st (on_tables m st c)) (λ q. refl) (λ x some why q. absurd (some q)) done

    pub same_number : tables.number m st (on_tables m st c) ≡ 0
    same_number = ap (λ (r : Stepped). r.answer.number) (sym as_on_tables) ∙ done

    pub same_sets : sets m st c ≡ tables.sets m st (on_tables m st c)
    same_sets = ap (λ (r : Stepped). r.answer.sets) as_on_tables

  -- the numbers before 6 are those of the call on tables
  pub first_numbers : (x : ℕ) → (x ≡ 0 → ⊥) → (x ≡ 6 → ⊥) → (x ≡ 7 → ⊥) → (number m st c ≡ x) ↔ (tables.number m st (on_tables m st c) ≡ x)
  unfolding declined refusal
  first_numbers x some six seven = slot_cases (λ r. (r.answer.number ≡ x) ↔ (tables.number m st (on_tables m st c) ≡ x)) Iff.rfl
      (λ y ne why. Iff.trans (λ e. before _ wrong_block no_room (why ∙ e), λ e. sym why ∙ after _ wrong_block no_room e) (Iff.symm (due_exactly m st (on_tables m st c) x some)))
    where
      before : (d : ℕ) (f g : Bool) → refused d f g ≡ x → d ≡ x
      before zero true g e = absurd (six (sym e))
      before zero false true e = absurd (seven (sym e))
      before zero false false e = e
      before (suc d) f g e = rw (eqb-suc-zero d) at e

      after : (d : ℕ) (f g : Bool) → d ≡ x → refused d f g ≡ x
      after zero f g e = absurd (some (sym e))
      after (suc d) f g e = rw (eqb-suc-zero d) e
