-- The grant frames in the output of a served slot read back as what documents 01 and 02 say of them.
use mathlib.Core.Path.{◌≡◌, refl, sym, ap, subst, ◌∙◌}
use mathlib.Core.Logic.{⊎_elim}
use mathlib.Core.Bool.{true, not}
use mathlib.Core.List.{List}
use Prim.Native.Nat.{ℕ, ◌*◌, ◌^◌, ◌≤◌, ◌<◌}
use native.Mathlib.Nat.{lt_of_lt_of_le}
use native.Mathlib.Omega.{arith}
use lib.Dec.{eqb}
use lib.ListN.{length, get_or, drop}
use lib.Pow.{pow_mono}
use lib.Seq.{drop_at}
use borrow.Author.Tests.{eq-eqb, lt-ltb, not-false}
use Rattle.laws.specs.Sets.{has, asks}
use Rattle.laws.specs.Parts.{parts}
use Rattle.laws.proofs.Tests.{both, every, arms}
use Rattle.laws.proofs.Parts.{length_parts, part_before, part_at}
use Rattle.frames.specs.Part.{most_ports, told_len}
use Rattle.frames.specs.Width.{set_bytes, set_bits}
use Rattle.frames.specs.Held.{held_in_form, held_frame, read_held}
use Rattle.frames.specs.declared.held.Held.{Held}
use Rattle.frames.proofs.HeldLaws.{length_held, held_reads}
use Rattle.ports.specs.declared.state.State.{State}
use Rattle.shelf.specs.Hosts.{hosts_of}
use Rattle.shelf.specs.Grants.{grant_of, grant_for, granted}
use Rattle.shelf.specs.Step.{output}
use Rattle.shelf.proofs.Granting.{agreeing}
use Rattle.demands.specs.SlotCall.{SlotCall, number, sets, output_after}
use Rattle.demands.specs.SlotShare.{grant_part, names}
use Rattle.demands.specs.Told.{Told}
use Rattle.demands.proofs.Small.{small}
use Rattle.demands.proofs.SlotConnections.{no_target_twice, nothing_from_nowhere}
use Rattle.demands.proofs.SlotCalls.{whole}
use Rattle.demands.proofs.SlotHosts.{heard_exactly}

-- The bytes beyond the grant frames are as they were, whether the call is served or declined.
pub beyond_untouched : (m : ℕ) (st : State) (c : SlotCall) → drop (st.ports * told_len st.ports) (output_after m st c) ≡ drop (st.ports * told_len st.ports) c.out
unfolding output granted
beyond_untouched m st c = arms (λ o. drop (st.ports * told_len st.ports) o ≡ drop (st.ports * told_len st.ports) c.out) (eqb (number m st c) 0) _ _
    (λ e. drop_at (parts frame st.ports) _ (st.ports * told_len st.ports) (length_parts frame (told_len st.ports) (λ k. length_held _ _) st.ports)) (λ e. refl)
  where
    frame : ℕ → List ℕ
    frame i = held_frame (set_bytes st.ports) (grant_for (hosts_of m st.ports c.block).heard c.link (sets m st c) i)

module _ (m : ℕ) (most : m ≤ most_ports) (st : State) (c : SlotCall) (done : number m st c ≡ 0) where
  abbrev n : ℕ
  n = st.ports

  abbrev grant : ℕ → Held
  grant = grant_for (hosts_of m n c.block).heard c.link (sets m st c)

  abbrev row : ℕ → ℕ
  row i = get_or (sets m st c) i 0

  pub row_small : (i : ℕ) → row i < 2 ^ m
  row_small i = small m (row i) (λ k e.
      let from = (nothing_from_nowhere m st c i k e).1 in
      let k< : k < n = ⊎_elim (λ g. g.target) (λ l. l.0.target) from in
      omega (arith, (whole m st c done).ports_at_most))

  module _ (i : ℕ) (i< : i < n) where
    in_form : held_in_form (set_bytes n) (grant i) ≡ true
    unfolding held_in_form grant_of
    in_form =
        let ports = (whole m st c done).ports_at_most in
        every (lt-ltb i (set_bits (set_bytes n)) (omega arith))
        (every (lt-ltb (row i) (256 ^ set_bytes n) (lt_of_lt_of_le (row_small i) (pow_mono most))) (agreeing (eqb (row i) 0)))

    pub in_place : grant_part n (output_after m st c) i ≡ held_frame (set_bytes n) (grant i)
    unfolding output granted
    in_place =
        let frame : ℕ → List ℕ = λ k. held_frame (set_bytes n) (grant k) in
        let long : (k : ℕ) → length (frame k) ≡ told_len n = λ k. length_held (set_bytes n) _ in
        rw (eq-eqb (number m st c) 0 done) (part_before frame (told_len n) long n i _ i< ∙ part_at frame (told_len n) long n i i<)

    -- Host i's grant frame in the output of a served slot says what documents 01 and 02 say.
    pub grant_told : Told n (sets m st c) c.block c.link i (read_held (set_bytes n) (grant_part n (output_after m st c) i))
    unfolding grant_of
    grant_told = subst (Told n (sets m st c) c.block c.link i) (sym (ap (read_held (set_bytes n)) in_place ∙ held_reads (set_bytes n) (grant i) in_form)) (record {
      correct = refl;
      node = refl;
      held = refl;
      some_held = refl;
      link_error = refl;
      check_error = (λ e. (heard_exactly (whole m st c done) i i<).0 (not-false _ e), λ e. ap not ((heard_exactly (whole m st c done) i i<).1 e));
    })

    -- It names every target that host i holds, and no other.
    pub held_named : (t : ℕ) → asks (sets m st c) i t ≡ true → names n (output_after m st c) i t ≡ true
    held_named t e =
        every (eq-eqb _ 0 grant_told.correct) (every (eq-eqb _ i grant_told.node) (ap (λ s. has s t) grant_told.held ∙ e))

    pub named_held : (t : ℕ) → names n (output_after m st c) i t ≡ true → asks (sets m st c) i t ≡ true
    named_held t e =
        let read = read_held (set_bytes n) (grant_part n (output_after m st c) i) in
        let (_, more) = both (eqb read.number 0) _ e in
        let (_, in-set) = both (eqb read.fields.nodeid i) _ more in
        ap (λ s. has s t) (sym grant_told.held) ∙ in-set

  -- No two grant frames in the output of a served slot name one target.
  pub no_target_named_twice : (i j t : ℕ) → i < n → j < n → names n (output_after m st c) i t ≡ true → names n (output_after m st c) j t ≡ true → i ≡ j
  no_target_named_twice i j t i< j< p q = no_target_twice m st c i j t (named_held i i< t p) (named_held j j< t q)
