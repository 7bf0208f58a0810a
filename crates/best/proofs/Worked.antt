-- Two slots on tables, computed: case B of document 01, and a limit below n that leaves three times as many.
use mathlib.Core.Path.{◌≡◌, refl, sym, subst, ◌∙◌}
use mathlib.Core.Logic.{◌≢◌, inl, ⊎_elim}
use mathlib.Core.Bool.{true, true≢false}
use mathlib.Core.List.Memᴰ
use mathlib.Core.List.{List, [], ◌∷◌, Memᴰ}
use Prim.Native.Nat.{ℕ, zero, suc, ◌≤◌, ◌<◌}
use native.Mathlib.Omega.{arith}
use lib.Count.{ones}
use lib.ListN.{length}
use Rattle.laws.specs.Steps.{steps}
use Rattle.laws.specs.Sets.{asks}
use Rattle.laws.proofs.Members.{has_none}
use Rattle.frames.specs.Part.{most_ports}
use Rattle.ports.specs.Tables.{within}
use Rattle.ports.specs.Due.{behind, wrong_limit, due_number}
use Rattle.ports.specs.declared.state.State.{State}
use Rattle.ports.specs.declared.state.Mode.{Mode}
use Rattle.ports.specs.declared.state.Mode.TheVariants.{Central, Distributed}
use Rattle.choices.specs.Choice.{choice, fewest}
use Rattle.choices.specs.Join.{join, join_live}
use Rattle.planned.specs.Planned.{planner, give, planned, start}
use Rattle.central.specs.Central.{winner, serve}
use Rattle.distributed.specs.Distributed.{askers, grants, offers, accepted, answer, round, one_more, distributed}
use Rattle.lcf.specs.Slot.{serve_mode, matched, ended, slot_on_tables}
use Rattle.demands.specs.Call.{Call, number, sets}
use Rattle.demands.specs.Origin.{Given, Live}
use Rattle.demands.proofs.Stage.{start_live}
use Rattle.best.specs.Pairs.{Pair, NoneTwice}
use Rattle.best.specs.Best.{Compared}
use Rattle.best.proofs.Counting.{meets}
use Rattle.best.proofs.Listed.{listed}
use Rattle.best.proofs.Half.{joins, joined-listed}

-- a slot of n ports at offsets (i, j), in which nothing is planned
abbrev state : ℕ → ℕ → ℕ → State
state n i j = record { ports = n; initiator = record { 0 = i }; target = record { 0 = j }; due = 0; owners = 0 }

abbrev call : Mode → List ℕ → Call
call mode req = record { slot = 0; mode = mode; req = req; pre = [] }

apart : {x y z : ℕ} → x ≢ y → x ≢ z → y ≢ z → NoneTwice (x ∷ y ∷ z ∷ [])
unfolding NoneTwice
apart xy xz yz = (λ m. ⊎_elim xy (λ k. xz (Memᴰ.eq_of_singleton k)) (Memᴰ.cases_cons m), (λ m. yz (Memᴰ.eq_of_singleton m), (Memᴰ.not-nil, tt)))

-- initiators 0, 1 and 2 alone have live requests, of which (0, x), (1, y) and (2, z) are free of conflict: so three can be joined, and no more
module _ (st : State) (mode : Mode) (req : List ℕ) (done : number most_ports st (call mode req) ≡ 0) (rows : st.ports ≤ length req)
    (few : (i t : ℕ) → Live st req [] i t → i < 3) where
  three_could : (x y z : ℕ) → asks (start st req []).live 0 x ≡ true → asks (start st req []).live 1 y ≡ true → asks (start st req []).live 2 z ≡ true
      → x ≢ y → x ≢ z → y ≢ z → (did : ℕ) → length (listed (joins most_ports st (call mode req)) st.ports) ≡ did
      → Compared (Live st req []) (Given st []) (sets most_ports st (call mode req)) 3 did
  three_could x y z a b c xy xz yz did Listed-has = record {
    best = (0, x) ∷ (1, y) ∷ (2, z) ∷ [];
    is_best = record {
      conflict_free = record {
        live = λ i t m. ⊎_elim (is i t a) (λ m. ⊎_elim (is i t b) (λ m. is i t c (Memᴰ.eq_of_singleton m)) (Memᴰ.cases_cons m)) (Memᴰ.cases_cons m);
        no_initiator_twice = apart (λ e. omega arith) (λ e. omega arith) (λ e. omega arith);
        no_target_twice = apart xy xz yz;
      };
      no_more = λ pairs free. meets pairs (0 ∷ 1 ∷ 2 ∷ []) [] free.no_initiator_twice free.no_target_twice (λ i t m. inl (among i (few i t (free.live i t m))));
    };
    best_has = refl;
    joined = listed (joins most_ports st (call mode req)) st.ports;
    exactly = joined-listed most_ports st (call mode req) done rows;
    joined-has = Listed-has;
  }
    where
      is : (i t : ℕ) {q : Pair} → asks (start st req []).live q.0 q.1 ≡ true → ◌≡◌ {A = Pair} (i, t) q → Live st req [] i t
      is i t e q = (start_live st req [] i t).0 (subst (λ (p : Pair). asks (start st req []).live p.0 p.1 ≡ true) (sym q) e)

      among : (i : ℕ) → i < 3 → Memᴰ i (0 ∷ 1 ∷ 2 ∷ [])
      among zero l = Memᴰ.head refl
      among (suc zero) l = Memᴰ.tail (Memᴰ.head refl)
      among (suc (suc zero)) l = Memᴰ.tail (Memᴰ.tail (Memᴰ.head refl))
      among (suc (suc (suc i))) l = absurd (omega arith)

-- a served call on tables, in which the best has so many pairs and the slot joins so many
abbrev Worked : State → Mode → List ℕ → ℕ → ℕ → Type 0
Worked st mode req could did =
    (number most_ports st (call mode req) ≡ 0) × Compared (Live st req []) (Given st []) (sets most_ports st (call mode req)) could did

-- Case B: three could be joined, two are.
pub case_b : Worked (state 3 0 0) Central (3 ∷ 1 ∷ 6 ∷ []) 3 2
unfolding steps ones choice join join_live planner give planned within start fewest winner serve serve_mode matched ended slot_on_tables behind wrong_limit due_number
case_b = (
  refl,
  three_could (state 3 0 0) Central (3 ∷ 1 ∷ 6 ∷ []) refl (omega arith) (λ i t live. live.initiator)
      1 0 2 refl refl refl (λ e. omega arith) (λ e. omega arith) (λ e. omega arith) 2 refl,
)

-- A limit of 1 with five ports: targets 0, 3 and 4 grant the same initiator, so one is joined where three could be.
pub limit_too_low : Worked (state 5 3 3) (Distributed 1) (25 ∷ 25 ∷ 25 ∷ 0 ∷ 0 ∷ []) 3 1
unfolding steps ones choice join join_live planner give planned within start fewest askers grants offers accepted answer round one_more distributed serve_mode matched ended slot_on_tables behind wrong_limit due_number
limit_too_low = (
  refl,
  three_could (state 5 3 3) (Distributed 1) (25 ∷ 25 ∷ 25 ∷ 0 ∷ 0 ∷ []) refl (omega arith) few
      0 3 4 refl refl refl (λ e. omega arith) (λ e. omega arith) (λ e. omega arith) 1 refl,
)
  where
    few : (i t : ℕ) → Live (state 5 3 3) (25 ∷ 25 ∷ 25 ∷ 0 ∷ 0 ∷ []) [] i t → i < 3
    few zero t live = omega arith
    few (suc zero) t live = omega arith
    few (suc (suc zero)) t live = omega arith
    few (suc (suc (suc zero))) t live = absurd (true≢false (sym live.asked ∙ has_none t))
    few (suc (suc (suc (suc zero)))) t live = absurd (true≢false (sym live.asked ∙ has_none t))
    few (suc (suc (suc (suc (suc i))))) t live = let l = live.initiator in absurd (omega arith)
