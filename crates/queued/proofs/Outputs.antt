-- What a slot writes: the head of each granted queue at its target's place, and nothing else.
use mathlib.Core.Path.{◌≡◌, refl, sym, ap, ◌∙◌}
use mathlib.Core.Logic.{inr, ⊎_elim}
use mathlib.Core.Bool.{Bool, true, false, not, cond, true≢false}
use mathlib.Core.List.{List, [], ◌∷◌, map}
use Prim.Native.Nat.{ℕ, ◌+◌, ◌*◌, ◌≤◌, ◌<◌}
use native.Mathlib.Omega.{arith}
use lib.Dec.{eqb}
use lib.ListN.{length, get_or, replicate}
use borrow.Author.Tests.{eq-eqb, eqb-true, eqb-false, ltb-true, not-false}
use Rattle.laws.specs.Sets.{asks}
use Rattle.laws.proofs.Members.{asks-empty}
use Rattle.laws.proofs.Tests.{both, same, refuted}
use Rattle.ports.specs.declared.state.State.{State}
use Rattle.ports.specs.declared.state.Mode.{Mode}
use Rattle.ports.specs.Answer.{Stepped}
use Rattle.demands.proofs.Connections.{nothing_from_nowhere}
use Rattle.queue_records.specs.Entries.{cell_of, initiator_of, target_of, of_pair, those}
use Rattle.queue_records.specs.Records.{ports_of, cells_of, held_of}
use Rattle.queue_records.specs.Queue.{cell_at, stored, waiting, queue_of}
use Rattle.queue_records.proofs.Ordered.{stray, Placed, each_placed, usable_known}
use Rattle.queue_records.proofs.Pools.{cell_room, length_stored, length_cell}
use Rattle.queue_steps.specs.Step.{requests}
use Rattle.queue_steps.proofs.Serves.{Served, served}
use Rattle.queue_steps.proofs.Requests.{asks_waits}
use Rattle.queues.specs.Parting.{granted, leaving, forwarded}
use Rattle.queues.specs.Serving.{answered, slot_output}
use Rattle.queues.proofs.Moves.{leavers_near}
use Rattle.queues.proofs.Serves.{lone}
use Rattle.queued.proofs.Stored.{new_cell, other_cell, outside}
use Rattle.queued.proofs.Heads.{those_leave, all_granted}

-- where none has q, the first has not, and none of the others
none_first : (q : ℕ → Bool) (e : ℕ) (s : List ℕ) → length (those q (e ∷ s)) ≡ 0 → (q e ≡ false) × (length (those q s) ≡ 0)
unfolding those
none_first q e s z = go (q e) refl z
  where
    go : (b : Bool) → q e ≡ b → length (cond b (e ∷ those q s) (those q s)) ≡ 0 → (q e ≡ false) × (length (those q s) ≡ 0)
    go true y z = absurd (omega arith)
    go false y z = (y, z)

-- two tests that agree where none is bad
those_agree : (bad p q : ℕ → Bool) → ((e : ℕ) → bad e ≡ false → p e ≡ q e) → (s : List ℕ) → length (those bad s) ≡ 0 → those p s ≡ those q s
unfolding those
those_agree bad p q agree [] none = refl
those_agree bad p q agree (e ∷ s) none = let (here, rest) = none_first bad e s none in rw (agree e here, those_agree bad p q agree s rest)

-- the entry goes to target t
abbrev to_target : ℕ → ℕ → ℕ → Bool
to_target m t e = eqb (target_of m e) t

module _ (m w n cells : ℕ) (pool : List ℕ) (size : cells * w ≤ length pool) where
  -- an entry in its place: its cell is whole, and its target has a place
  first_fits : (e : ℕ) (s out : List ℕ) → length (those (stray m n cells) (e ∷ s)) ≡ 0 → n * w ≤ length out
      → (length (cell_at w pool (cell_of m e)) ≡ w) × (target_of m e * w + w ≤ length out) × (target_of m e < n)
  first_fits e s out near place =
      let p : Placed m n cells e = each_placed m n cells (e ∷ s) near 0 (omega arith) in
      (length_cell w pool (cell_of m e) (cell_room w (cell_of m e) cells (length pool) p.cell size), cell_room w (target_of m e) n (length out) p.target place, p.target)

  stored_long : (e : ℕ) (s out : List ℕ) → length (those (stray m n cells) (e ∷ s)) ≡ 0 → n * w ≤ length out → length (stored w out (target_of m e) (cell_at w pool (cell_of m e))) ≡ length out
  stored_long e s out near place = let (whole, room, _) = first_fits e s out near place in length_stored w out (target_of m e) (cell_at w pool (cell_of m e)) whole room

  forwarded_long : (s out : List ℕ) → length (those (stray m n cells) s) ≡ 0 → n * w ≤ length out → length (forwarded m w pool s out) ≡ length out
  unfolding forwarded
  forwarded_long [] out near place = refl
  forwarded_long (e ∷ s) out near place =
      let long = stored_long e s out near place in
      forwarded_long s (stored w out (target_of m e) (cell_at w pool (cell_of m e))) (none_first (stray m n cells) e s near).1 (rw long place) ∙ long

  -- a place to which no entry goes
  untouched : (t : ℕ) (s out : List ℕ) → length (those (stray m n cells) s) ≡ 0 → n * w ≤ length out → length (those (to_target m t) s) ≡ 0
      → cell_at w (forwarded m w pool s out) t ≡ cell_at w out t
  unfolding forwarded
  untouched t [] out near place z = refl
  untouched t (e ∷ s) out near place z =
      let (other, rest) = none_first (to_target m t) e s z in
      let (whole, room, _) = first_fits e s out near place in
      untouched t s (stored w out (target_of m e) (cell_at w pool (cell_of m e))) (none_first (stray m n cells) e s near).1 (rw (stored_long e s out near place) place) rest
      ∙ other_cell w out (target_of m e) (cell_at w pool (cell_of m e)) whole room t (λ y. eqb-false (target_of m e) t other (sym y))

  -- a place to which one entry goes
  reached : (t x : ℕ) (s out : List ℕ) → length (those (stray m n cells) s) ≡ 0 → n * w ≤ length out → those (to_target m t) s ≡ x ∷ []
      → cell_at w (forwarded m w pool s out) t ≡ cell_at w pool (cell_of m x)
  unfolding forwarded those
  reached t x [] out near place z = absurd (omega (arith, ap length z))
  reached t x (e ∷ s) out near place z = go (to_target m t e) refl z (reached t x s now later (rw long place))
    where
      now : List ℕ
      now = stored w out (target_of m e) (cell_at w pool (cell_of m e))

      later : length (those (stray m n cells) s) ≡ 0
      later = (none_first (stray m n cells) e s near).1

      long : length now ≡ length out
      long = stored_long e s out near place

      go : (b : Bool) → to_target m t e ≡ b → cond b (e ∷ those (to_target m t) s) (those (to_target m t) s) ≡ x ∷ []
          → (those (to_target m t) s ≡ x ∷ [] → cell_at w (forwarded m w pool s now) t ≡ cell_at w pool (cell_of m x)) → cell_at w (forwarded m w pool s now) t ≡ cell_at w pool (cell_of m x)
      go true y z rest =
          let is : e ≡ x = cc in
          let none : those (to_target m t) s ≡ [] = cc in
          let at : target_of m e ≡ t = eqb-true (target_of m e) t y in
          let (whole, room, _) = first_fits e s out near place in
          untouched t s now later (rw long place) (ap length none)
          ∙ ap (cell_at w now) (sym at) ∙ new_cell w out (target_of m e) (cell_at w pool (cell_of m e)) whole room ∙ ap (λ a. cell_at w pool (cell_of m a)) is
      go false y z rest = rest z

  -- a byte at or above the places of n targets
  past : (k : ℕ) → n * w ≤ k → (s out : List ℕ) → length (those (stray m n cells) s) ≡ 0 → n * w ≤ length out → get_or (forwarded m w pool s out) k 0 ≡ get_or out k 0
  unfolding forwarded
  past k h [] out near place = refl
  past k h (e ∷ s) out near place =
      let (whole, room, target) = first_fits e s out near place in
      past k h s (stored w out (target_of m e) (cell_at w pool (cell_of m e))) (none_first (stray m n cells) e s near).1 (rw (stored_long e s out near place) place)
      ∙ outside w out (target_of m e) (cell_at w pool (cell_of m e)) whole room k (inr (omega (arith, cell_room w (target_of m e) n (n * w) target (omega arith))))

-- ---- a slot that is served

module _ (m c w : ℕ) (words : List ℕ) (st : State) (slot : ℕ) (mode : Mode) (pool out : List ℕ) (done : (answered m c w words st slot mode pool out).answer.number ≡ 0) where
  abbrev sets : List ℕ
  sets = (answered m c w words st slot mode pool out).answer.sets

  s : Served m c w words st (length pool) slot mode (length out)
  s = served m c w words st (length pool) slot mode (length out) done

  abbrev leavers : List ℕ
  leavers = leaving m sets (held_of words)

  near : length (those (stray m (ports_of words) (cells_of words)) leavers) ≡ 0
  near = leavers_near m c w words pool out sets s.fit s.place

  size : cells_of words * w ≤ length pool
  size = omega (arith, (usable_known m c w words (length pool) s.fit).size)

  granted_all : length (those (λ e. not (granted m sets e)) leavers) ≡ 0
  granted_all = all_granted m (held_of words) sets sets (λ i t a. a)

  -- of a target that is granted to i, the entries that leave are those of the pair
  sole : (i t : ℕ) → asks sets i t ≡ true → those (to_target m t) leavers ≡ those (of_pair m i t) leavers
  sole i t g = those_agree (λ e. not (granted m sets e)) (to_target m t) (of_pair m i t) agree leavers granted_all
    where
      agree : (e : ℕ) → not (granted m sets e) ≡ false → to_target m t e ≡ of_pair m i t e
      agree e a = same (to_target m t e) (of_pair m i t e)
          (λ y.
          let at : target_of m e ≡ t = eqb-true (target_of m e) t y in
          rw (y, eq-eqb (initiator_of m e) i (lone m c w words st (length pool) slot mode (length out) s (initiator_of m e) i t (rw at at (not-false (granted m sets e) a)) g)))
          (λ y. (both (eqb (initiator_of m e) i) (eqb (target_of m e) t) y).1)

  -- a granted queue holds a cell
  granted_waits : (i t : ℕ) → asks sets i t ≡ true → 0 < length (waiting m words i t)
  granted_waits i t g = ltb-true 0 _ (asks_waits m words i t asked)
    where
      asked : asks (requests m words) i t ≡ true
      asked = ⊎_elim (λ given. absurd (true≢false (sym given.claimant.asks_too ∙ asks-empty m i t))) (λ live. live.0.asked)
          (nothing_from_nowhere m st (record { slot = slot; mode = mode; req = requests m words; pre = replicate m 0 }) i t (sym (ap (λ (r : Stepped). asks r.answer.sets i t) s.is_run) ∙ g))

  -- The queue of a granted pair holds a cell, and its head goes to the target's place.
  pub record Forwarded (i t : ℕ) : Type 0 where
    pub head : List ℕ
    pub rest : List (List ℕ)
    pub was : queue_of m w words pool i t ≡ head ∷ rest
    pub there : cell_at w (slot_output m c w words st slot mode pool out) t ≡ head

  pub head_out : (i t : ℕ) → asks sets i t ≡ true → Forwarded i t
  unfolding slot_output queue_of
  head_out i t g = go (waiting m words i t) refl (granted_waits i t g)
    where
      go : (l : List ℕ) → waiting m words i t ≡ l → 0 < length l → Forwarded i t
      go [] is some = absurd (omega arith)
      go (e ∷ l) is some =
          let one : those (to_target m t) leavers ≡ e ∷ [] = sole i t g ∙ those_leave m i t (held_of words) sets ∙ rw (g, is) in
          record {
            head = cell_at w pool (cell_of m e);
            rest = map (λ e. cell_at w pool (cell_of m e)) l;
            was = ap (map (λ e. cell_at w pool (cell_of m e))) is;
            there = rw done (reached m w (ports_of words) (cells_of words) pool size t e leavers out near s.place one);
          }

  -- The place of a target that is granted to nobody stays.
  pub none_out : (t : ℕ) → ((i : ℕ) → asks sets i t ≡ false) → cell_at w (slot_output m c w words st slot mode pool out) t ≡ cell_at w out t
  unfolding slot_output those
  none_out t nobody = rw done (untouched m w (ports_of words) (cells_of words) pool size t leavers out near s.place (ap length (those_agree (λ e. not (granted m sets e)) (to_target m t) (λ e. false) agree leavers granted_all) ∙ nothing leavers))
    where
      agree : (e : ℕ) → not (granted m sets e) ≡ false → to_target m t e ≡ false
      agree e a = refuted (to_target m t e) (λ y. let at : target_of m e ≡ t = eqb-true (target_of m e) t y in true≢false (sym (rw at at (not-false (granted m sets e) a)) ∙ nobody (initiator_of m e)))

      nothing : (l : List ℕ) → length (those (λ e. false) l) ≡ 0
      nothing [] = refl
      nothing (x ∷ l) = nothing l

  -- What is past the targets stays, and so does the length.
  pub past_out : (k : ℕ) → ports_of words * w ≤ k → get_or (slot_output m c w words st slot mode pool out) k 0 ≡ get_or out k 0
  unfolding slot_output
  past_out k h = rw done (past m w (ports_of words) (cells_of words) pool size k h leavers out near s.place)

  pub length_out : length (slot_output m c w words st slot mode pool out) ≡ length out
  unfolding slot_output
  length_out = rw done (forwarded_long m w (ports_of words) (cells_of words) pool size leavers out near s.place)
