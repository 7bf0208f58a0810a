-- The first slots and slot counts that are noted are those of the bodies.
use mathlib.Core.Path.{◌≡◌, refl, sym, ap, ◌∙◌}
use mathlib.Core.Bool.{Bool, true, false, cond}
use mathlib.Core.List.{List, [], ◌∷◌, ◌++◌, map, map-append}
use Prim.Native.Nat.{ℕ, suc, ◌+◌, ◌-◌, ◌≤◌}
use native.Mathlib.Omega.{arith}
use lib.ListN.{length, set, take, length-map, length-set}
use borrow.Author.Tests.{lt-ltb}
use lib.Seq.{take-suc-set, take-take, take_at}
use Rattle.laws.specs.Tests.{between}
use Rattle.laws.proofs.Tests.{in_range}
use Rattle.frames.specs.Part.{most_ports}
use Rattle.trace_parts.specs.Layout.{most_bodies}
use Rattle.captures.specs.Capture.{packet_in}
use Rattle.import_steps.specs.Taking.{begun, same_slot, next_slot, heard, slot_begun, numbered, noted}
use Rattle.import_steps.proofs.Fitting.{Taken, begun-some}
use Rattle.imports.specs.Cut.{Record, Body, Cut, open_body, all_bodies, cut_more}
use Rattle.imports.proofs.Lists.{length_snoc}
use Rattle.imports.proofs.Cases.{cases, declined_cut, same_cut, next_cut, new_cut}
use Rattle.imports.proofs.Good.{Good, all_open, next-begun, declined, same_good, next_good, new_good}

pub length_noted : (b x : ℕ) (s : List ℕ) → length (noted b x s) ≡ length s
unfolding noted
length_noted b x s = go (between 1 (length s) b)
  where
    go : (c : Bool) → length (cond c (set s (b - 1) x) s) ≡ length s
    go true = length-set s (b - 1) x
    go false = refl

module _ (f : Body → ℕ) (bs : List Body) (b : Body) (s : List ℕ) (count : ℕ) (is : count ≡ suc (length bs)) where
  -- what is noted of a body more
  noted_open : count ≤ length s → take (length bs) s ≡ map f bs → take count (noted count (f b) s) ≡ map f (bs ++ (b ∷ []))
  unfolding noted
  noted_open room e =
      let there : between 1 (length s) count ≡ true = in_range {x = count} (omega arith) room in
      let back : count - 1 ≡ length bs = omega arith in
      rw (there, back, is, take-suc-set s (length bs) (f b) (omega arith), e, map-append f bs (b ∷ []))

  -- and what was noted of those before it
  noted-front : take count s ≡ map f (bs ++ (b ∷ [])) → take (length bs) s ≡ map f bs
  noted-front e =
      sym (take-take (length bs) count s (omega arith)) ∙ ap (take (length bs)) (e ∙ map-append f bs (b ∷ [])) ∙ take_at (map f bs) (f b ∷ []) (length bs) (length-map bs f)

-- of all bodies
abbrev pub Noted : (Body → ℕ) → Cut → List ℕ → Type 0
Noted f g s = take g.known.bodies s ≡ map f (all_bodies g)

-- those before the open one
before_open : (n : ℕ) (f : Body → ℕ) (g : Cut) (s : List ℕ) → Good n g → begun g.known ≡ true → Noted f g s → take (length g.bodies) s ≡ map f g.bodies
before_open n f g s h e q =
    noted-front f g.bodies (open_body g) s g.known.bodies (h.bodies ∙ ap length (all_open g e) ∙ length_snoc g.bodies (open_body g)) (q ∙ ap (map f) (all_open g e))

-- a cut whose body is open, and what is noted with it
note_open : (n : ℕ) (f : Body → ℕ) (g : Cut) (s : List ℕ) → Good n g → begun g.known ≡ true → length s ≡ most_bodies → take (length g.bodies) s ≡ map f g.bodies
    → Noted f g (noted g.known.bodies (f (open_body g)) s)
note_open n f g s h e long q =
    let few = h.few in
    rw (all_open g e) (noted_open f g.bodies (open_body g) s g.known.bodies (h.bodies ∙ ap length (all_open g e) ∙ length_snoc g.bodies (open_body g)) (omega arith) q)

noted_none : (b x : ℕ) (s : List ℕ) → b ≡ 0 → noted b x s ≡ s
unfolding noted
noted_none b x s e = rw e

-- what is noted after a record, where x is told of the body that is then open
module _ (n : ℕ) (low : Bool) (r : Record) (g : Cut) (h : Good n g) (f : Body → ℕ) (x : ℕ) (s : List ℕ) (long : length s ≡ most_bodies) (q : Noted f g s) where
  abbrev Goes : Cut → Type 0
  Goes d = (begun d.known ≡ true → f (open_body d) ≡ x) → Noted f d (noted d.known.bodies x s)

  noted-with : (d : Cut) → Good n d → begun d.known ≡ true → take (length d.bodies) s ≡ map f d.bodies → Goes d
  noted-with d good e front told = rw (← told e) (note_open n f d s good e long front)

  noted-declined : (number : ℕ) → Good n (declined_cut g number) → (b : Bool) → begun g.known ≡ b → Goes (declined_cut g number)
  unfolding numbered all_bodies
  noted-declined number good true e told = noted-with (declined_cut g number) good e (before_open n f g s h e q) told
  noted-declined number good false e told = ap (take g.known.bodies) (noted_none g.known.bodies x s (h.none e)) ∙ q

  noted_same : Taken most_ports g.known (length r) (packet_in low r) → same_slot g.known (packet_in low r) ≡ true → Goes (same_cut g r (packet_in low r))
  unfolding heard
  noted_same ok a told =
      let open-now : begun g.known ≡ true = lt-ltb 0 g.known.slots (begun-some g.known (packet_in low r) a) in
      noted-with (same_cut g r (packet_in low r)) (same_good n low r g h ok a) open-now (before_open n f g s h open-now q) told

  noted-next : Taken most_ports g.known (length r) (packet_in low r) → next_slot g.known (packet_in low r) ≡ true → Goes (next_cut g r (packet_in low r))
  unfolding slot_begun
  noted-next ok a told =
      let open-now = next-begun g.known (packet_in low r) a in
      noted-with (next_cut g r (packet_in low r)) (next_good n low r g h ok a) (lt-ltb 0 (g.known.slots + 1) (omega arith)) (before_open n f g s h open-now q) told

  noted_new : Taken most_ports g.known (length r) (packet_in low r) → same_slot g.known (packet_in low r) ≡ false → next_slot g.known (packet_in low r) ≡ false → Goes (new_cut g r (packet_in low r))
  unfolding slot_begun
  noted_new ok a b told =
      noted-with (new_cut g r (packet_in low r)) (new_good n low r g h ok a b) refl (ap (λ (z : ℕ). take z s) (sym h.bodies) ∙ q) told

  pub noted_more : Goes (cut_more most_ports low r g)
  noted_more = cases low r g Goes
      (λ _. noted-declined _ (declined n low r g h) (begun g.known) refl)
      noted_same
      (λ ok _ b. noted-next ok b)
      noted_new
