-- The offsets are a clock that goes through every pair in turn. So each pair is favoured once in any n² served slots, and has its share of them.
use mathlib.Core.Path.{◌≡◌, refl, sym, ◌∙◌}
use mathlib.Core.Bool.{Bool, true, false, ◌&&◌, cond}
use mathlib.Core.List.{List, [], ◌∷◌}
use Prim.Native.Nat.{ℕ, suc, ◌+◌, ◌*◌, ◌/◌, ◌%◌, ◌≤◌, ◌<◌}
use native.Mathlib.Nat.{mod-lt, mod-eq_of_lt, mod_self, mod-add-mod, add-zero, add-mod_right, mul-le-mul_right, mul-add-mod_self_right, add-mul-mod_self_right, mul-add-div_right, add-mul-div_right, div-eq_of_lt, div-add-mod'}
use native.Mathlib.Decide.{dec_lt}
use native.Mathlib.Omega.{arith}
use lib.Dec.{eqb}
use borrow.Author.Tests.{eq-eqb, ne_eqb, eqb-true}
use Rattle.laws.specs.Steps.{steps}
use Rattle.laws.specs.Sets.{tally}
use Rattle.laws.proofs.Tests.{arms, both, every}
use Rattle.laws.proofs.Tallies.{tally_found, tally-round, tally_stretch}
use Rattle.ports.specs.declared.state.State.{State}
use Rattle.lcf.specs.Advance.{advance}
use Rattle.demands.specs.History.{Below, how_many, InEach, InServed, quota, ByValue, First, Fair}

pub advance_below : (st : State) → Below st → Below (advance st)
unfolding advance
advance_below st b = record {
  initiator = mod-lt (st.initiator.0 + 1) (omega arith);
  target = arms (λ x. x < st.ports) (eqb ((st.initiator.0 + 1) % st.ports) 0) _ _ (λ e. mod-lt (st.target.0 + 1) (omega arith)) (λ e. b.target);
}

-- ---- the offsets as a clock: I goes round in laps of n, and J counts the laps, modulo n

pub record At (n T : ℕ) (st : State) : Type 0 where
  pub ports : st.ports ≡ n
  pub initiator : st.initiator.0 ≡ T % n
  pub target : st.target.0 ≡ T / n % n

-- a time is a lap and a place in it
pub the_place : (n j x : ℕ) → x < n → (j * n + x) % n ≡ x
the_place n j x h = mul-add-mod_self_right j n x ∙ mod-eq_of_lt h

pub the_lap : (n j x : ℕ) → x < n → (j * n + x) / n ≡ j
the_lap n j x h = let some : 0 < n = omega arith in rw (mul-add-div_right, div-eq_of_lt, add-zero)

pub at_first : (n : ℕ) (st : State) → st.ports ≡ n → Below st → At n (st.target.0 * n + st.initiator.0) st
at_first n st ports b =
    let x< : st.initiator.0 < n = omega (arith, b.initiator) in
    let j< : st.target.0 < n = omega (arith, b.target) in
    record { ports = ports; initiator = sym (the_place n st.target.0 st.initiator.0 x<); target = rw (the_lap n st.target.0 st.initiator.0 x<) (sym (mod-eq_of_lt j<)) }

pub at_next : (n T : ℕ) (st : State) → 0 < n → At n T st → At n (suc T) (advance st)
unfolding advance
at_next n T st some at = go (dec_lt (T % n + 1) n)
  where
    is : T ≡ T / n * n + T % n
    is = sym (div-add-mod' T n)

    go : Dec (T % n + 1 < n) → At n (suc T) (advance st)
    go (yes h) =
        let e : suc T ≡ T / n * n + (T % n + 1) = omega (arith, is) in
        record {
          ports = at.ports;
          initiator = rw (at.ports, at.initiator, mod-eq_of_lt h, e, the_place n (T / n) (T % n + 1) h);
          target = rw (at.ports, at.initiator, mod-eq_of_lt h, ne_eqb (T % n + 1) 0 (λ q. omega arith), e, the_lap n (T / n) (T % n + 1) h) at.target;
        }
    go (no h) =
        let last : T % n + 1 ≡ n = omega (arith, mod-lt T some) in
        let e : suc T ≡ (T / n + 1) * n + 0 = omega (arith, is) in
        record {
          ports = at.ports;
          initiator = rw (at.ports, at.initiator, last, mod_self, e, the_place n (T / n + 1) 0 some);
          target = rw (at.ports, at.initiator, last, mod_self, at.target, e, the_lap n (T / n + 1) 0 some) (mod-add-mod (T / n) n 1);
        }

-- ---- a history

pub by_value : {S C : Type 0} (next : S → C → S) (calls : List C) (st : S) → InEach next ByValue st calls
unfolding InEach
by_value next [] st = tt
by_value next (c ∷ calls) st = (tt, by_value next calls (next st c))

-- p tells times at which the state favours the pair
module _ {S C : Type 0} {view : S → State} {Kept : S → C → Type 0} {next : S → C → S} {served connects : S → C → Bool} {Waiting : S → C → Type 0}
    {Favours : State → Type 0} (fair : Fair view Kept next served connects Waiting Favours) (n : ℕ) (some : 0 < n) (p : ℕ → Bool)
    (tells : (T : ℕ) (st : State) → At n T st → p T ≡ true → Favours st) where
  -- so the pair is connected at each of them
  hits : (calls : List C) (st : S) (T : ℕ) → At n T (view st) → InEach next Kept st calls → InServed next served Waiting st calls
      → tally p (T + how_many next served st calls) ≤ tally p T + how_many next connects st calls
  unfolding how_many InEach steps
  hits [] st T at k w = rw (add-zero T) (omega arith)
  hits (c ∷ calls) st T at k w = go (served st c) refl (λ T' at'. hits calls (next st c) T' at' k.1 w.1)
    where
      W : ℕ
      W = how_many next served (next st c) calls

      H : ℕ
      H = how_many next connects (next st c) calls

      now : (b : Bool) → p T ≡ b → served st c ≡ true → cond b (suc (tally p T)) (tally p T) ≤ tally p T + cond (connects st c) 1 0
      now true q e = let hit : connects st c ≡ true = fair.favours st c k.0 e (w.0 e) (tells T (view st) at q) in rw hit (omega arith)
      now false q e = omega arith

      go : (s : Bool) → served st c ≡ s → ((T' : ℕ) → At n T' (view (next st c)) → tally p (T' + W) ≤ tally p T' + H)
          → tally p (T + (cond s 1 0 + W)) ≤ tally p T + (cond (connects st c) 1 0 + H)
      go false e rest =
          let same : T + (0 + W) ≡ T + W = omega arith in
          rw same (omega (arith, rest T (rw (fair.moves.declined_keeps st c k.0 e) at)))
      go true e rest =
          let on : T + (1 + W) ≡ suc T + W = omega arith in
          rw on (omega (arith, rest (suc T) (rw (fair.moves.served_advances st c k.0 e) (at_next n T (view st) some at)), now (p T) refl e))

  -- if c or more of any P times are such, c or more of any P served calls connect it
  pub fair_stretch : (P c : ℕ) → ((T : ℕ) → tally p T + c ≤ tally p (T + P)) → (st : S) (calls : List C) → InEach next Kept st calls
      → (view st).ports ≡ n → Below (view st) → InServed next served Waiting st calls → how_many next served st calls / P * c ≤ how_many next connects st calls
  fair_stretch P c each st calls kept ports b w =
      let T = (view st).target.0 * n + (view st).initiator.0 in
      omega (arith, tally_stretch p P c each T (how_many next served st calls), hits calls st T (at_first n (view st) ports b) kept w)

-- ---- the share: the pair comes once in n² times

-- the offsets are the same again after n² times
pub same_again : (n T : ℕ) → 0 < n → ((T + n * n) % n ≡ T % n) × ((T + n * n) / n ≡ T / n + n)
same_again n T some = (add-mul-mod_self_right T n n, add-mul-div_right T n some)

module _ (n i t : ℕ) (i< : i < n) (t< : t < n) where
  turns : ℕ → Bool
  turns T = eqb (T % n) i && eqb (T / n % n) t

  turns_again : (T : ℕ) → turns (T + n * n) ≡ turns T
  unfolding turns
  turns_again T = let (x, y) = same_again n T (omega arith) in rw (x, y, add-mod_right (T / n) n)

  turns_once : (T : ℕ) → tally turns T + 1 ≤ tally turns (T + n * n)
  unfolding turns
  turns_once T = omega (
    arith,
    tally-round turns (n * n) turns_again T,
    tally_found turns 0 (t * n + i) (n * n) (omega arith) (omega (arith, mul-le-mul_right n t<))
        (every (eq-eqb _ i (the_place n t i i<)) (eq-eqb _ t (rw (the_lap n t i i<) (mod-eq_of_lt t<)))),
  )

  turns_first : (T : ℕ) (st : State) → At n T st → turns T ≡ true → First i t st
  unfolding turns
  turns_first T st at e = let (x, y) = both (eqb (T % n) i) _ e in (at.initiator ∙ eqb-true _ i x, at.target ∙ eqb-true _ t y)

module _ {S C : Type 0} {view : S → State} {Kept : S → C → Type 0} {next : S → C → S} {served connects : S → C → Bool} {Waiting : S → C → Type 0} {i t : ℕ}
    (fair : Fair view Kept next served connects Waiting (First i t)) where
  -- of W served calls, in each of which the pair waits, W / n² or more connect it, if each call kept its promise
  pub fair_share : (st : S) (calls : List C) → InEach next Kept st calls → Below (view st) → i < (view st).ports → t < (view st).ports
      → InServed next served Waiting st calls → quota (view st).ports (how_many next served st calls) ≤ how_many next connects st calls
  fair_share st calls kept b i< t< w =
      let n = (view st).ports in
      omega (arith, fair_stretch fair n (omega arith) (turns n i t i< t<) (turns_first n i t i< t<) (n * n) 1 (turns_once n i t i< t<) st calls kept refl b w)
