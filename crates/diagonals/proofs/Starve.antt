-- In each of n slots from offsets (1, 0) on another than initiator 0 stands at target 0 on the diagonal. So a crowd there keeps it out.
use mathlib.Core.Path.{◌≡◌, refl, sym, ap, subst, ◌∙◌}
use mathlib.Core.Logic.{◌≢◌}
use mathlib.Core.Bool.{Bool, true, false}
use mathlib.Core.List.{List, [], ◌∷◌}
use Prim.Native.Nat.{ℕ, zero, suc, ◌+◌, ◌-◌, ◌*◌, ◌/◌, ◌%◌, ◌≤◌, ◌<◌}
use native.Mathlib.Nat.{mod-eq_of_lt, mod_self, zero-mod, div-eq_of_lt, div_self}
use native.Mathlib.Decide.{dec_lt}
use native.Mathlib.Omega.{arith}
use borrow.Author.Tests.{eq-eqb}
use Rattle.laws.proofs.Tests.{refuted}
use Rattle.ports.specs.declared.state.State.{State}
use Rattle.demands.specs.History.{Below, how_many, InEach, InServed, Fair}
use Rattle.demands.proofs.Turns.{At, at_first, at_next}
use Rattle.diagonals.specs.KeptOut.{KeptOut}
use Rattle.diagonals.specs.Crowd.{from_one}
use Rattle.diagonals.proofs.Diagonal.{OnDiagonal}
use Rattle.diagonals.proofs.Aligned.{aligned, aligned_on}

-- what the argument asks of a kind of call: a call that is served on each good state and leaves one, in which all hosts wait for target 0
pub record Crowd {S C : Type 0} (view : S → State) (Kept : S → C → Type 0) (next : S → C → S) (served : S → C → Bool) (connects returned : ℕ → S → C → Bool)
    (Waiting : ℕ → S → C → Type 0) (Good : S → Type 0) (n : ℕ) : Type 0 where
  pub call : S → C
  pub keeps : (s : S) → Good s → Kept s (call s)
  pub serves : (s : S) → Good s → served s (call s) ≡ true
  pub stays : (s : S) → Good s → Good (next s (call s))
  pub waits : (s : S) → Good s → (h : ℕ) → h < n → Waiting h s (call s)
  pub fair : (h : ℕ) → Fair view Kept next served (connects h) (Waiting h) (OnDiagonal h 0)
  pub apart : (s : S) (g h : ℕ) → Good s → connects g s (call s) ≡ true → returned h s (call s) ≡ true → g ≡ h

-- from time 1 on initiator T, and at time n initiator n - 1
other : (n T : ℕ) → 2 ≤ n → 1 ≤ T → T ≤ n → (h : ℕ) × (h < n) × (h ≢ 0) × (aligned n h 0 T ≡ true)
unfolding aligned
other n T two some most = go (dec_lt T n)
  where
    go : Dec (T < n) → (h : ℕ) × (h < n) × (h ≢ 0) × (aligned n h 0 T ≡ true)
    go (yes l) =
        let same : T + T / n ≡ 0 + T % n = omega (arith, div-eq_of_lt l, mod-eq_of_lt l) in
        (T, l, (λ e. omega arith), eq-eqb _ _ (ap (λ x. x % n) same))
    go (no l) =
        let e : T ≡ n = omega arith in
        let some_port : 0 < n = omega arith in
        let row : n - 1 + T / n ≡ n = omega (arith, ap (λ x. x / n) e ∙ div_self some_port) in
        let column : 0 + T % n ≡ 0 = omega (arith, ap (λ x. x % n) e ∙ mod_self n) in
        (n - 1, omega arith, (λ z. omega arith), eq-eqb _ _ (ap (λ x. x % n) row ∙ mod_self n ∙ sym (ap (λ x. x % n) column ∙ zero-mod n)))

module _ {S C : Type 0} {view : S → State} {Kept : S → C → Type 0} {next : S → C → S} {served : S → C → Bool} {connects returned : ℕ → S → C → Bool}
    {Waiting : ℕ → S → C → Type 0} {Good : S → Type 0} (n : ℕ) (two : 2 ≤ n) (crowd : Crowd view Kept next served connects returned Waiting Good n) where
  history : ℕ → S → List C
  history zero s = []
  history (suc k) s = crowd.call s ∷ history k (next s (crowd.call s))

  record Out (k : ℕ) (s : S) : Type 0 where
    kept : InEach next Kept s (history k s)
    slots : how_many next served s (history k s) ≡ k
    waiting : InServed next served (Waiting 0) s (history k s)
    unconnected : how_many next (returned 0) s (history k s) ≡ 0

  out : (k T : ℕ) (s : S) → Good s → At n T (view s) → 1 ≤ T → T + k ≤ n + 1 → Out k s
  unfolding history how_many InEach
  out zero T s good at some most = record { kept = tt; slots = refl; waiting = tt; unconnected = refl }
  out (suc k) T s good at some most =
      let c = crowd.call s in
      let zero< : 0 < n = omega arith in
      let (h, h<, not-zero, on) = other n T two some (omega arith) in
      let e : served s c ≡ true = crowd.serves s good in
      let taken : connects h s c ≡ true = (crowd.fair h).favours s c (crowd.keeps s good) e (crowd.waits s good h h<) (aligned_on n h 0 h< zero< T (view s) at on) in
      let free : returned 0 s c ≡ false = refuted _ (λ q. not-zero (crowd.apart s h 0 good taken q)) in
      let at_after : At n (suc T) (view (next s c)) = rw ((crowd.fair 0).moves.served_advances s c (crowd.keeps s good) e) (at_next n T (view s) zero< at) in
      let rest = out k (suc T) (next s c) (crowd.stays s good) at_after (omega arith) (omega arith) in
      record {
        kept = (crowd.keeps s good, rest.kept);
        slots = rw e (omega (arith, rest.slots));
        waiting = (λ _. crowd.waits s good 0 zero<, rest.waiting);
        unconnected = rw free (omega (arith, rest.unconnected));
      }

  pub keeps_out : (s : S) → Good s → view s ≡ from_one n → KeptOut view Kept next served (returned 0) (Waiting 0) n
  keeps_out s good is =
      let below : Below (from_one n) = record { initiator = omega arith; target = omega arith } in
      let one : (from_one n).target.0 * n + (from_one n).initiator.0 ≡ 1 = omega arith in
      let at : At n 1 (view s) = rw is (subst (λ (T : ℕ). At n T (from_one n)) one (at_first n (from_one n) refl below)) in
      let o = out n 1 s good at (omega arith) (omega arith) in
      record { first = s; calls = history n s; kept = o.kept; ports = at.ports; offsets = rw is below; slots = o.slots; waiting = o.waiting; unconnected = o.unconnected }
