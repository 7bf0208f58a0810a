-- The rule over columns agrees with the plain one, target by target.
use mathlib.Core.Path.{◌≡◌, refl, sym, ap, ◌∙◌}
use mathlib.Core.Logic.{◌≢◌}
use mathlib.Core.Bool.{Bool, true, false, not, ◌&&◌, ◌||◌, cond, true≢false}
use mathlib.Core.List.{List, map}
use Prim.Native.Nat.{ℕ, zero, suc, ◌+◌, ◌-◌, ◌%◌, ◌^◌, ◌≤◌, ◌<◌}
use native.Mathlib.Nat.{mod-lt, mod-eq_of_lt, zero-div, zero-sub, lt_of_le_of_lt}
use native.Mathlib.Decide.{dec_lt, ℕ_discrete}
use native.Mathlib.Numerals.{add-one}
use native.Mathlib.Omega.{arith}
use lib.Bits.{and_le_r}
use lib.Count.{ones, ones_in, ones-le, ones_cat}
use lib.Dec.{eqb}
use lib.Pow.{pow_pos, mod-pow-add}
use lib.ListN.{get_or, set, get_or-map}
use lib.Seq.{get_or-set_other, set-get_or}
use borrow.Author.Tests.{eqb-true, eqb-false, eq-eqb, ne_eqb, not-true}
use Rattle.laws.specs.Steps.{steps}
use Rattle.laws.specs.Sets as sets
use Rattle.laws.specs.Sets.{digit, has, asks, with, without, sizes}
use Rattle.laws.proofs.Words.{has_and}
use Rattle.laws.proofs.Members.{has_none, has-without, has-gathered, row_emptied}
use Rattle.laws.proofs.Tests.{both, arms}
use Rattle.ports.specs.Ready.{Ready}
use Rattle.choices.specs.Choice.{fewest}
use Rattle.choices.specs.Join.{join, join_live}
use Rattle.choices.proofs.Choices.{places_apart}
use Rattle.choices.proofs.Ports.{choice_below}
use Rattle.central.specs.Central as plain
use Rattle.ports.specs.declared.state.State.{State}
use Rattle.choices.specs.declared.work.Work.{Work}
use Rattle.columns.specs.Transpose.{columns, column}
use Rattle.columns.specs.Planes.{value, digits, less, least, winner}
use Rattle.columns.specs.Serving.{no_planes, counted, target, favoured, among, won, serve, InRange}
use Rattle.columns.specs.declared.serving.Board.{Board}
use Rattle.columns.specs.declared.serving.Served.{Served}
use Rattle.columns.specs.declared.planes.Planes.{Planes}
use Rattle.columns.proofs.Digits.{two, digit_lt, ones_without, mask_below, mask_past}
use Rattle.columns.proofs.Values.{number_lt, number_more, number-less}
use Rattle.columns.proofs.Turned.{has-column, column_lt}
use Rattle.columns.proofs.Winning.{least_in, least_is}

no_digit : (i : ℕ) → digit 0 i ≡ 0
no_digit i = ap (λ z. z % 2) (zero-div (2 ^ i))

same_digit : (s t k j : ℕ) → has s k ≡ has t j → digit s k ≡ digit t j
same_digit s t k j =
    two (λ x y. eqb x 1 ≡ eqb y 1 → x ≡ y) (λ e. refl) (λ e. absurd (true≢false (sym e))) (λ e. absurd (true≢false e)) (λ e. refl) _ _ (digit_lt s k) (digit_lt t j)

module _ (st : State) (ws : List ℕ) where
  -- before target k: the columns say who asks for the targets to come, and the planes how many each asks for
  pub record Agrees (k : ℕ) (w : Work) (b : Board) : Type 0 where
    pub below : (i : ℕ) → has b.free i ≡ true → i < st.ports
    pub live : (i j : ℕ) → i < st.ports → k ≤ j → j < st.ports → asks w.live i (target st j) ≡ (has b.free i && has (column ws (target st j)) i)
    pub few : (i : ℕ) → has b.free i ≡ true → ones (get_or w.live i 0) ≤ 16
    pub number : (i : ℕ) → has b.free i ≡ true → value (digits b.planes) i ≡ ones (get_or w.live i 0) % 16

  module _ (ready : Ready 16 st) (k : ℕ) (k< : k < st.ports) (w : Work) (b : Board) (is : Agrees k w b) where
    abbrev t : ℕ
    t = target st k

    abbrev a : ℕ
    a = favoured st k

    abbrev x : ℕ
    x = column ws (target st k)

    abbrev m : ℕ
    m = among st ws k b

    a< : a < st.ports
    a< = mod-lt _ (omega arith)

    t< : t < st.ports
    t< = mod-lt _ (omega arith)

    in_both : (i : ℕ) → has m i ≡ true → (has b.free i ≡ true) × (has x i ≡ true)
    in_both i h = both (has b.free i) (has x i) (sym (has_and b.free x i) ∙ h)

    inside : (i : ℕ) → has m i ≡ true → i < st.ports
    inside i h = is.below i (in_both i h).0

    asking : (i : ℕ) → i < st.ports → asks w.live i t ≡ has m i
    asking i h = is.live i k h (omega arith) k< ∙ sym (has_and b.free x i)

    -- of those in m, one more than the planes' number
    counts : (i : ℕ) → has m i ≡ true → ones (get_or w.live i 0) ≡ value (digits (less b.planes x)) i + 1
    counts i h =
        let (free, asked) = in_both i h in
        let one : digit x i ≡ 1 = eqb-true (digit x i) 1 asked in
        let row : digit (get_or w.live i 0) t ≡ 1 = eqb-true _ 1 (asking i (inside i h) ∙ h) in
        omega (arith, number-less b.planes x i, number_lt (less b.planes x) i, is.number i free, is.few i free, ones_without (get_or w.live i 0) t)

    sized : (i : ℕ) → get_or (sizes w.live) i 0 ≡ ones (get_or w.live i 0)
    unfolding ones ones_in
    sized i = get_or-map ones w.live i 0

    word : m < 2 ^ 32
    word = lt_of_le_of_lt (and_le_r b.free x) (omega (arith, column_lt ws (target st k)))

    -- nobody is joined, or the plain rule's winner is
    data Outcome (c : ℕ) : Type 0 where
      nobody : m ≡ 0 → c ≡ a → Outcome c
      joins : has m c ≡ true → c ≡ plain.winner w.live st.ports t a → Outcome c

    outcome : Outcome (won st ws k b)
    unfolding winner plain.winner fewest
    outcome = go (eqb m 0) (has m a) refl refl
      where
        go : (u v : Bool) → eqb m 0 ≡ u → has m a ≡ v → Outcome (cond (u || v) a (least m (less b.planes x) a))
        go true v p q = nobody (eqb-true m 0 p) refl
        go false true p q = joins q (rw (asking a a<, q))
        go false false p q = let some = eqb-false m 0 p in
            joins (least_in m (less b.planes x) st.ports a a< some word inside)
            (rw (asking a a<, q) (least_is m (less b.planes x) st.ports a a< some word inside _ _ (λ i l. has-gathered (λ i. asks w.live i t) st.ports i l ∙ asking i l) (λ i h. sized i ∙ counts i h)))

    -- ---- nobody

    fewest_lt : fewest w.live st.ports t a < st.ports
    unfolding fewest
    fewest_lt = choice_below (has (sets.column w.live st.ports t)) (λ i. get_or (sizes w.live) i 0) st.ports a a<

    winner_lt : plain.winner w.live st.ports t a < st.ports
    unfolding plain.winner
    winner_lt = arms (λ z. z < st.ports) (asks w.live a t) a (fewest w.live st.ports t a) (λ _. a<) (λ _. fewest_lt)

    serves_nobody : m ≡ 0 → plain.serve st k w ≡ w
    unfolding plain.serve join_live
    serves_nobody e =
        let c = plain.winner w.live st.ports t a in
        let no : asks w.live c t ≡ false = asking c winner_lt ∙ ap (λ s. has s c) e ∙ has_none c in
        rw no

    goes_on : m ≡ 0 → Agrees (suc k) w (record { free = b.free; planes = less b.planes x })
    goes_on e = record {
      below = is.below;
      live = λ i j h l z. is.live i j h (omega arith) z;
      few = is.few;
      number = λ i h.
          let none : digit x i ≡ 0 = same_digit x 0 i i (unasked i h) ∙ no_digit i in
          omega (arith, number-less b.planes x i, number_lt (less b.planes x) i, is.number i h);
    }
      where
        unasked : (i : ℕ) → has b.free i ≡ true → has x i ≡ has 0 i
        unasked i h = ap (λ f. f && has x i) (sym h) ∙ sym (has_and b.free x i) ∙ ap (λ s. has s i) e

    -- ---- a pair is joined

    module _ (c : ℕ) (h : has m c ≡ true) where
      serves_joined : c ≡ plain.winner w.live st.ports t a → plain.serve st k w ≡ join w c t
      unfolding plain.serve join_live
      serves_joined e = rw (← e, asking c (inside c h), h)

      row-joined : (i : ℕ) → i ≢ c → get_or (join w c t).live i 0 ≡ without (get_or w.live i 0) t
      unfolding join
      row-joined i e =
          let g : ℕ → ℕ = λ row. without row t in
          ap (get_or (map g (set w.live c 0)) i) (sym (zero-sub _)) ∙ get_or-map g (set w.live c 0) i 0 ∙ ap g (get_or-set_other w.live c i 0 0 e)

      row_gone : get_or (join w c t).live c 0 ≡ 0
      unfolding join
      row_gone =
          let g : ℕ → ℕ = λ row. without row t in
          ap (get_or (map g (set w.live c 0)) c) (sym (zero-sub _)) ∙ get_or-map g (set w.live c 0) c 0 ∙ ap g (row_emptied w.live c) ∙ zero-sub _

      still : (i : ℕ) → has (without b.free c) i ≡ true → (i ≢ c) × (has b.free i ≡ true)
      still i l = let (x, y) = both (not (eqb i c)) (has b.free i) (sym (has-without b.free c i) ∙ l) in (eqb-false i c (not-true _ x), y)

      -- row i loses the target just if its column has i
      lost : (i : ℕ) → has b.free i ≡ true → digit (get_or w.live i 0) t ≡ digit x i
      lost i free = same_digit (get_or w.live i 0) x t i (is.live i k (is.below i free) (omega arith) k< ∙ ap (λ f. f && has x i) free)

      joined_on : Agrees (suc k) (join w c t) (record { free = without b.free c; planes = less b.planes x })
      joined_on = record {
        below = λ i l. is.below i (still i l).1;
        live = λ i j i< l j<. go i j i< l j< (ℕ_discrete i c);
        few = λ i l. let (e, free) = still i l in rw (row-joined i e) (omega (arith, is.few i free, ones_without (get_or w.live i 0) t));
        number = λ i l.
            let (e, free) = still i l in
            rw (row-joined i e)
            (omega (arith, number-less b.planes x i, number_lt (less b.planes x) i, is.number i free, ones_without (get_or w.live i 0) t, lost i free, digit_lt x i));
      }
        where
          go : (i j : ℕ) → i < st.ports → suc k ≤ j → j < st.ports → Dec (i ≡ c)
              → asks (join w c t).live i (target st j) ≡ (has (without b.free c) i && has (column ws (target st j)) i)
          go i j i< l j< (yes e) = rw (e, row_gone, has-without, eq-eqb c c refl) (has_none (target st j))
          go i j i< l j< (no e) =
              ap (λ row. has row (target st j)) (row-joined i e)
              ∙ has-without (get_or w.live i 0) t (target st j)
              ∙ ap (λ z. not z && asks w.live i (target st j)) (ne_eqb _ _ (places_apart st.ports st.target.0 k j ready.target l j<))
              ∙ is.live i j i< (omega arith) j<
              ∙ ap (λ z. z && has (column ws (target st j)) i) (sym (has-without b.free c i ∙ ap (λ z. not z && has b.free i) (ne_eqb i c e)))

    -- ---- so the next target is met in agreement

    next : (c : ℕ) → Outcome c → Agrees (suc k) (plain.serve st k w) (record { free = cond (has m c) (without b.free c) b.free; planes = less b.planes x })
    next c (nobody e q) = rw (serves_nobody e, e, has_none c) (goes_on e)
    next c (joins h q) = rw (serves_joined c h q, h) (joined_on c h)

    pub agrees-next : Agrees (suc k) (plain.serve st k w) (serve st ws k b).board
    unfolding serve
    agrees-next = next (won st ws k b) outcome

    pub winner_below : won st ws k b < st.ports
    winner_below = go (won st ws k b) outcome
      where
        go : (c : ℕ) → Outcome c → c < st.ports
        go c (nobody e q) = rw q a<
        go c (joins h q) = inside c h

    pub held_next : (held : List ℕ) → held ≡ w.held
        → set held (won st ws k b) (cond (has m (won st ws k b)) (with (get_or held (won st ws k b) 0) t) (get_or held (won st ws k b) 0)) ≡ (plain.serve st k w).held
    unfolding join
    held_next held same = go (won st ws k b) outcome
      where
        go : (c : ℕ) → Outcome c → set held c (cond (has m c) (with (get_or held c 0) t) (get_or held c 0)) ≡ (plain.serve st k w).held
        go c (nobody e q) = rw (serves_nobody e, e, has_none c) (set-get_or held c 0 ∙ same)
        go c (joins h q) = rw (serves_joined c h q, h, same)

-- ---- the first target is met in agreement

-- the first k digits, and one more
none_counted : (s i : ℕ) → value (digits no_planes) i ≡ ones (s % 1) % 16
unfolding value ones
none_counted s i =
    let e : s % 1 ≡ 0 = omega arith in
    rw (no_digit i, e)

ones_more : (s k : ℕ) → ones (s % 2 ^ suc k) ≡ ones (s % 2 ^ k) + digit s k
unfolding ones
ones_more s k =
    let e : 1 + k ≡ suc k = omega arith in
    ap (λ z. ones (s % 2 ^ z)) (sym e) ∙ ap ones (mod-pow-add s 1 k) ∙ ones_cat k (digit s k) (s % 2 ^ k) (mod-lt s (pow_pos k)) ∙ omega (arith, ones_digit (digit s k) (digit_lt s k))
  where
    ones_digit : (d : ℕ) → d < 2 → ones d ≡ d
    ones_digit zero h = refl
    ones_digit (suc zero) h = refl
    ones_digit (suc (suc d)) h = absurd (omega arith)

module _ (rows : List ℕ) (small : (i : ℕ) → get_or rows i 0 < 2 ^ 16) where
  counted_is : (i : ℕ) → i < 16 → (k : ℕ) → k ≤ 16 → value (digits (counted (columns rows) k)) i ≡ ones (get_or rows i 0 % 2 ^ k) % 16
  unfolding steps
  counted_is i i< zero h = none_counted (get_or rows i 0) i
  counted_is i i< (suc k) h =
      let column-digit : digit (column (columns rows) k) i ≡ digit (get_or rows i 0) k = same_digit _ _ i k (has-column rows small i k i< h) in
      number_more (counted (columns rows) k) (column (columns rows) k) i
      ∙ omega (arith, counted_is i i< k (omega arith), ones_more (get_or rows i 0) k)

  pub agrees_first : (st : State) → Ready 16 st → (held : List ℕ)
      → Agrees st (columns rows) 0 (record { live = rows; held = held }) (record { free = 2 ^ st.ports - 1; planes = counted (columns rows) 16 })
  agrees_first st ready held = record {
    below = below;
    live = λ i j i< l j<.
        let t< : target st j < st.ports = mod-lt _ (omega arith) in
        rw (eq-eqb (digit (2 ^ st.ports - 1) i) 1 (mask_below st.ports i i<)) (sym (has-column rows small i (target st j) (omega (arith, ready.ports)) (omega (arith, ready.ports))));
    few = λ i h. ones-le 16 (get_or rows i 0) (small i);
    number = λ i h. counted_is i (omega (arith, below i h, ready.ports)) 16 (omega arith) ∙ ap (λ s. ones s % 16) (mod-eq_of_lt (small i));
  }
    where
      below : (i : ℕ) → has (2 ^ st.ports - 1) i ≡ true → i < st.ports
      below i h = go (dec_lt i st.ports)
        where
          go : Dec (i < st.ports) → i < st.ports
          go (yes l) = l
          go (no l) = absurd (true≢false (sym h ∙ ap (λ d. eqb d 1) (mask_past st.ports i (omega arith))))

-- ---- the loop

-- after k targets, from the table and the sets that there were at first
pub record Meets (st : State) (ws rows held : List ℕ) (k : ℕ) (b : Board) (now : List ℕ) : Type 0 where
  pub board : Agrees st ws k (plain.central st (record { live = rows; held = held }) k) b
  pub sets : now ≡ (plain.central st (record { live = rows; held = held }) k).held

pub meets_first : (st : State) → Ready 16 st → (rows held : List ℕ) → ((i : ℕ) → get_or rows i 0 < 2 ^ 16) → {ws : List ℕ} {free : ℕ} {p : Planes}
    → ws ≡ columns rows → free ≡ 2 ^ st.ports - 1 → p ≡ counted ws 16 → Meets st ws rows held 0 (record { free = free; planes = p }) held
unfolding steps
meets_first st ready rows held small e f g = record { board = rw (f, g, e) (agrees_first rows small st ready held); sets = refl }

pub meets_next : (st : State) → Ready 16 st → (ws rows held : List ℕ) (k : ℕ) → k < st.ports → {b : Board} {now : List ℕ} {s : Served} {v : ℕ}
    → s ≡ serve st ws k b → v ≡ cond s.joined (with (get_or now s.winner 0) s.target) (get_or now s.winner 0)
    → Meets st ws rows held k b now → Meets st ws rows held (k + 1) s.board (set now s.winner v)
unfolding steps serve
meets_next st ready ws rows held k k< {b} {now} e f is = record {
  board = rw (add-one, e) (agrees-next st ws ready k k< _ b is.board);
  sets = rw (f, e, add-one) (held_next st ws ready k k< _ b is.board now is.sets);
}

pub in_range : (st : State) → Ready 16 st → (ws rows held : List ℕ) (k : ℕ) → k < st.ports → {b : Board} {now : List ℕ} → Meets st ws rows held k b now → InRange st ws k b
in_range st ready ws rows held k k< {b} is = omega (arith, winner_below st ws ready k k< _ b is.board, ready.ports)
