-- What the tests of other crates say here.
use Rattle.std.proofs.Common.{◌≡◌, ℕ, suc, ◌+◌, ◌-◌, ◌*◌, ◌%◌, ◌^◌, ◌<◌, ◌≤◌, true, false, ◌||◌, ltb, leb, ◌⊎◌, List, length, take, sym, ap, ◌∙◌, inl, inr, ⊎_elim, mul-le-mul_right, mod-eq_of_lt, suc-mul, eq-or-lt_of_le, arith, length-take-le, take-take, ltb-true, lt-ltb, le-leb, leb-false}
use mathlib.Core.Bool.{and-true}
use Rattle.laws.specs.Tests.{between}
use Rattle.laws.proofs.Tests.{both, neither, same, from_to, in_range}
use Rattle.words.specs.Check.{checked, sealed}
use Rattle.trace_parts.specs.Layout.{block_len, body_len, body_size, most_mode, most_slots}
use Rattle.trace_parts.specs.Body.{formed, block_at}
use Rattle.trace_parts.specs.declared.body.Fields.{Fields}
use Rattle.import_steps.specs.Taking.{Known}
use Rattle.import_steps.specs.Laying.{is_open}

below_or : (a b : ℕ) → a ≤ b → (a < b) ⊎ (a ≡ b)
below_or a b h = ⊎_elim (λ e. inr e) (λ l. inl l) (eq-or-lt_of_le h)

-- a slot more is allowed where there are fewer than the most
pub room : (slots n : ℕ) → slots < 2 ^ 16 → between 1 (most_slots n) ((slots + 1) % 2 ^ 16) ≡ ltb slots (most_slots n)
unfolding most_slots
room slots n small = same _ _
    (λ e.
    let (a, b) = from_to 1 360 ((slots + 1) % 2 ^ 16) e in
    let apart : slots + 1 ≡ 2 ^ 16 → ⊥ = λ f. let none : (slots + 1) % 2 ^ 16 ≡ 0 = rw f in omega arith in
    let is : (slots + 1) % 2 ^ 16 ≡ slots + 1 = mod-eq_of_lt (⊎_elim (λ l. l) (λ f. absurd (apart f)) (below_or (slots + 1) (2 ^ 16) (omega arith))) in
    lt-ltb slots 360 (omega arith))
    (λ e.
    let l : slots < 360 = ltb-true slots 360 e in
    let is : (slots + 1) % 2 ^ 16 ≡ slots + 1 = mod-eq_of_lt (omega arith) in
    in_range {x = (slots + 1) % 2 ^ 16} (omega arith) (omega arith))

-- of fields whose offsets are below n the mode is what is left to test
pub formed_mode : (n : ℕ) (f : Fields) → leb n f.initiator || leb n f.target ≡ false → formed n f ≡ leb f.mode (most_mode n)
unfolding formed
formed_mode n f e =
    let (a, b) = neither (leb n f.initiator) _ e in
    rw (lt-ltb _ _ (leb-false _ _ a), lt-ltb _ _ (leb-false _ _ b)) (and-true _)

pub few_slots : (n : ℕ) → most_slots n < 65535
unfolding most_slots
few_slots n = omega arith

-- one block more; and a frame lies within it
pub block_next : (n slots : ℕ) → 1 ≤ slots → block_at n (slots - 1) + n * 11 ≡ block_at n slots
unfolding block_len
block_next n slots some =
    let next : suc (slots - 1) ≡ slots = omega arith in
    let more : slots * (n * 11) ≡ (slots - 1) * (n * 11) + n * 11 = ap (λ (k : ℕ). k * (n * 11)) (sym next) ∙ suc-mul (slots - 1) (n * 11) in
    omega arith

pub frame_within : (n h : ℕ) → h < n → h * 11 + 11 ≤ n * 11
frame_within n h l = omega (arith, mul-le-mul_right 11 l, suc-mul h 11)

pub ends_before_check : (m n slots size : ℕ) → 1 ≤ n → n ≤ m → size ≡ body_size m n slots → size ≡ block_at n slots + 2
unfolding body_len
ends_before_check m n slots size some most e = e ∙ rw (in_range some most)

pub opened_ports : (m : ℕ) (p : Known) → is_open m p ≡ true → (1 ≤ p.state.ports) × (p.state.ports ≤ m)
unfolding is_open
opened_ports m p e = from_to 1 m p.state.ports (both (between 1 m p.state.ports) _ e).0

-- what is sealed of the first bytes
pub sealed-front : (a len : ℕ) (s : List ℕ) → len ≡ a + 2 → len ≤ length s → sealed (take len s) ≡ checked (take a s)
unfolding sealed
sealed-front a len s e h =
    let long = length-take-le len s h in
    let some : leb 2 len ≡ true = le-leb 2 len (omega arith) in
    let back : len - 2 ≡ a = omega arith in
    rw (long, some, back) (ap checked (take-take a len s (omega arith)))
