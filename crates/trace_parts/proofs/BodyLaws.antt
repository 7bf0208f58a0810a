-- What is known of a complete body, of a sound one, of one among other bytes, and of a block in a body.
use mathlib.Core.Path.{◌≡◌, sym}
use mathlib.Core.Bool.{true, false}
use mathlib.Core.List.{List}
use Prim.Native.Nat.{ℕ, suc, ◌+◌, ◌≤◌, ◌<◌}
use native.Mathlib.Nat.{mul-le-mul_right, suc-mul}
use native.Mathlib.Omega.{arith}
use lib.ListN.{length, drop, length-take, length-drop}
use borrow.Author.Tests.{eqb-true, ltb-true, eq-eqb}
use Rattle.laws.specs.Parts.{part}
use Rattle.laws.specs.Tests.{between}
use Rattle.laws.proofs.Tests.{both, every, refuted, same, from_to, in_range}
use Rattle.words.specs.Check.{intact}
use Rattle.trace_parts.specs.Layout.{block_len, body_len, body_size, most_slots}
use Rattle.trace_parts.specs.Body.{fields_of, formed, complete, body_sound, block_at, has_block}

pub least_body : (n slots : ℕ) → 5 ≤ body_len n slots
unfolding body_len
least_body n slots = omega arith

pub record Complete (m n slots : ℕ) (body : List ℕ) : Type 0 where
  pub some : 1 ≤ n
  pub ports : n ≤ m
  pub least : 1 ≤ slots
  pub most : slots ≤ most_slots n
  pub long : length body ≡ body_len n slots

pub completed : (m n slots : ℕ) (body : List ℕ) → complete m n slots body ≡ true → Complete m n slots body
unfolding complete
completed m n slots body e =
    let (a, r) = both (between 1 m n) _ e in
    let (b, c) = both (between 1 (most_slots n) slots) _ r in
    let (some, ports) = from_to 1 m n a in
    let (least, most) = from_to 1 (most_slots n) slots b in
    record { some = some; ports = ports; least = least; most = most; long = eqb-true _ _ c }

pub is_complete : {m n slots : ℕ} {body : List ℕ} → Complete m n slots body → complete m n slots body ≡ true
unfolding complete
is_complete h = every (in_range h.some h.ports) (every (in_range h.least h.most) (eq-eqb _ _ h.long))

pub record Sound (m n slots : ℕ) (body : List ℕ) : Type 0 where
  pub whole : Complete m n slots body
  pub intact : intact body ≡ true
  pub form : formed n (fields_of body) ≡ true

pub sound : (m n slots : ℕ) (body : List ℕ) → body_sound m n slots body ≡ true → Sound m n slots body
unfolding body_sound
sound m n slots body e =
    let (a, r) = both (complete m n slots body) _ e in
    let (b, c) = both (intact body) _ r in
    record { whole = completed m n slots body a; intact = b; form = c }

pub is_sound : {m n slots : ℕ} {body : List ℕ} → Sound m n slots body → body_sound m n slots body ≡ true
unfolding body_sound
is_sound h = every (is_complete h.whole) (every h.intact h.form)

-- a body that is there lies within the bytes
pub room : (n slots at : ℕ) (s : List ℕ) → length (part at (body_len n slots) s) ≡ body_len n slots → at + body_len n slots ≤ length s
room n slots at s e =
    let least = least_body n slots in
    omega (arith, length-take (body_len n slots) (drop at s), length-drop at s)

-- a sound body is as long as its size says, so a part of that size tells the same as one of that length
module _ (m n slots at : ℕ) (s : List ℕ) where
  size_known : (body : List ℕ) → body_sound m n slots body ≡ true → body_size m n slots ≡ body_len n slots
  size_known body e =
      let whole = (sound m n slots body e).whole in
      rw (in_range whole.some whole.ports)

  pub same_part : body_sound m n slots (part at (body_size m n slots) s) ≡ body_sound m n slots (part at (body_len n slots) s)
  same_part = same _ _ (λ e. rw (size_known _ e) at e) (λ e. rw (size_known _ e) e)

  -- too few bytes from there on
  pub cut_short : length s < at + body_size m n slots → false ≡ body_sound m n slots (part at (body_len n slots) s)
  cut_short h = sym (refuted _ (λ e. omega (arith, size_known _ e, room n slots at s (sound m n slots _ e).whole.long)))

-- a body that has slot k
pub record Block (m n slots k : ℕ) (body : List ℕ) : Type 0 where
  pub ports : n ≤ m
  pub fits : block_at n k + block_len n ≤ length body

pub block : (m n slots k : ℕ) (body : List ℕ) → has_block m n slots k body ≡ true → Block m n slots k body
unfolding has_block body_len
block m n slots k body e =
    let (a, l) = both (complete m n slots body) _ e in
    let whole = completed m n slots body a in
    let long = whole.long in
    let more : suc k ≤ slots = ltb-true k slots l in
    let within = mul-le-mul_right (block_len n) more in
    let next = suc-mul k (block_len n) in
    record { ports = whole.ports; fits = omega arith }
