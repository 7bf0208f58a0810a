-- Several bytes at a time: what each makes of the check by itself, laid over one another.
use mathlib.Core.Path.{◌≡◌, refl, sym, ap, ap₂, ◌∙◌}
use mathlib.Core.List.{List, [], ◌∷◌, ◌++◌}
use Prim.Native.Nat.{ℕ, zero, suc, ◌+◌, ◌*◌, ◌/◌, ◌%◌, ◌≤◌, ◌<◌}
use native.Mathlib.Nat.{div-add-mod', add-zero, mod-lt, mod-eq_of_lt, mul-suc}
use native.Mathlib.Omega.{arith}
use borrow.Author.Tests.{lt-ltb}
use lib.Bits.{bit_xor, xor_zero_l, xor_zero_r, xor_comm, xor_lt, xor_block, xor_shifted, xor_shr, xor_mod}
use lib.Dec.{lit<}
use lib.ListN.{length, get_or, take, drop, take-append-drop}
use lib.Seq.{take-add, drop-drop}
use Rattle.std.specs.Int.{w16, to_be_bytes}
use Rattle.std.specs.Simd.{first_chunks}
use Rattle.std.specs.Prelude.{fold}
use Rattle.laws.specs.Steps.{steps}
use Rattle.laws.specs.Bytes.{Bytes}
use Rattle.words.specs.Check.{crc_byte, crc_from}
use Rattle.words.proofs.BytesAt.{four_at}
use Rattle.words.proofs.CheckLaws.{from_small, crc_is_fold}
use Rattle.long_check.specs.Zeros.{passed, zeros, After}
use Rattle.long_check.proofs.Linear.{Word, word_xor, assoc, passed-word, passed_xor, passed_add, lifted}

-- a byte in the high place, and in the low one
high_word : (b : ℕ) → b < 256 → Word (b * 256)
high_word b h = omega arith

low_word : (b : ℕ) → b < 256 → Word b
low_word b h = omega arith

low_small : (c : ℕ) → c % 256 < 256
low_small c = mod-lt c (lit< tt)

high_small : (c : ℕ) → Word c → c / 256 < 256
high_small c h = omega arith

byte_is : (c b : ℕ) → crc_byte c b ≡ passed 8 (bit_xor c (b * 256))
unfolding crc_byte passed
byte_is c b = refl

byte_word : (c b : ℕ) → Word c → b < 256 → Word (crc_byte c b)
byte_word c b w h = rw (byte_is c b) (passed-word 8 _ (word_xor c (b * 256) w (high_word b h)))

-- zeros take a word's high byte eight bits further than its low one
pub two_bytes : (n c : ℕ) → Word c → passed n c ≡ bit_xor (passed (n + 8) (c / 256)) (passed n (c % 256))
two_bytes n c w =
    let a = c / 256 in
    let b = c % 256 in
    let small = high_small c w in
    let up : passed n (a * 256) ≡ passed (n + 8) a = ap (passed n) (sym (lifted 8 a (omega arith))) ∙ sym (passed_add n 8 a) in
    ap (passed n) (sym (div-add-mod' c 256) ∙ sym (xor_shifted a 8 b (low_small c)))
    ∙ passed_xor n (a * 256) b (high_word a small) (low_word b (low_small c)) ∙ ap (λ (x : ℕ). bit_xor x (passed n b)) up

-- a word's bytes
pub bytes_of : (c : ℕ) → Word c → to_be_bytes w16 c ≡ c / 256 ∷ c % 256 ∷ []
bytes_of c w = ap (λ (x : ℕ). x ∷ c % 256 ∷ []) (mod-eq_of_lt (high_small c w))

-- a byte meets the high byte of the check
pub one_byte : (c b : ℕ) → Word c → b < 256 → crc_byte c b ≡ bit_xor (passed 16 (bit_xor (c / 256) b)) (c % 256 * 256)
one_byte c b w h =
    let x = bit_xor c (b * 256) in
    let whole : b * 256 / 256 ≡ b = omega arith in
    let none : b * 256 % 256 ≡ 0 = omega arith in
    let over : x / 256 ≡ bit_xor (c / 256) b = xor_shr c (b * 256) 8 ∙ ap (bit_xor (c / 256)) whole in
    let under : x % 256 ≡ c % 256 = xor_mod c (b * 256) 8 ∙ ap (bit_xor (c % 256)) none ∙ xor_zero_r (c % 256) in
    byte_is c b ∙ two_bytes 8 x (word_xor c (b * 256) w (high_word b h))
    ∙ ap₂ (λ (u v : ℕ). bit_xor (passed 16 u) (passed 8 v)) over under ∙ ap (bit_xor (passed 16 (bit_xor (c / 256) b))) (lifted 8 (c % 256) (omega (arith, low_small c)))

-- behind no check
first_byte : (b : ℕ) → b < 256 → crc_byte 0 b ≡ passed 16 b
first_byte b h = byte_is 0 b ∙ ap (passed 8) (xor_zero_l (b * 256) ∙ sym (lifted 8 b (omega arith))) ∙ sym (passed_add 8 8 b)

-- the check before any bytes passes over them as over zeros
carried : (s : List ℕ) (c : ℕ) → Bytes s → Word c → crc_from c s ≡ bit_xor (crc_from 0 s) (passed (8 * length s) c)
unfolding crc_from passed steps
carried [] c bytes w = sym (xor_zero_l c)
carried (b ∷ s) c bytes w =
    let n = 8 * length s in
    let y = crc_byte 0 b in
    let wy = byte_word 0 b (lit< tt) (bytes 0) in
    let wc = passed-word 8 c w in
    let apart : crc_byte c b ≡ bit_xor y (passed 8 c) =
    byte_is c b ∙ ap (passed 8) (xor_comm c (b * 256)) ∙ passed_xor 8 (b * 256) c (high_word b (bytes 0)) w
    ∙ ap (λ (x : ℕ). bit_xor x (passed 8 c)) (ap (passed 8) (sym (xor_zero_l (b * 256))) ∙ sym (byte_is 0 b)) in
    carried s (crc_byte c b) (λ k. bytes (suc k)) (byte_word c b w (bytes 0))
    ∙ ap (bit_xor (crc_from 0 s)) (ap (passed n) apart ∙ passed_xor n y (passed 8 c) wy wc)
    ∙ sym (assoc (crc_from 0 s) (passed n y) (passed n (passed 8 c)) (from_small s 0 (lit< tt)) (passed-word n y wy) (passed-word n (passed 8 c) wc))
    ∙ ap₂ bit_xor (sym (carried s y (λ k. bytes (suc k)) wy)) (sym (passed_add n 8 c) ∙ ap (λ (k : ℕ). passed k c) (sym (mul-suc 8 (length s))))

-- so does the first byte
ahead : (b : ℕ) (s : List ℕ) → b < 256 → Bytes s → crc_from 0 (b ∷ s) ≡ bit_xor (crc_from 0 s) (passed (8 * length s + 16) b)
unfolding crc_from
ahead b s h bytes =
    carried s (crc_byte 0 b) bytes (byte_word 0 b (lit< tt) h)
    ∙ ap (bit_xor (crc_from 0 s)) (ap (passed (8 * length s)) (first_byte b h) ∙ sym (passed_add (8 * length s) 16 b))

-- the check before two bytes meets them
joined : (a b : ℕ) → bit_xor (a * 256) (b * 256) ≡ bit_xor a b * 256
joined a b = ap₂ bit_xor (sym (add-zero (a * 256))) (sym (add-zero (b * 256))) ∙ xor_block 8 a b 0 0 (lit< tt) (lit< tt) ∙ add-zero (bit_xor a b * 256)

met : (c a b : ℕ) (s : List ℕ) → Word c → a < 256 → b < 256
    → crc_from c (a ∷ b ∷ s) ≡ crc_from 0 (bit_xor (c / 256) a ∷ bit_xor (c % 256) b ∷ s)
unfolding crc_from
met c a b s w ha hb =
    let x = bit_xor (c / 256) a in
    let y = c % 256 * 256 in
    let small : x < 256 = xor_lt 8 (c / 256) a (high_small c w) ha in
    let first : crc_byte c a ≡ bit_xor (crc_byte 0 x) y = one_byte c a w ha ∙ ap (λ (p : ℕ). bit_xor p y) (sym (first_byte x small)) in
    let second : crc_byte (bit_xor (crc_byte 0 x) y) b ≡ crc_byte (crc_byte 0 x) (bit_xor (c % 256) b) =
    byte_is _ b
    ∙ ap (passed 8)
    (assoc (crc_byte 0 x) y (b * 256) (byte_word 0 x (lit< tt) small) (high_word (c % 256) (low_small c)) (high_word b hb)
    ∙ ap (bit_xor (crc_byte 0 x)) (joined (c % 256) b))
    ∙ sym (byte_is _ _) in
    ap (λ (z : ℕ). crc_from (crc_byte z b) s) first ∙ ap (λ (z : ℕ). crc_from z s) second

none : Bytes []
none k = lit< tt

and : (b : ℕ) (s : List ℕ) → b < 256 → Bytes s → Bytes (b ∷ s)
and b s h bytes zero = h
and b s h bytes (suc k) = bytes k

-- four bytes, and n bits of zeros behind them
pub four-passed : (n c a b d e : ℕ) → Word c → a < 256 → b < 256 → d < 256 → e < 256
    → (let s = a ∷ b ∷ d ∷ e ∷ [] in
    (bit_xor (bit_xor (bit_xor (passed (n + 16) e) (passed (n + 24) d)) (passed (n + 32) (bit_xor (c % 256) b))) (passed (n + 40) (bit_xor (c / 256) a)) ≡ passed n (crc_from c s)) × Bytes s)
unfolding crc_from
four-passed n c a b d e w ha hb hd he =
    let x = bit_xor (c / 256) a in
    let y = bit_xor (c % 256) b in
    let hx = xor_lt 8 (c / 256) a (high_small c w) ha in
    let hy = xor_lt 8 (c % 256) b (low_small c) hb in
    let one = and e [] he none in
    let two = and d (e ∷ []) hd one in
    let pe = passed 16 e in
    let pd = bit_xor pe (passed 24 d) in
    let py = bit_xor pd (passed 32 y) in
    let each : crc_from c (a ∷ b ∷ d ∷ e ∷ []) ≡ bit_xor py (passed 40 x) =
    met c a b (d ∷ e ∷ []) w ha hb ∙ ahead x (y ∷ d ∷ e ∷ []) hx (and y (d ∷ e ∷ []) hy two)
    ∙ ap (λ (z : ℕ). bit_xor z (passed 40 x))
    (ahead y (d ∷ e ∷ []) hy two
    ∙ ap (λ (z : ℕ). bit_xor z (passed 32 y)) (ahead d (e ∷ []) hd one ∙ ap (λ (z : ℕ). bit_xor z (passed 24 d)) (ahead e [] he none ∙ xor_zero_l pe))) in
    let wx = passed-word 40 x (low_word x hx) in
    let wy = passed-word 32 y (low_word y hy) in
    let wd = passed-word 24 d (low_word d hd) in
    let we = passed-word 16 e (low_word e he) in
    let wpd = word_xor pe (passed 24 d) we wd in
    let more : (u m z : ℕ) → Word u → Word (passed m z) → passed n (bit_xor u (passed m z)) ≡ bit_xor (passed n u) (passed (n + m) z) =
    λ u m z p q. passed_xor n u (passed m z) p q ∙ ap (bit_xor (passed n u)) (sym (passed_add n m z)) in (
      sym
          (ap (passed n) each ∙ more py 40 x (word_xor pd (passed 32 y) wpd wy) wx
          ∙ ap (λ (z : ℕ). bit_xor z (passed (n + 40) x))
          (more pd 32 y wpd wy
          ∙ ap (λ (z : ℕ). bit_xor z (passed (n + 32) y)) (more pe 24 d we wd ∙ ap (λ (z : ℕ). bit_xor z (passed (n + 24) d)) (sym (passed_add n 16 e))))),
      and a (b ∷ d ∷ e ∷ []) ha (and b (d ∷ e ∷ []) hb two),
    )

-- bytes behind bytes
from_append : (s t : List ℕ) (c : ℕ) → crc_from c (s ++ t) ≡ crc_from (crc_from c s) t
unfolding crc_from
from_append [] t c = refl
from_append (b ∷ s) t c = from_append s t (crc_byte c b)

bytes_append : (s t : List ℕ) → Bytes s → Bytes t → Bytes (s ++ t)
bytes_append [] t p q = q
bytes_append (b ∷ s) t p q = and b (s ++ t) (p 0) (bytes_append s t (λ k. p (suc k)) q)

parts : (m n i : ℕ) (s : List ℕ) → take (m + n) (drop i s) ≡ take m (drop i s) ++ take n (drop (i + m) s)
parts m n i s = take-add m n (drop i s) ∙ ap (λ (u : List ℕ). take m (drop i s) ++ take n u) (drop-drop m i s)

-- one after the other
pub in_turn : (m n i c : ℕ) (s : List ℕ) {x y : ℕ} → After c (take m (drop i s)) x → After x (take n (drop (i + m) s)) y → After c (take (m + n) (drop i s)) y
in_turn m n i c s p q =
    let a = take m (drop i s) in
    let b = take n (drop (i + m) s) in
    rw (parts m n i s) (q.0 ∙ ap (λ (z : ℕ). crc_from z b) p.0 ∙ sym (from_append a b c), bytes_append a b p.1 q.1)

-- each by itself
by_itself : (s t : List ℕ) (c : ℕ) {x y : ℕ} → Word c → Bytes s → Bytes t → x ≡ crc_from 0 t → y ≡ passed (8 * length t) (crc_from c s) → After c (s ++ t) (bit_xor x y)
by_itself s t c w p q e f =
    (ap₂ bit_xor e f ∙ sym (carried t (crc_from c s) q (from_small s c w)) ∙ sym (from_append s t c), bytes_append s t p q)

pub eight_after : (s : List ℕ) (i c : ℕ) {x y : ℕ} → Word c → i + 8 ≤ length s
    → (let j = i + 4 in let b = get_or s j 0 ∷ get_or s (j + 1) 0 ∷ get_or s (j + 2) 0 ∷ get_or s (j + 3) 0 ∷ [] in (x ≡ passed 0 (crc_from 0 b)) × Bytes b)
    → (let a = get_or s i 0 ∷ get_or s (i + 1) 0 ∷ get_or s (i + 2) 0 ∷ get_or s (i + 3) 0 ∷ [] in (y ≡ passed 32 (crc_from c a)) × Bytes a)
    → After c (take 8 (drop i s)) (bit_xor x y)
unfolding passed steps
eight_after s i c w room p q =
    let whole = parts 4 4 i s ∙ ap₂ ◌++◌ (four_at s i (omega arith)) (four_at s (i + 4) (omega arith)) in
    rw whole (by_itself _ _ c w q.1 p.1 p.0 q.0)

pub sixteen_after : (s : List ℕ) (c : ℕ) {x y : ℕ} → Word c → length s ≡ 16 → After 0 s x → y ≡ passed 128 c → bit_xor x y ≡ crc_from c s
unfolding crc_from
sixteen_after s c w long p e = (by_itself [] s c w none p.1 p.0 (e ∙ ap (λ (n : ℕ). passed (8 * n) c) (sym long))).0

-- by blocks of sixteen, and the bytes behind them
pub by_blocks : (n : ℕ) (s : List ℕ) (c : ℕ) → fold crc_byte (fold crc_from c (first_chunks 16 n s)) (drop (n * 16) s) ≡ crc_from c s
by_blocks zero s c = sym (crc_is_fold s c)
by_blocks (suc n) s c =
    let next = crc_from c (take 16 s) in
    let more : suc n * 16 ≡ 16 + n * 16 = omega arith in
    ap (fold crc_byte (fold crc_from next (first_chunks 16 n (drop 16 s)))) (ap (λ (k : ℕ). drop k s) more ∙ sym (drop-drop (n * 16) 16 s))
    ∙ by_blocks n (drop 16 s) next ∙ sym (from_append (take 16 s) (drop 16 s) c) ∙ ap (crc_from c) (take-append-drop 16 s)

-- the first tables stand for whole bytes of zeros
pub near : (k n : ℕ) → k < 8 → 8 * k + 16 ≡ n → zeros k ≡ n
near k n h e = rw (lt-ltb k 8 h) e
