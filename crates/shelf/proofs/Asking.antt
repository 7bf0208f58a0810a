-- The sets asked: a block that 1 or 6 declines, and one that is heeded.
use mathlib.Core.Path.{◌≡◌, refl, ap, ◌∙◌}
use mathlib.Core.Bool.{Bool, true, false, ◌||◌, cond}
use mathlib.Core.List.{List}
use Prim.Native.Nat.{ℕ, ◌*◌, ◌≤◌}
use native.Mathlib.Omega.{arith}
use lib.Dec.{ltb}
use lib.ListN.{length, replicate}
use borrow.Author.Tests.{ltb-false, eq-eqb, ne_eqb}
use Rattle.laws.proofs.Tests.{neither}
use Rattle.frames.specs.Part.{frame_len}
use Rattle.frames.specs.Frame.{differs}
use Rattle.ports.specs.Tables.{within}
use Rattle.hearing.specs.Heard.{tables}
use Rattle.shelf.specs.Hosts.{hosts_of}
use Rattle.shelf.specs.Asked.{block_number, sets_asked}
use Rattle.shelf.specs.Told.{told_of}
use Rattle.shelf.specs.declared.hosts.Told.{Told}

not_one : (b c : Bool) → ◌≡◌ {A = ℕ} (cond b 1 (cond c 6 0)) 0 → b ≡ false
not_one false c e = refl
not_one true c e = absurd (omega arith)

pub block_ports : (m n : ℕ) (block : List ℕ) → block_number m n block ≡ 0 → n ≤ m
unfolding block_number
block_ports m n block e = ltb-false m n (neither (ltb n 1) (ltb m n) (not_one (ltb n 1 || ltb m n) (differs (length block) (n * frame_len n)) e)).1

module _ (m n owners : ℕ) (block : List ℕ) (number : ℕ) where
  pub declined-sets : {r : List ℕ} → number ≡ block_number m n block → (number ≡ 0 → ⊥) → r ≡ replicate m 0 → record { number = number; fields = r } ≡ sets_asked m n owners block
  unfolding sets_asked
  declined-sets is some e = rw (← is, ne_eqb number 0 some, e)

  pub asked-sets : (told : Told) {r : List ℕ} → number ≡ block_number m n block → number ≡ 0 → told ≡ told_of n owners (hosts_of m n block) → r ≡ within n told.tables.req
      → record { number = 0; fields = r } ≡ sets_asked m n owners block
  unfolding sets_asked told_of tables
  asked-sets told is none is-told e = rw (← is, eq-eqb number 0 none, e ∙ ap (λ (t : Told). within n t.tables.req) is-told)
