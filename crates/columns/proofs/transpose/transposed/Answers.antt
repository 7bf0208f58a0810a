use mathlib.Core.Path.{◌≡◌, ap, ◌∙◌}
use mathlib.Core.List.{List, [], ◌∷◌}
use Prim.Native.Nat.{ℕ}
use Rattle.columns.specs.Transpose.{near, quarter, transposed, across, upper4, lower4, upper8, lower8}
use Rattle.columns.proofs.transpose.transposed.Goals as goal

whole : (rows : List ℕ) {a b c d e f g h p q r s : ℕ} → a ≡ quarter rows 0 → b ≡ quarter rows 4 → c ≡ quarter rows 8 → d ≡ quarter rows 12
    → e ≡ upper4 a b → f ≡ lower4 b a → g ≡ upper4 c d → h ≡ lower4 d c
    → p ≡ upper8 e g → q ≡ upper8 f h → r ≡ lower8 g e → s ≡ lower8 h f → (p ∷ q ∷ r ∷ s ∷ []) ≡ transposed rows
unfolding transposed across
whole rows a b c d e f g h p q r s = rw (p, q, r, s, e, f, g, h, a, b, c, d)

pub returns : goal.returns
unfolding upper4 lower4 upper8 lower8
returns c = whole _ (c.near-a.ensures ∙ ap near c.four.ensures) (c.near-b.ensures ∙ ap near c.four-2.ensures) (c.near-c.ensures ∙ ap near c.four-3.ensures) (c.near-d.ensures ∙ ap near c.four-4.ensures) c.up-e.ensures c.down-f.ensures c.up-g.ensures c.down-h.ensures c.up.ensures c.up-2.ensures c.down.ensures c.down-2.ensures
