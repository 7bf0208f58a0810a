-- Of a file whose bodies were judged: how long the new trace is, and that contents and bodies, written one after the other, are the new trace.
use mathlib.Core.Path.{◌≡◌, refl, sym, ap, ◌∙◌}
use mathlib.Core.Bool.{true}
use mathlib.Core.List.{List, ◌++◌}
use Prim.Native.Nat.{ℕ, ◌+◌, ◌-◌, ◌^◌, ◌≤◌, ◌<◌}
use native.Mathlib.Nat.{le_refl}
use native.Mathlib.Omega.{arith}
use lib.ListN.{length, take, drop, length-append, length-drop}
use lib.Seq.{length-take-le}
use borrow.Rule.Slice.PartMut.{mid_of, put_mid, mid_len}
use Rattle.lent.proofs.Writes as lent
use Rattle.frames.specs.Part.{most_ports}
use Rattle.trace_parts.specs.Layout.{contents_len, most_bodies}
use Rattle.trace_parts.specs.Contents.{ports_of}
use Rattle.trace_writer.specs.Writer.{start_of, contents_of, counts_fit, trace_of, contents_output}
use Rattle.trace_writer.proofs.Fitting.{length_contents}
use Rattle.trace_writer.proofs.Starts.{start_small}
use Rattle.trace_writer.proofs.Written.{two_parts}
use Rattle.body_fates.specs.declared.judging.Judged.{Judged}
use Rattle.salvages.specs.Salvage.{salvaged}
use Rattle.salvages.specs.Whole.{Whole, judged_of}
use Rattle.salvages.proofs.Judgements.{Known, judged_known}
use Rattle.salvages.proofs.Wholes.{firsts, slots, bodies, known, few, counts_fit_lem, kept-parts, salvaged_long}

-- the new trace fits 32 bits
pub salvaged_small : {s : List ℕ} {n count : ℕ} → Whole most_ports s n count → length (salvaged most_ports s) < 2 ^ 32
salvaged_small {s} w =
    let c = known w in
    let p = kept-parts most_ports s c in
    let small = start_small (ports_of s) (slots most_ports s) (length (slots most_ports s)) p.counts.ports p.counts.most in
    omega (arith, salvaged_long most_ports s c, p.counts.count, p.ends)

module _ {m : ℕ} {s : List ℕ} {n count : ℕ} (w : Whole m s n count) {j : Judged} (is : j ≡ judged_of m s count) where
  pub facts : Known m s count j
  facts = rw is (judged_known m s count (few w))

  pub some-kept : j.kept ≤ most_bodies
  some-kept = omega (arith, facts.some, few w)

  abbrev pub kept_firsts_lem : List ℕ
  kept_firsts_lem = take j.kept j.firsts

  abbrev pub kept_slots_lem : List ℕ
  kept_slots_lem = take j.kept j.slots

  pub firsts_many : j.kept ≡ length kept_firsts_lem
  firsts_many = sym (length-take-le j.kept j.firsts (omega (arith, some-kept, facts.firsts_long)))

  pub slots_many : j.kept ≡ length kept_slots_lem
  slots_many = sym (length-take-le j.kept j.slots (omega (arith, some-kept, facts.slots_long)))

  firsts_same : kept_firsts_lem ≡ firsts m s
  firsts_same = facts.firsts_are ∙ rw w.all

  slots_same : kept_slots_lem ≡ slots m s
  slots_same = facts.slots_are ∙ rw w.all

  kept_same : j.kept ≡ length (slots m s)
  kept_same = slots_many ∙ ap length slots_same

  -- the length, from the slot counts kept
  pub new_long : contents_len j.kept + start_of n kept_slots_lem (length kept_slots_lem) ≡ length (salvaged m s)
  new_long =
      rw (slots_same, kept_same, w.ports, (kept-parts m s (known w)).ends) (sym (salvaged_long m s (known w)))

  long : length (salvaged m s) ≡ contents_len j.kept + length (bodies m s)
  long = salvaged_long m s (known w) ∙ rw (← kept_same)

  -- the contents, and then the bodies from there on
  module _ (at : ℕ) (there : at ≡ contents_len j.kept) (out one : List ℕ) (room : length (salvaged m s) ≤ length out) (e : one ≡ contents_output m n kept_firsts_lem kept_slots_lem out) where
    abbrev contents : List ℕ
    contents = contents_of n kept_firsts_lem kept_slots_lem

    start : contents_len (length kept_slots_lem) ≡ at
    start = ap (λ (k : ℕ). contents_len k) (sym slots_many) ∙ sym there

    front : length contents ≡ at
    front = length_contents n kept_firsts_lem kept_slots_lem ∙ start

    wrote : one ≡ contents ++ drop at out
    wrote =
        let fits : counts_fit m n kept_firsts_lem kept_slots_lem ≡ true = rw (firsts_same, slots_same, w.ports) (counts_fit_lem m s (known w)) in
        let enough : contents_len (length kept_slots_lem) ≤ length out = omega (arith, long, start, there) in
        e ∙ sym (lent.wrote _ _ contents out fits enough _ refl).1 ∙ rw start

    pub one_long : length one ≡ length out
    one_long = omega (arith, ap length wrote, length-append contents (drop at out), front, length-drop at out, long, there)

    pub fits-behind : at ≤ length one
    fits-behind = omega (arith, one_long, long, there)

    pub bodies_fit : length (bodies m s) ≤ length (mid_of at (length one - at) one)
    bodies_fit = omega (arith, one_long, long, there, mid_len at (length one) one (le_refl (length one)))

    pub both_written : (last : List ℕ) → last ≡ bodies m s ++ drop (length (bodies m s)) (mid_of at (length one - at) one)
        → put_mid at (length one - at) one last ≡ salvaged m s ++ drop (length (salvaged m s)) out
    unfolding salvaged trace_of
    both_written last l =
        let same : contents ++ bodies m s ≡ contents_of (ports_of s) (firsts m s) (slots m s) ++ bodies m s = rw (firsts_same, slots_same, w.ports) in
        two_parts at (length (bodies m s)) contents (bodies m s) out one last front wrote l
        ∙ rw (there, ← long) (ap (λ (t : List ℕ). t ++ drop (length (salvaged m s)) out) same)
