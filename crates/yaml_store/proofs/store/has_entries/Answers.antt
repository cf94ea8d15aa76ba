use Rattle.std.proofs.Common.{◌≡◌, ◌*◌, ◌+◌, ◌/◌, ◌<◌, inl, inr, ℕ, get_or, length, ◌∙◌, ap, subst, arith}
use Rattle.std.specs.List.{slice_range}
use Rattle.yaml_tree.proofs.Numbers.{below_or}
use Rattle.yaml_tree.proofs.Lists.{get_or-any}
use Rattle.yaml_store.proofs.Parts.{paired-same}
use Rattle.yaml_store.proofs.store.has_entries.Goals as goal

pub loop-place-preserved : goal.loop-place-preserved
loop-place-preserved c = λ k l p d.
    let es = slice_range c.args.all.now c.args.span.start c.args.span.end in
    let parts = c.args.parts.now in
    let at = c.loop-place.place in
    let none : ℕ × ℕ = (0, 0) in
    let w : at < length es = c.loop-place-test.true in
    let n : length es ≡ length parts / 2 = c.if-entries-parts.false in
    let x : (get_or es at none).0 ≡ get_or parts (2 * at) 0 = c.if-key-parts.false in
    let y : (get_or es at none).1 ≡ get_or parts (2 * at + 1) 0 = c.if-value-parts.false in
    elim (below_or k at) [
      | inl a ↦ c.loop-place.invariant k a p d
      | inr a ↦ (
          let e : at ≡ k = omega arith in
          let f : (get_or es at p).0 ≡ get_or parts (2 * at) d = ap (λ z. z.0) (get_or-any es at p none w) ∙ (x ∙ get_or-any parts (2 * at) 0 d (omega (arith, n, w))) in
          let h : (get_or es at p).1 ≡ get_or parts (2 * at + 1) d = ap (λ z. z.1) (get_or-any es at p none w) ∙ (y ∙ get_or-any parts (2 * at + 1) 0 d (omega (arith, n, w))) in
          subst (λ z. ((get_or es z p).0 ≡ get_or parts (2 * z) d) × ((get_or es z p).1 ≡ get_or parts (2 * z + 1) d)) e (f, h))
    ]

pub returns : goal.returns
returns c = λ yes.
    let es = slice_range c.args.all.now c.args.span.start c.args.span.end in
    paired-same es c.args.parts.now c.if-entries-parts.false (λ k l p d. c.loop-place.invariant k (omega (arith, c.loop-place-test.false)) p d)
