use Rattle.std.proofs.Common.{◌≡◌, ◌∙◌, ◌+◌, ◌<◌, ℕ, sym, ap, subst, length, slice_index, arith}
use Rattle.std.proofs.lemmas.List.{length-set}
use Rattle.std.proofs.lemmas.Grind.{get_or_default_zero}
use Rattle.yaml_spell.specs.ShortNodes.{short_len}
use Rattle.yaml_spell.proofs.ShownLaws.{short-is}
use Rattle.yaml_store_rank.specs.Walked.{walked_tree}
use Rattle.yaml_canon.proofs.SpelledLaws.{rank-owned, rank-below, first-below}
use Rattle.yaml_canon.proofs.Measuring.{Measured, zeros-long, measured-other, measured-first}
use Rattle.yaml_canon.proofs.spelled_ranks.shorts.Goals as goal
use Rattle.yaml_canon.proofs.spelled_ranks.shorts.Goals.{then-index-number, else-index-number}

pub loop-number-init : goal.loop-number-init
loop-number-init c = (ap length c.in_ok-resize.ensures.items ∙ zeros-long c.new-shorts.result.items c.len.result _ (ap length c.new-shorts.ensures.items) c.new-shorts.ensures.len ∙ c.len.ensures, λ r l e. absurd (omega arith))

pub loop-number-preserved : goal.loop-number-preserved
loop-number-preserved c =
    let C = c.args.ranked.now in
    let w = c.requires in
    let are = w.2.listed in
    let len : ℕ → ℕ = λ r. short_len (walked_tree C r) in
    let number = c.loop-number.number in
    let ranks = c.deref-rank-items.result.now in
    let q = slice_index ranks number in
    let at : q ≡ slice_index C.ranks.items number = ap (λ z. slice_index z number) c.deref-rank-items.ensures.value in
    let few : q < length C.first.items = rank-below w.0 w.1 C are ranks number c.deref-rank-items.ensures.value c.loop-number-test.true in
    let own = rank-owned w.0 w.1 C are in
    elim c.if-index-number.branch [
      | then-index-number b ↦ (
        ap (λ v. length v.items) b.shorts-is ∙ length-set c.loop-number.shorts.items _ _ ∙ c.loop-number.invariant.0,
        let here : slice_index C.first.items q ≡ number = sym (get_or_default_zero C.first.items q c.index.result.now few) ∙ sym c.index.ensures ∙ b.if-index-number.true in
            let is = b.short_len.ensures ∙ sym (short-is (λ r. r) (walked_tree C) (walked_tree C q) _ _ b.node.ensures.tree) in
            measured-first len C.ranks.items C.first.items c.loop-number.shorts.items number q own at c.loop-number.invariant.1 b.short_len.result c.if-index-number.shorts.items here (omega (arith, few, c.loop-number.invariant.0)) (ap (λ v. v.items) b.shorts-is) is,
      )
      | else-index-number b ↦ (
        ap (λ v. length v.items) b.shorts-is ∙ c.loop-number.invariant.0,
        subst (λ v. Measured len C.first.items v.items (number + 1)) (sym b.shorts-is)
            (measured-other len C.ranks.items C.first.items c.loop-number.shorts.items number q own at c.loop-number.invariant.1 (λ e. b.if-index-number.false (c.index.ensures ∙ get_or_default_zero C.first.items q c.index.result.now few ∙ e))),
      )
    ]

pub returns : goal.returns
returns c =
    let C = c.args.ranked.now in
    let w = c.requires in
    record {
      long = c.loop-number.invariant.0;
      each = λ r l. c.loop-number.invariant.1 r l (let f = first-below w.0 w.1 C w.2.listed r l in omega (arith, f, ap length c.deref-rank-items.ensures.value, c.loop-number-test.false));
    }
