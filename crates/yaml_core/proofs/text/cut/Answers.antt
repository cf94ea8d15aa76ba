use Rattle.std.proofs.Common.{◌≡◌, ◌<◌, ◌+◌, ℕ, List, Option, Some, None, true, length, take, drop, sym, ◌∙◌, ap, subst, arith, get_or}
use Rattle.std.proofs.lemmas.Str.{IsCharBoundary-after_ascii}
use Rattle.std.proofs.lemmas.Bool.Decides.{nat_tests}
use Rattle.yaml_definitions.specs.model.Core.{split_at}
use Rattle.yaml_core.specs.Delimiter.{is_delimiter}
use Rattle.yaml_core.specs.declared.text.Delimiter.{Delimiter}
use Rattle.yaml_core.specs.declared.text.Delimiter.TheVariants as marks
use Rattle.yaml_core.proofs.CutLemmas.{cut_more, cut_here, cut_nowhere, range_front}
use Rattle.yaml_core.proofs.text.cut.Goals as goal

mark_ascii : (m : Delimiter) (c : ℕ) → is_delimiter m c ≡ true → c < 128
mark_ascii marks.Point c h = grind (arith, nat_tests)
mark_ascii marks.Exponent c h = grind (arith, nat_tests)

pub range_from-requires : goal.range_from-requires
range_from-requires c =
    let e = c.as_bytes-bytes.ensures.value in
    let i = c.loop-at.at in
    let l : i < length c.args.text.now = subst (λ x. i < length x) e c.loop-at-test.true in
    let m : is_delimiter c.args.mark (get_or c.args.text.now i 0) ≡ true = ap (λ x. is_delimiter c.args.mark (get_or x i 0)) (sym e) ∙ (sym c.is_at.ensures ∙ c.if-is_at.true) in
    λ p. IsCharBoundary-after_ascii c.args.text.now i c.utf8.text l (mark_ascii c.args.mark (get_or c.args.text.now i 0) m)

pub returns-then-is_at : goal.returns-then-is_at
returns-then-is_at c =
    let e = c.as_bytes-bytes.ensures.value in
    let xs = c.as_bytes-bytes.result.now in
    let i = c.loop-at.at in
    let a : c.range.result.now ≡ take i xs = c.range.ensures.value ∙ (range_front c.args.text.now i ∙ ap (take i) (sym e)) in
    let b : c.range_from.result.now ≡ drop (i + 1) xs = c.range_from.ensures.value ∙ ap (drop (i + 1)) (sym e) in
    let q : ◌≡◌ {A = List ℕ × Option (List ℕ)} (c.range.result.now, Some c.range_from.result.now) (take i xs, Some (drop (i + 1) xs)) = λ z. (a z, Some (b z)) in
    q ∙ (sym (c.loop-at.invariant ∙ cut_here (is_delimiter c.args.mark) xs i c.loop-at-test.true (sym c.is_at.ensures ∙ c.if-is_at.true)) ∙ ap (split_at (is_delimiter c.args.mark)) e)

pub loop-at-preserved : goal.loop-at-preserved
loop-at-preserved c =
    c.loop-at.invariant ∙ cut_more (is_delimiter c.args.mark) c.as_bytes-bytes.result.now c.loop-at.at c.loop-at-test.true (sym c.is_at.ensures ∙ c.if-is_at.false)

pub returns : goal.returns
returns c =
    let e = c.as_bytes-bytes.ensures.value in
    let xs = c.as_bytes-bytes.result.now in
    sym ((sym (ap (split_at (is_delimiter c.args.mark)) e) ∙ (c.loop-at.invariant ∙ cut_nowhere (is_delimiter c.args.mark) xs c.loop-at.at c.loop-at-test.false)) ∙ (λ z. (e z, None)))
