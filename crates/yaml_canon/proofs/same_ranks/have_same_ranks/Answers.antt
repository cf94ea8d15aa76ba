use Rattle.std.proofs.Common.{◌≡◌, ◌≤◌, length, take, drop, sym, ◌∙◌, ap, subst}
use Rattle.std.specs.Bool.{Decides}
use Rattle.std.proofs.lemmas.Bool.Decides.{Decides-eqb}
use Rattle.std.proofs.lemmas.Slice.Eq.{slice_eq-Decides}
use Rattle.yaml_canon.proofs.RankLaws.{middle-within, compares-ranks}
use Rattle.yaml_canon.proofs.same_ranks.have_same_ranks.Goals as goal

pub split_at-requires : goal.split_at-requires
split_at-requires c =
    let both = c.in_ok-both.both in
    subst (λ z. both.middle ≤ length z) (sym c.deref.ensures.value) (middle-within c.args.left.now c.args.right.now both c.in_ok-both.ensures.both)

pub returns-clause-answer : goal.returns-clause-answer
returns-clause-answer c =
    let both = c.in_ok-both.both in
    let xs = c.split_at.result.0.now in
    let ys = c.split_at.result.1.now in
    let d : Decides c.eq.result (xs ≡ ys) = slice_eq-Decides Decides-eqb _ _ _ c.eq.ensures in
    let front : xs ≡ take both.middle both.forest.roots.items = c.split_at.ensures.front ∙ ap (take both.middle) c.deref.ensures.value in
    let back : ys ≡ drop both.middle both.forest.roots.items = c.split_at.ensures.back ∙ ap (drop both.middle) c.deref.ensures.value in
    compares-ranks c.args.left.now c.args.right.now both c.in_ok-both.ensures.both c.eq.result (λ e. sym front ∙ (d.0 e ∙ back), λ e. d.1 (front ∙ (e ∙ sym back)))
