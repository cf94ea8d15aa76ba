use Rattle.std.proofs.Common.{◌≡◌, ◌++◌, ◌∷◌, [], cond, true, false, not, sym, ◌∙◌, ap, append-nil, append_assoc, rules}
use Rattle.std.specs.Vec.Iter.{into_iter_items}
use Rattle.std.proofs.lemmas.List.Elements.{filter-append}
use Rattle.review_folds.specs.Ignored.{is_ignored, outside}
use Rattle.review_folds.proofs.keep.differences_outside.Goals as goal

pub loop-difference-preserved-in_ok-push : goal.loop-difference-preserved-in_ok-push
loop-difference-preserved-in_ok-push c =
    let g = c.args.forests.now in
    let ps = c.args.patterns.now in
    let d = c.in-Some.difference in
    let ys = c.loop-difference.yielded in
    let before = c.loop-difference.invariant in
    let no : is_ignored g ps d.path.items ≡ false = search rules in
    let more : outside g ps (ys ++ (d ∷ [])) ≡ outside g ps ys ++ (d ∷ []) = filter-append _ ys (d ∷ []) ∙ ap (λ b. outside g ps ys ++ cond (not b) (d ∷ []) []) no in
    let rest : into_iter_items c.loop-difference.difference-iterator ≡ d ∷ into_iter_items c.next.new.self = search rules in
    record {
      all = append_assoc ys (d ∷ []) (into_iter_items c.next.new.self) ∙ ap (λ z. ys ++ z) (sym rest) ∙ before.all;
      kept = c.in_ok-push.ensures.items ∙ ap (λ z. z ++ (d ∷ [])) before.kept ∙ sym more;
    }

pub loop-difference-preserved : goal.loop-difference-preserved
loop-difference-preserved c =
    let g = c.args.forests.now in
    let ps = c.args.patterns.now in
    let d = c.in-Some.difference in
    let ys = c.loop-difference.yielded in
    let before = c.loop-difference.invariant in
    let yes : is_ignored g ps d.path.items ≡ true = search rules in
    let more : outside g ps (ys ++ (d ∷ [])) ≡ outside g ps ys = filter-append _ ys (d ∷ []) ∙ ap (λ b. outside g ps ys ++ cond (not b) (d ∷ []) []) yes ∙ append-nil (outside g ps ys) in
    let rest : into_iter_items c.loop-difference.difference-iterator ≡ d ∷ into_iter_items c.next.new.self = search rules in
    record {
      all = append_assoc ys (d ∷ []) (into_iter_items c.next.new.self) ∙ ap (λ z. ys ++ z) (sym rest) ∙ before.all;
      kept = before.kept ∙ sym more;
    }
