use Rattle.std.proofs.Common.{◌≡◌, ◌++◌, ◌∷◌, [], cond, true, false, not, sym, ◌∙◌, ap, append-nil, append_assoc, rules}
use Rattle.std.specs.Vec.Iter.{into_iter_items}
use Rattle.std.proofs.lemmas.List.Elements.{filter-append}
use Rattle.review_folds.specs.Ignored.{is_ignored, item_path, moves_outside}
use Rattle.review_folds.proofs.keep.moves_outside.Goals as goal

pub loop-one-preserved-in_ok-push : goal.loop-one-preserved-in_ok-push
loop-one-preserved-in_ok-push c =
    let g = c.args.forests.now in
    let ps = c.args.patterns.now in
    let d = c.in-Some.one in
    let ys = c.loop-one.yielded in
    let before = c.loop-one.invariant in
    let no : is_ignored g ps (item_path d) ≡ false = search rules in
    let more : moves_outside g ps (ys ++ (d ∷ [])) ≡ moves_outside g ps ys ++ (d ∷ []) = filter-append _ ys (d ∷ []) ∙ ap (λ b. moves_outside g ps ys ++ cond (not b) (d ∷ []) []) no in
    let rest : into_iter_items c.loop-one.one-iterator ≡ d ∷ into_iter_items c.next.new.self = search rules in
    record {
      all = append_assoc ys (d ∷ []) (into_iter_items c.next.new.self) ∙ ap (λ z. ys ++ z) (sym rest) ∙ before.all;
      kept = c.in_ok-push.ensures.items ∙ ap (λ z. z ++ (d ∷ [])) before.kept ∙ sym more;
    }

pub loop-one-preserved : goal.loop-one-preserved
loop-one-preserved c =
    let g = c.args.forests.now in
    let ps = c.args.patterns.now in
    let d = c.in-Some.one in
    let ys = c.loop-one.yielded in
    let before = c.loop-one.invariant in
    let yes : is_ignored g ps (item_path d) ≡ true = search rules in
    let more : moves_outside g ps (ys ++ (d ∷ [])) ≡ moves_outside g ps ys = filter-append _ ys (d ∷ []) ∙ ap (λ b. moves_outside g ps ys ++ cond (not b) (d ∷ []) []) yes ∙ append-nil (moves_outside g ps ys) in
    let rest : into_iter_items c.loop-one.one-iterator ≡ d ∷ into_iter_items c.next.new.self = search rules in
    record {
      all = append_assoc ys (d ∷ []) (into_iter_items c.next.new.self) ∙ ap (λ z. ys ++ z) (sym rest) ∙ before.all;
      kept = before.kept ∙ sym more;
    }
