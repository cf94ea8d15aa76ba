use Rattle.std.proofs.Common.{◌≡◌, [], ◌∷◌, ◌++◌, take, append-nil, ◌∙◌, ap, sym, subst, arith}
use Rattle.std.specs.List.{All}
use Rattle.std.proofs.lemmas.List.{take_all, take_more}
use Rattle.yaml_tree.specs.Tags.{TagsRise}
use Rattle.yaml_tree.proofs.TagLaws.{tags-rise}
use Rattle.yaml_store_rank.specs.TagPlaces.{IsFound}
use Rattle.yaml_store_rank.proofs.TagOrder.{found-more, all-listed}
use Rattle.yaml_store_rank.proofs.places.in_order.Goals as goal

pub loop-number-preserved : goal.loop-number-preserved
loop-number-preserved c =
    let tags = c.args.tags.now in
    let i = c.loop-number.number in
    let new = c.insert.new.self in
    let more = found-more c.loop-number.found new c.at.result c.in_ok-insert.ensures.updates (take i tags) c.loop-number.invariant in
    let named = subst (λ z. All (IsFound new) (take i tags ++ (z ∷ []))) c.at.ensures more in
    subst (All (IsFound new)) (sym (take_more tags i [] (omega (arith, c.loop-number-test.true, c.len-number-end.ensures)))) named

-- what was found, in order
all : (c : goal.After-drop-tag-iterator-2) → c.loop-tag.ordered.items ≡ c.loop-number.found.keys
all c = sym (append-nil c.loop-tag.ordered.items) ∙ (ap (λ z. c.loop-tag.ordered.items ++ z) (sym c.in-None.ensures.steps.0) ∙ (c.loop-tag.invariant ∙ c.into_iter-tag-iterator.ensures.into_iter_gives.0))

pub returns-clause-rise : goal.returns-clause-rise
returns-clause-rise c = subst TagsRise (sym (all c)) (tags-rise _ c.into_iter-tag-iterator.ensures.into_iter_gives.4)

pub returns-clause-whole : goal.returns-clause-whole
returns-clause-whole c =
    let tags = c.args.tags.now in
    let found = subst (All (IsFound c.loop-number.found)) (take_all c.loop-number.number tags (omega (arith, c.loop-number-test.false, c.len-number-end.ensures))) c.loop-number.invariant in
    all-listed c.loop-number.found c.loop-tag.ordered.items (all c) tags found
