use Rattle.std.proofs.Common.{◌≡◌, ◌++◌, arith, ap, rules, ◌∙◌, map}
use Rattle.serde_json.specs.Data.{array}
use Rattle.serde_json.specs.View.{view, items_of, items_view}
use Rattle.serde_json.specs.declared.value.Value.{Array, the_lemmas}
use Rattle.review_formats.specs.Sarif.{part_results}
use Rattle.review_formats.proofs.PieceLaws.{flat_next, flat_all}
use Rattle.review_formats.proofs.sarif.results_of.Goals as goal

pub parts-preserved : goal.parts-preserved
parts-preserved c = flat_next part_results c.args.parts.now c.parts.part-index _ _ _ _ (omega (arith, c.parts-test.true)) c.parts.invariant (c.in_ok-add_results.ensures.ok ∙ ap (λ z. map view c.parts.results.items ++ part_results z) c.part-item.is)

pub returns : goal.returns
returns c = record {
  ok = (
      let seen : view (Array c.parts.results) ≡ array (items_view c.parts.results.items) = search (rules, the_lemmas) in
      seen ∙ ap (λ z. array (items_of z)) (flat_all part_results c.args.parts.now c.parts.part-index _ _ (omega (arith, c.parts-test.false)) c.parts.invariant));
}
