use Rattle.std.proofs.Common.{length, ◌∙◌, ap}
use Rattle.std.specs.Prelude.{None}
use Rattle.std.proofs.lemmas.List.{length-replicate}
use Rattle.yaml_pair.proofs.Parts.{none-only, blank-at}
use Rattle.yaml_pair.proofs.partners.Partners.none.Goals as goal

pub returns : goal.returns
returns c = record {
  ok = (
      let l = c.in_ok-vec.ensures.items_if_clones_equal (none-only _ (λ x h. h)) in
      let r = c.in_ok-vec-2.ensures.items_if_clones_equal (none-only _ (λ x h. h)) in
      record {
        lefts_len = ap length l ∙ length-replicate c.args.lefts None;
        rights_len = ap length r ∙ length-replicate c.args.rights None;
        left = λ k m. blank-at c.in_ok-vec.field-0.items c.args.lefts k l m;
        right = λ k m. blank-at c.in_ok-vec-2.field-0.items c.args.rights k r m;
      });
}
