use Rattle.std.proofs.Common.{◌≡◌, length, map, ◌∙◌, ap, subst}
use Rattle.std.proofs.lemmas.Result.{IfOk-weaker}
use Rattle.yaml_pair.specs.Names.{namings}
use Rattle.yaml_pair.specs.Named.{HasPairs, PairsBy, naming_of, texts_of}
use Rattle.yaml_pair.proofs.StepLaws.{pairs-told}
use Rattle.yaml_pair.proofs.pairing.pair_items.Goals as goal

pub returns : goal.returns
returns c = record {
  named = (
      let g = c.args.forests.now in
      let ls = c.args.sides.0.now in
      let rs = c.args.sides.1.now in
      let cs = namings (texts_of c.args.asked.by.now) c.args.documents in
      let a = c.pair_named.new.partners in
      let names : map naming_of c.deref.result.now ≡ cs = ap (map naming_of) c.deref.ensures.value ∙ c.in_ok-columns.ensures.ok in
      IfOk-weaker c.steps_of.result _ _ (λ steps told within light fl fr.
      let h = c.in_ok-pair_named.ensures.ok within (c.in_ok-pair_equal.ensures.ok within) in
      let has : HasPairs a (length ls) (length rs) (PairsBy g ls rs cs) = subst (λ z. HasPairs a (length ls) (length rs) (PairsBy g ls rs z)) names h in
      pairs-told g ls rs c.args.first cs a c.pair_alike.new.partners c.pair_in_turn.new.partners steps.items has c.in_ok-pair_alike.ensures.ok c.in_ok-pair_in_turn.ensures.ok told fl fr)
      c.steps_of.ensures.ok);
}
