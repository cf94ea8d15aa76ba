use Rattle.std.proofs.Common.{◌≡◌, ◌∷◌, length, rules}
use Rattle.std.specs.Prelude.{Some}
use Rattle.yaml_store_rank.specs.Forests.{tree}
use Rattle.review_folds.proofs.NameLaws.{first_none, first_rest}
use Rattle.review_folds.proofs.names.+first_name.Goals as goal

pub returns-in_default : goal.returns-in_default
returns-in_default t c texts each =
    let e : length c.args.keys.now ≡ 0 = search rules in
    first_none c.args.forests.now (Some (tree c.args.forests.now c.args.item.0)) texts c.args.keys.now e each

pub returns-in-None : goal.returns-in-None
returns-in-None t c texts each =
    let e : c.args.keys.now ≡ c.in-Some.key.now ∷ c.in-Some.rest.now = search rules in
    first_rest c.args.forests.now (Some (tree c.args.forests.now c.args.item.0)) texts c.args.keys.now c.in-Some.rest.now c.in-Some.key.now c.scalar_in.result e each c.scalar_in.ensures _ c.in-None.is c.first_name.ensures
