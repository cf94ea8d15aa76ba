use Rattle.std.proofs.Common.{[], ◌∷◌}
use Rattle.std.proofs.lemmas.Str.Pattern.{contains_text}
use Rattle.yaml_show_scalar.proofs.TextLaws.{pair_is}
use Rattle.yaml_show_scalar.proofs.paragraphs.has_indentation.Goals as goal

pub returns : goal.returns
returns c = pair_is 10 32 c.args.text.now c.contains.result (contains_text c.contains.result (10 ∷ 32 ∷ []) c.args.text.now c.contains.ensures.cases)
