use Rattle.std.proofs.Common.{◌&&◌, sym, ◌∙◌, ap}
use Rattle.std.specs.Prelude.{bytes_eq}
use Rattle.yaml_definitions.specs.model.Tag.{core_tag}
use Rattle.review_folds.proofs.keys.is_str.Goals as goal

pub returns-then-eq : goal.returns-then-eq
unfolding core_tag
returns-then-eq c = c.eq-then-eq.ensures ∙ sym (ap (λ b. b && bytes_eq c.args.text.now c.args.content.now) (sym c.eq.ensures ∙ c.if-eq.true))

pub returns-else-eq : goal.returns-else-eq
unfolding core_tag
returns-else-eq c = c.if-eq.false ∙ sym (ap (λ b. b && bytes_eq c.args.text.now c.args.content.now) (sym c.eq.ensures ∙ c.if-eq.false))
