use Rattle.std.proofs.Common.{refl, sym, ◌∙◌}
use Rattle.yaml_mark.proofs.HandleLemmas.{default_primary, default_secondary}
use Rattle.yaml_mark.proofs.prefix.default_prefix.Goals as goal

pub returns-then-eq : goal.returns-then-eq
returns-then-eq c = default_primary c.args.handle.now _ refl (sym c.eq.ensures ∙ c.if-eq.true)

pub returns-then-eq-2 : goal.returns-then-eq-2
returns-then-eq-2 c = default_secondary c.args.handle.now _ refl (sym c.eq.ensures ∙ c.if-eq.false) (sym c.eq-2.ensures ∙ c.if-eq-2.true)
