use Rattle.std.proofs.Common.{refl, sym, ◌∙◌, ap, subst}
use Rattle.std.specs.Prelude.{None, false}
use Rattle.yaml_definitions.specs.model.Event.{Anchor, mapping_start, untagged}
use Rattle.yaml_definitions.specs.model.Core.{collection_tag}
use Rattle.yaml_sink.specs.PropertyRules.{props_given, props_in}
use Rattle.yaml_tree_builder.specs.BuilderModel.{Stepped}
use Rattle.yaml_tree_builder.proofs.builder.TreeBuilder.begin_untagged.Goals as goal

pub returns-in_ok-begin_bare-in-None : goal.returns-in_ok-begin_bare-in-None
unfolding collection_tag
returns-in_ok-begin_bare-in-None c = λ s h.
    subst (λ (a : Anchor). Stepped (mapping_start false a untagged) s c.begin_bare.new.self) (sym (ap (λ g. (props_given g).anchor) c.in-None.is)) (c.in_ok-begin_bare-in-None.ensures None s tt h untagged refl false)

pub returns-in_ok-begin_bare-in-Some : goal.returns-in_ok-begin_bare-in-Some
unfolding collection_tag
returns-in_ok-begin_bare-in-Some c = λ s h.
    let is = ap props_in c.deref.ensures ∙ sym (ap props_given c.in-Some.is) in
    let b = c.in_ok-place-in-Some.ensures s h in
    subst (λ (a : Anchor). Stepped (mapping_start false a untagged) s c.begin_bare-in-Some.new.self) (ap (λ p. p.anchor) is) (c.in_ok-begin_bare-in-Some.ensures _ s b.0 b.1 untagged refl false)
