use Rattle.std.proofs.Common.{refl, sym, ◌∙◌, ap, subst}
use Rattle.std.specs.Prelude.{None, MatchResult}
use Rattle.yaml_definitions.specs.grammar.Events.{Props}
use Rattle.yaml_definitions.specs.model.Event.{Event, untagged}
use Rattle.yaml_definitions.specs.model.Core.{collection_tag}
use Rattle.yaml_sink.specs.PropertyRules.{props_given, props_in}
use Rattle.yaml_tree_builder.specs.BuilderModel.{start_of, Stepped}
use Rattle.yaml_tree_builder.specs.Refusals.{Stops}
use Rattle.yaml_tree_builder.proofs.builder.TreeBuilder.begin.Goals as goal

pub returns-in-Some : goal.returns-in-Some
returns-in-Some c = λ s h flow.
    let event : Props → Event = λ p. start_of c.args.collection flow p.anchor p.tag in
    let is = ap props_in c.deref.ensures ∙ sym (ap props_given c.in-Some.is) in
    subst (λ p. MatchResult c.begin_collection.result (λ _. Stepped (event p) s c.begin_collection.new.self) (Stops (event p) s)) is (c.begin_collection.ensures s h flow)

pub returns-in_ok-begin_bare-in-None : goal.returns-in_ok-begin_bare-in-None
unfolding collection_tag
returns-in_ok-begin_bare-in-None c = λ s h flow.
    let event : Props → Event = λ p. start_of c.args.collection flow p.anchor p.tag in
    subst (λ p. Stepped (event p) s c.begin_bare.new.self) (sym (ap props_given c.in-None.is)) (c.in_ok-begin_bare-in-None.ensures None s tt h untagged refl flow)
