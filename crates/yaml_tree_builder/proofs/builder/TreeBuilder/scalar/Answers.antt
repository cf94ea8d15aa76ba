use Rattle.std.proofs.Common.{ap, sym, subst}
use Rattle.std.specs.Cow.{cow_str_bytes}
use Rattle.std.specs.Prelude.{None, MatchResult}
use Rattle.yaml_definitions.specs.model.Event.{Event, scalar_event}
use Rattle.yaml_definitions.specs.grammar.Events.{Props}
use Rattle.yaml_text.specs.EventModel.{style_of}
use Rattle.yaml_sink.specs.PropertyRules.{props_given}
use Rattle.yaml_tree_builder.specs.BuilderModel.{Stepped}
use Rattle.yaml_tree_builder.specs.Refusals.{Stops}
use Rattle.yaml_tree_builder.proofs.builder.TreeBuilder.scalar.Goals as goal

pub returns-in-None : goal.returns-in-None
returns-in-None c = λ s h.
    let event : Props → Event = λ p. scalar_event p.anchor p.tag (style_of c.args.style) (cow_str_bytes c.args.text.now) in
    subst (λ p. MatchResult c.put_bare.result (λ _. Stepped (event p) s c.put_bare.new.self) (Stops (event p) s)) (sym (ap props_given c.in-None.is)) (c.put_bare.ensures None s tt h)
