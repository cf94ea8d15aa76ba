use Rattle.std.proofs.Common.{None, [], ◌∷◌, ◌++◌, refl, ap, ◌∙◌}
use Rattle.std.specs.Cow.{cow_str_bytes}
use Rattle.std.specs.String.{string_bytes}
use Rattle.yaml_definitions.specs.model.Event.{scalar_event, untagged}
use Rattle.yaml_definitions.specs.model.EventText.{event_line}
use Rattle.yaml_text.specs.EventModel.{style_of}
use Rattle.yaml_event_text.proofs.LineLaws.{lines_put, grown}
use Rattle.yaml_event_text.proofs.lines.LinesKeeper.scalar.Goals as goal

pub returns-clause-ok : goal.returns-clause-ok
returns-clause-ok c =
    lines_put c.args.self.now _ (scalar_event None untagged (style_of c.args.style) (cow_str_bytes c.args.text.now))
    (grown c.args.self.now c.begin_line.new.self _ _ c.in_ok-begin_line.ensures.ok
    (c.in_ok-push_scalar_line.ensures.ok ∙ ap (λ y. string_bytes c.begin_line.new.self.text ++ (event_line (scalar_event None untagged (style_of c.args.style) y) ++ (10 ∷ []))) c.as_str.ensures.value) refl refl)
