use Rattle.std.proofs.Common.{map, ◌∙◌}
use Rattle.yaml_text.specs.EventModel.{event_of}
use Rattle.review_faults.proofs.NoJsonLaws.{lacking_more}
use Rattle.review_faults.proofs.no_json.list_node.Goals as goal

pub returns : goal.returns
returns c = record { ok = (λ p h. lacking_more (map event_of c.args.events.now) c.args.lacks.now.list.items c.push.new.self.items _ c.in_ok-push.ensures.items (c.in_ok-path.ensures.ok ∙ p) h) }
