use Rattle.yaml_sink.specs.PropertyRules.{props_of}
use Rattle.yaml_store_composer.proofs.BufferLaws.{starts-none, starts-some}
use Rattle.yaml_store_composer.proofs.event_buffer.EventBuffer.compose_start.Goals as goal

pub returns-in_default : goal.returns-in_default
returns-in_default c = starts-none c.args.self.now.mapping (props_of c.args.self.now.outer) c.args.number c.args.pending.now c.in_default.is

pub returns : goal.returns
returns c =
    let w = c.args.self.now in
    starts-some w.mapping c.in-Some.field-0 (props_of w.outer) c.args.number c.saturating_sub-at.result c.args.pending.now c.begin.new.self c.in-Some.is c.saturating_sub-at.ensures (c.in_ok-begin.ensures c.in-Some.field-0)
