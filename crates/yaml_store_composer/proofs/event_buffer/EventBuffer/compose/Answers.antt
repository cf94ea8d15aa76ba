use Rattle.std.specs.Cow.{cow_str_bytes}
use Rattle.yaml_sink.specs.PropertyRules.{props_of}
use Rattle.yaml_store_composer.specs.BufferModel.{waits, buffered_event}
use Rattle.yaml_store_composer.proofs.BufferLaws.{composes-both, composes-none, one-there}
use Rattle.yaml_store_composer.proofs.event_buffer.EventBuffer.compose.Goals as goal

pub returns-then-is_none-clause-composes : goal.returns-then-is_none-clause-composes
returns-then-is_none-clause-composes c = composes-none c.args.count (waits c.args.self.now) c.args.pending.now c.if-is_none.ensures.yes

pub returns-clause-composes : goal.returns-clause-composes
returns-clause-composes c =
    let w = c.args.self.now in
    composes-both w.mapping (props_of w.outer) (buffered_event w.buffered (props_of w.own) (cow_str_bytes w.text)) c.args.count c.saturating_sub-number.result c.args.pending.now c.compose_start.new.pending c.compose_buffered.new.pending (one-there w.buffered w.mapping (props_of w.outer) (props_of w.own) (cow_str_bytes w.text) c.if-is_none.ensures.no) c.saturating_sub-number.ensures c.in_ok-compose_start.ensures c.in_ok-compose_buffered.ensures
