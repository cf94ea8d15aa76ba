use Rattle.std.specs.Cow.{cow_str_bytes}
use Rattle.yaml_sink.specs.PropertyRules.{props_of}
use Rattle.yaml_store_composer.specs.BufferModel.{buffered_event}
use Rattle.yaml_store_composer.proofs.BufferLaws.{dresses-buffered, dresses-start, one-there}
use Rattle.yaml_store_composer.proofs.event_buffer.EventBuffer.dress.Goals as goal

pub returns-then-count-eq1 : goal.returns-then-count-eq1
returns-then-count-eq1 c = λ h.
    let w = c.args.self.now in
    dresses-buffered w.buffered w.mapping (props_of w.outer) (props_of c.args.properties) (props_of w.own) (cow_str_bytes w.text) (one-there w.buffered w.mapping (props_of w.outer) (props_of w.own) (cow_str_bytes w.text) h) c.args.count c.if-count-eq1.true

pub returns : goal.returns
returns c = λ h.
    let w = c.args.self.now in
    dresses-start w.mapping c.in-Some.field-0 (props_of w.outer) (props_of c.args.properties) (buffered_event w.buffered (props_of w.own) (cow_str_bytes w.text)) c.in-Some.is (one-there w.buffered w.mapping (props_of w.outer) (props_of w.own) (cow_str_bytes w.text) h) c.args.count c.if-count-ne2.false
