use Rattle.std.proofs.Common.{refl}
use Rattle.std.specs.Cow.{cow_str_bytes}
use Rattle.yaml_sink.specs.PropertyRules.{props_of}
use Rattle.yaml_store_composer.specs.BufferModel.{buffered_event}
use Rattle.yaml_store_composer.proofs.BufferLaws.{precedes, one-there}
use Rattle.yaml_store_composer.proofs.event_buffer.EventBuffer.precede.Goals as goal

pub returns : goal.returns
returns c = λ h.
    let w = c.args.self.now in
    precedes w.mapping _ c.args.flow (props_of w.outer) (props_of c.none.result) (buffered_event w.buffered (props_of w.own) (cow_str_bytes w.text)) c.in-None.is refl c.none.ensures (one-there w.buffered w.mapping (props_of w.outer) (props_of w.own) (cow_str_bytes w.text) h)
