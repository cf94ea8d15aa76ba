use Rattle.std.specs.Cow.{cow_str_bytes}
use Rattle.yaml_sink.specs.PropertyRules.{props_of}
use Rattle.yaml_text.proofs.Tests.{on_true, on_true_at}
use Rattle.yaml_store_composer.proofs.BufferLaws.{bare-stays}
use Rattle.yaml_store_composer.proofs.event_buffer.EventBuffer.stays.Goals as goal

pub returns : goal.returns
returns c =
    let w = c.args.self.now in
    on_true c.is_none-2.result (λ yes.
    bare-stays w.buffered c.in-Scalar.field-0 w.mapping (props_of w.outer) (props_of c.args.properties.now) (props_of w.own) (cow_str_bytes w.text) c.in-Scalar.is (on_true_at c.is_none-2.result yes c.is_none-2.ensures.yes) c.if-not-is_none.ensures.yes c.args.count c.if-count-ne1.false)
