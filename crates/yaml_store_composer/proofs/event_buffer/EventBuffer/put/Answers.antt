use Rattle.std.specs.Cow.{cow_str_bytes}
use Rattle.yaml_sink.specs.PropertyRules.{props_of}
use Rattle.yaml_store_composer.specs.BufferModel.{buffered_event}
use Rattle.yaml_store_composer.proofs.BufferLaws.{alone}
use Rattle.std.proofs.Common.{◌∙◌}
use Rattle.yaml_store_composer.proofs.event_buffer.EventBuffer.put.Goals as goal

pub returns : goal.returns
returns c =
    let l = c.args.buffered in
    alone (props_of c.args.self.now.outer) (buffered_event l (props_of c.set_aside.new.own) (cow_str_bytes c.fill.new.copy)) ∙ (λ z. buffered_event l (c.set_aside.ensures z) (c.in_ok-fill.ensures z))
