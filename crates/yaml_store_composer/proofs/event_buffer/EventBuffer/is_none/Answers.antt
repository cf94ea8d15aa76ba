use Rattle.std.specs.Cow.{cow_str_bytes}
use Rattle.yaml_sink.specs.PropertyRules.{props_of}
use Rattle.yaml_store_composer.proofs.BufferLaws.{none-buffered, there}
use Rattle.yaml_store_composer.proofs.event_buffer.EventBuffer.is_none.Goals as goal

pub returns-in-Nothing-clause-yes : goal.returns-in-Nothing-clause-yes
returns-in-Nothing-clause-yes c = let w = c.args.self.now in none-buffered w.buffered w.mapping (props_of w.outer) (props_of w.own) (cow_str_bytes w.text) c.in-Nothing.is

pub returns-in_default-clause-no : goal.returns-in_default-clause-no
returns-in_default-clause-no c = let w = c.args.self.now in there w.buffered w.mapping (props_of w.outer) (props_of w.own) (cow_str_bytes w.text) c.in_default.not-Nothing
