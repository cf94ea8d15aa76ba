use Rattle.std.proofs.Common.{refl}
use Rattle.yaml_definitions.specs.model.Event.{alias_event}
use Rattle.yaml_tree_builder.proofs.JudgedLaws.{takes-refused, takes-stopped, takes-stepped}
use Rattle.yaml_tree_builder.proofs.judged.Judged.alias.Goals as goal

pub returns-in-Some : goal.returns-in-Some
returns-in-Some c = takes-refused c.args.self.now c.in-Some.field-0 c.args.at (alias_event c.args.name.now) c.in-Some.is

pub returns-in_ok-refusal : goal.returns-in_ok-refusal
returns-in_ok-refusal c = takes-stopped c.args.self.now _ c.args.at (alias_event c.args.name.now) c.in-Err.stop c.in_ok-refusal.field-0 c.in_default.is refl c.in_ok-refusal.ensures c.in-Err.ensures

pub returns-in_default-alias : goal.returns-in_default-alias
returns-in_default-alias c = takes-stepped c.args.self.now _ c.args.at (alias_event c.args.name.now) c.in_default.is refl c.in_default-alias.ensures
