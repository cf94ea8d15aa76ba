use Rattle.std.proofs.Common.{◌++◌, Some, ap, ◌∙◌}
use Rattle.std.specs.Option.{option_map}
use Rattle.yaml_definitions.specs.grammar.Tags.{percent_decode}
use Rattle.yaml_mark.specs.PrefixModel.{decoded_of}
use Rattle.yaml_mark.proofs.handles.Handles.get.Goals as goal

pub returns-in-Some : goal.returns-in-Some
returns-in-Some c = λ s.
    ap (λ z. Some (z ++ percent_decode s)) c.prefix.ensures ∙ ap (option_map (λ b. b ++ percent_decode s)) (ap (option_map decoded_of) c.in-Some.ensures.value) ∙ c.args.self.now.found c.args.handle.now s

pub returns-in-None : goal.returns-in-None
returns-in-None c = λ s.
    ap (option_map (λ b. b ++ percent_decode s)) (ap (option_map decoded_of) c.in-None.ensures.value) ∙ c.args.self.now.found c.args.handle.now s
