use Rattle.yaml_text.specs.Source.{text_of}
use Rattle.yaml_mark.proofs.TagLemmas.{rest_is, rest_none}
use Rattle.yaml_mark.proofs.tag.skip_handle.Goals as goal

pub returns-in-Some-clause-rest : goal.returns-in-Some-clause-rest
returns-in-Some-clause-rest c = let s = c.in-Some.ensures.some in rest_is (text_of c.args.source.now) _ _ _ c.skip_run-word.ensures.run s.is s.next

pub returns-in-None-clause-rest : goal.returns-in-None-clause-rest
returns-in-None-clause-rest c = rest_none (text_of c.args.source.now) _ _ c.skip_run-word.ensures.run c.skip_run-word.ensures.furthest c.in-None.ensures.none
