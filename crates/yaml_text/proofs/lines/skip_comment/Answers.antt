use Rattle.yaml_text.specs.Source.{text_of}
use Rattle.yaml_text.proofs.RestLemmas.{with_comment, no_comment}
use Rattle.yaml_text.proofs.lines.skip_comment.Goals as goal

pub returns-in-Some-clause-some : goal.returns-in-Some-clause-some
returns-in-Some-clause-some c = with_comment (text_of c.args.source.now) _ _ c.in-Some.ensures.some

pub returns-in-Some-end_line-clause-some : goal.returns-in-Some-end_line-clause-some
returns-in-Some-end_line-clause-some c = no_comment (text_of c.args.source.now) _ _ c.in-Some-end_line.ensures.some
