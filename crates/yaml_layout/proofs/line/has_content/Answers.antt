use Rattle.yaml_text.specs.Source.{text_of}
use Rattle.yaml_text.proofs.Tests.{on_false_at}
use Rattle.yaml_layout.proofs.LineLemmas.{indented_no_mark}
use Rattle.yaml_layout.proofs.line.has_content.Goals as goal

pub returns-then-line-gt0-clause-yes : goal.returns-then-line-gt0-clause-yes
returns-then-line-gt0-clause-yes c =
    let l = c.requires in
    (on_false_at c.is_end.result c.if-is_end.false c.is_end.ensures.no, indented_no_mark (text_of c.args.source.now) _ _ _ c.if-line-gt0.true l.spaces)
