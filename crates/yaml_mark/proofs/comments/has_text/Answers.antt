use Rattle.yaml_text.specs.Source.{text_of}
use Rattle.yaml_text.proofs.Tests.{on_true_at, on_true_weaker, on_false_at}
use Rattle.yaml_mark.proofs.CommentLemmas.{text_here, text_no_rest}
use Rattle.yaml_mark.proofs.comments.has_text.Goals as goal

pub returns-then-begins_text : goal.returns-then-begins_text
returns-then-begins_text c =
    text_here (text_of c.args.source.now) _ (on_false_at c.starts_line.result c.if-starts_line.false c.starts_line.ensures.no) (on_true_at c.begins_text.result c.if-begins_text.true c.begins_text.ensures)

pub returns-in-Some : goal.returns-in-Some
returns-in-Some c =
    let out = on_false_at c.starts_line.result c.if-starts_line.false c.starts_line.ensures.no in
    on_true_weaker c.begins_text-in-Some.result (λ w. text_no_rest (text_of c.args.source.now) _ _ out c.in-Some.ensures.some.is c.in-Some.ensures.some.next w) c.begins_text-in-Some.ensures
