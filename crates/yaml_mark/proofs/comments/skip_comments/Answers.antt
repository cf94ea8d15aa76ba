use Rattle.std.proofs.Common.{inl}
use Rattle.yaml_text.specs.Source.{text_of}
use Rattle.yaml_text.proofs.Tests.{on_true_at, on_false_at}
use Rattle.yaml_text.proofs.RestLemmas.{blank_after}
use Rattle.yaml_mark.proofs.CommentLemmas.{lines_after, line_comments, line_furthest, rest_comments, rest_furthest, no_rest, hash_no_comments, cut_no_comments}
use Rattle.yaml_text.specs.Calls as calls
use Rattle.yaml_mark.proofs.comments.skip_comments.Goals as goal

pub returns-then-starts_line-clause-line : goal.returns-then-starts_line-clause-line
returns-then-starts_line-clause-line c =
    lines_after (text_of c.args.source.now) (inl (on_true_at c.starts_line.result c.if-starts_line.true c.starts_line.ensures.yes)) c.skip_comment_lines.ensures.lines

pub returns-then-starts_line-clause-some : goal.returns-then-starts_line-clause-some
unfolding calls.skip_comments
returns-then-starts_line-clause-some c =
    let cs = text_of c.args.source.now in
    let s = on_true_at c.starts_line.result c.if-starts_line.true c.starts_line.ensures.yes in
    let e = c.skip_comment_lines.ensures in
    (line_comments cs _ _ s e.lines, line_furthest cs _ _ s e.lines e.furthest)

pub returns-then-is_cut-clause-none : goal.returns-then-is_cut-clause-none
returns-then-is_cut-clause-none c =
    cut_no_comments (text_of c.args.source.now) _ (on_true_at c.is_cut.result c.if-is_cut.true c.is_cut.ensures.yes) (on_true_at c.is_cut.result c.if-is_cut.true c.is_cut.ensures.feed)

pub skip_comment_lines-requires-in-Some-skip_blank-clause-after : goal.skip_comment_lines-requires-in-Some-skip_blank-clause-after
skip_comment_lines-requires-in-Some-skip_blank-clause-after c = blank_after (text_of c.args.source.now) _ _ c.in-Some-skip_blank.ensures.some

pub returns-in-Some-clause-none : goal.returns-in-Some-clause-none
returns-in-Some-clause-none c =
    hash_no_comments (text_of c.args.source.now) _ (on_false_at c.starts_line.result c.if-starts_line.false c.starts_line.ensures.no) c.in-Some.ensures.some.is

pub returns-in-None-skip_blank-clause-none : goal.returns-in-None-skip_blank-clause-none
returns-in-None-skip_blank-clause-none c =
    no_rest (text_of c.args.source.now) _ (on_false_at c.starts_line.result c.if-starts_line.false c.starts_line.ensures.no) c.in-None-skip_blank.ensures.none

pub returns-in-Some-skip_blank-clause-line : goal.returns-in-Some-skip_blank-clause-line
returns-in-Some-skip_blank-clause-line c =
    let cs = text_of c.args.source.now in
    lines_after cs (blank_after cs _ _ c.in-Some-skip_blank.ensures.some) c.skip_comment_lines-in-Some-skip_blank.ensures.lines

pub returns-in-Some-skip_blank-clause-some : goal.returns-in-Some-skip_blank-clause-some
unfolding calls.skip_comments
returns-in-Some-skip_blank-clause-some c =
    let cs = text_of c.args.source.now in
    let out = on_false_at c.starts_line.result c.if-starts_line.false c.starts_line.ensures.no in
    let b = c.in-Some-skip_blank.ensures.some in
    let e = c.skip_comment_lines-in-Some-skip_blank.ensures in
    (rest_comments cs _ _ _ b c.in-None.ensures.none e.lines, rest_furthest cs _ _ _ out b e.lines e.furthest)
