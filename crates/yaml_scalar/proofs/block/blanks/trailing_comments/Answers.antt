use Rattle.std.proofs.Common.{◌<◌, arith}
use Rattle.yaml_text.specs.Source.{text_of}
use Rattle.yaml_scalar.proofs.TrailingLemmas.{comment_after, full_indent, no_hash, comments_end}
use Rattle.yaml_scalar.proofs.block.blanks.trailing_comments.Goals as goal

pub returns-then-count-indent-clause-lines : goal.returns-then-count-indent-clause-lines
returns-then-count-indent-clause-lines c =
    full_indent (text_of c.args.source.now) _ _ _ _ c.if-count-indent.true c.read_spaces-count.ensures.spaces

pub skip_comment_lines-requires : goal.skip_comment_lines-requires
skip_comment_lines-requires c =
    record { border = c.in-Some.ensures.border; after = comment_after (text_of c.args.source.now) _ _ c.in-Some.ensures.some }

pub returns-in-None-clause-lines : goal.returns-in-None-clause-lines
returns-in-None-clause-lines c =
    let s = c.read_spaces-count.ensures in
    no_hash (text_of c.args.source.now) _ _ _ _ s.spaces (s.furthest (omega (arith, s.within, c.if-count-indent.false))) c.in-None.ensures.none

pub returns-in-Some-clause-lines : goal.returns-in-Some-clause-lines
returns-in-Some-clause-lines c =
    let s = c.read_spaces-count.ensures in
    let less : c.read_spaces-count.result.0 < c.args.indent = omega (arith, s.within, c.if-count-indent.false) in
    comments_end (text_of c.args.source.now) _ _ _ _ _ _ s.spaces less c.in-Some.ensures.some c.skip_comment_lines.ensures.lines c.skip_comment_lines.ensures.furthest
