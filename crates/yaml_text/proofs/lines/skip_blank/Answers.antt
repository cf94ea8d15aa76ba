use Rattle.yaml_text.specs.Source.{text_of}
use Rattle.yaml_text.proofs.LineRuns.{indent_run, spaces_uncut}
use Rattle.yaml_text.proofs.RestLemmas.{blank_more, no_blank}
use Rattle.yaml_text.proofs.lines.skip_blank.Goals as goal

pub skip_comment-requires : goal.skip_comment-requires
skip_comment-requires c =
    let s = c.skip_spaces-from.ensures in
    record { border = s.border; uncut = spaces_uncut (text_of c.args.source.now) _ _ (indent_run (text_of c.args.source.now) _ _ _ s.spaces) c.requires.uncut }

pub returns-in-Some-clause-some : goal.returns-in-Some-clause-some
returns-in-Some-clause-some c =
    let s = c.skip_spaces-from.ensures in
    blank_more (text_of c.args.source.now) _ _ _ (indent_run (text_of c.args.source.now) _ _ _ s.spaces) c.in-Some.ensures.some

pub returns-in-None-clause-none : goal.returns-in-None-clause-none
returns-in-None-clause-none c =
    let s = c.skip_spaces-from.ensures in
    no_blank (text_of c.args.source.now) _ _ (indent_run (text_of c.args.source.now) _ _ _ s.spaces) s.furthest c.in-None.ensures.hash c.in-None.ensures.none
