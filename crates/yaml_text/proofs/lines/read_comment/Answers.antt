use Rattle.yaml_text.specs.Source.{text_of}
use Rattle.yaml_text.proofs.LineRuns.{hash_uncut}
use Rattle.yaml_text.proofs.RestLemmas.{comment_is}
use Rattle.yaml_text.proofs.lines.read_comment.Goals as goal

pub rest_of_line-after-requires : goal.rest_of_line-after-requires
rest_of_line-after-requires c = let s = c.in-Some.ensures.some in
    record { border = s.border; uncut = hash_uncut (text_of c.args.source.now) _ _ s.is s.next }

pub returns-in-Some-clause-some : goal.returns-in-Some-clause-some
returns-in-Some-clause-some c =
    let s = c.in-Some.ensures.some in
    let r = c.rest_of_line-after.ensures in
    comment_is (text_of c.args.source.now) _ _ _ _ s.is s.next r.chars r.end
