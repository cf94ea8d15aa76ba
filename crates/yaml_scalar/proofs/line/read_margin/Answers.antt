use Rattle.std.proofs.Common.{◌<◌, arith}
use Rattle.yaml_text.specs.Source.{text_of}
use Rattle.yaml_scalar.proofs.GapLemmas.{spaces_less, margin_is, no_space_code}
use Rattle.yaml_scalar.proofs.line.read_margin.Goals as goal

pub returns-then-count-most-clause-whole : goal.returns-then-count-most-clause-whole
returns-then-count-most-clause-whole c =
    let s = c.skip_whites.ensures in
    (margin_is (text_of c.args.source.now) _ _ _ _ _ c.if-count-most.true c.read_spaces-count.ensures.spaces s.whites, s.furthest)

pub returns-clause-short : goal.returns-clause-short
returns-clause-short c =
    let s = c.read_spaces-count.ensures in
    let less : c.read_spaces-count.result.0 < c.args.most = omega (arith, s.within, c.if-count-most.false) in
    (spaces_less (text_of c.args.source.now) _ _ _ _ s.spaces s.within c.if-count-most.false, no_space_code (text_of c.args.source.now) _ (s.furthest less))
