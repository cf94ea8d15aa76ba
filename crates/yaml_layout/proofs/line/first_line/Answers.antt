use Rattle.std.proofs.Common.{sym, subst, inl}
use Rattle.std.proofs.lemmas.Str.{IsUtf8-had, IsCharBoundary-start}
use Rattle.yaml_text.specs.Source.{text_of, place_of}
use Rattle.yaml_definitions.specs.grammar.Rules.{any_span}
use Rattle.yaml_definitions.specs.grammar.Separation.{l-comment as l_comment}
use Rattle.yaml_text.proofs.PlaceLemmas.{starts_at}
use Rattle.yaml_text.specs.Lines.{AfterLine}
use Rattle.yaml_text.proofs.Breaks.{line_zero}
use Rattle.yaml_layout.proofs.LineLemmas.{after_lines}
use Rattle.yaml_layout.proofs.line.first_line.Goals as goal

pub skip_comment_lines-start-requires : goal.skip_comment_lines-start-requires
skip_comment_lines-start-requires c =
    let s = c.args.source.now in
    record { border = IsCharBoundary-start s.text.now (IsUtf8-had s.text.now s.utf8); after = inl (line_zero (text_of s) _ (starts_at s.text.now)) }

pub returns-clause-comments : goal.returns-clause-comments
returns-clause-comments c =
    let s = c.args.source.now in
    subst (λ x. any_span (l_comment (text_of s)) x (place_of s c.line_at.result.start)) (starts_at s.text.now)
    (subst (λ x. any_span (l_comment (text_of s)) (place_of s 0) (place_of s x)) (sym c.line_at.ensures.start) c.skip_comment_lines-start.ensures.lines)

pub returns-clause-after : goal.returns-clause-after
returns-clause-after c =
    let s = c.args.source.now in
    subst (λ x. AfterLine (text_of s) (place_of s x)) (sym c.line_at.ensures.start)
    (after_lines (text_of s) _ _ (inl (line_zero (text_of s) _ (starts_at s.text.now))) c.skip_comment_lines-start.ensures.lines)
