use Rattle.std.proofs.Common.{◌≡◌, inr, arith, subst}
use Rattle.yaml_text.specs.Source.{text_of, place_of}
use Rattle.yaml_definitions.specs.grammar.Rules.{Stands}
use Rattle.yaml_definitions.specs.grammar.Characters.{is_space}
use Rattle.yaml_text.proofs.LineRuns.{indent_run, indent_place}
use Rattle.yaml_text.proofs.Tests.{on_false_at}
use Rattle.yaml_block.proofs.block.signs.content_start.Goals as goal

pub returns-clause-follows : goal.returns-clause-follows
returns-clause-follows c =
    let cs = text_of c.args.source.now in
    let s = c.skip_spaces-count.ensures.spaces in
    inr (on_false_at c.is_none.result c.if-is_none.false c.is_none.ensures.no, indent_run cs _ _ _ s, omega (arith, indent_place cs _ _ _ s, c.if-count-eq0.false))

pub returns-then-count-eq0-clause-none : goal.returns-then-count-eq0-clause-none
returns-then-count-eq0-clause-none c =
    let s = c.args.source.now in
    let cs = text_of s in
    let e : place_of s c.skip_spaces-count.result.1 ≡ place_of s c.args.head.now.end = omega (arith, indent_place cs _ _ _ c.skip_spaces-count.ensures.spaces, c.if-count-eq0.true) in
    (on_false_at c.is_none.result c.if-is_none.false c.is_none.ensures.no, subst (λ z. Stands cs is_space z → ⊥) e c.skip_spaces-count.ensures.furthest)
