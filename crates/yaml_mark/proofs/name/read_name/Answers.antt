use Rattle.std.proofs.Common.{◌<◌, subst, arith}
use Rattle.std.proofs.lemmas.Str.{IsUtf8-had}
use Rattle.yaml_text.specs.Source.{text_of, place_of}
use Rattle.yaml_definitions.specs.grammar.Rules.{Stands}
use Rattle.yaml_definitions.specs.grammar.Tags.{is_name}
use Rattle.yaml_text.proofs.PlaceLemmas.{place_less}
use Rattle.yaml_mark.proofs.NameLemmas.{name_only, no_name_here, no_name_after}
use Rattle.yaml_mark.proofs.name.read_name.Goals as goal

pub returns-in-None-clause-refused : goal.returns-in-None-clause-refused
returns-in-None-clause-refused c = no_name_here (text_of c.args.source.now) _ c.in-None.ensures.none

pub returns-then-end-start-clause-refused : goal.returns-then-end-start-clause-refused
returns-then-end-start-clause-refused c =
    let s = c.args.source.now in
    no_name_after (text_of s) _ _ c.in-Some.ensures.some
    (subst (λ x. Stands (text_of s) is_name (place_of s x) → ⊥) c.if-end-start.true c.skip_run-end.ensures.furthest)

pub returns-clause-only : goal.returns-clause-only
returns-clause-only c =
    let s = c.args.source.now in
    let e = c.skip_run-end.ensures in
    let l : place_of s c.in-Some.to < place_of s c.skip_run-end.result =
    place_less s.text.now _ _ (IsUtf8-had s.text.now s.utf8) c.in-Some.ensures.border e.border (omega (arith, e.onward, c.if-end-start.false)) in
    name_only (text_of s) _ _ _ _ c.in-Some.ensures.some e.run l e.furthest c.text_between.ensures
