use Rattle.std.proofs.Common.{◌<◌, ℕ, subst, arith}
use Rattle.std.proofs.lemmas.Str.{IsUtf8-had}
use Rattle.yaml_text.specs.declared.chars.Chars.{Chars}
use Rattle.yaml_text.specs.Source.{text_of, place_of, IsBorder}
use Rattle.yaml_definitions.specs.grammar.Rules.{Stands}
use Rattle.yaml_definitions.specs.grammar.Characters.{is_space, is_ns}
use Rattle.yaml_text.proofs.PlaceLemmas.{place_less}
use Rattle.yaml_text.proofs.LineRuns.{indent_run}
use Rattle.yaml_mark.proofs.DirectiveLemmas.{no_gap_parameter, no_solid_parameter, no_hash_parameter, parameter_is}
use Rattle.yaml_mark.proofs.directive.next_parameter.Goals as goal

less : (s : Chars) (a b : ℕ) → IsBorder s a → IsBorder s b → a < b → place_of s a < place_of s b
less s a b p q l = place_less s.text.now a b (IsUtf8-had s.text.now s.utf8) p q l

pub returns-then-from-at-clause-none : goal.returns-then-from-at-clause-none
returns-then-from-at-clause-none c =
    no_gap_parameter (text_of c.args.source.now) _ (subst (λ x. Stands (text_of c.args.source.now) is_space (place_of c.args.source.now x) → ⊥) c.if-from-at.true c.skip_spaces-from.ensures.furthest)

pub returns-in-Some-clause-none : goal.returns-in-Some-clause-none
returns-in-Some-clause-none c =
    let e = c.skip_spaces-from.ensures in
    no_hash_parameter (text_of c.args.source.now) _ _ (indent_run (text_of c.args.source.now) _ _ _ e.spaces) e.furthest c.in-Some.ensures.some.is

pub returns-then-to-from-clause-none : goal.returns-then-to-from-clause-none
returns-then-to-from-clause-none c =
    let e = c.skip_spaces-from.ensures in
    no_solid_parameter (text_of c.args.source.now) _ _ (indent_run (text_of c.args.source.now) _ _ _ e.spaces) e.furthest
    (subst (λ x. Stands (text_of c.args.source.now) is_ns (place_of c.args.source.now x) → ⊥) c.if-to-from.true c.skip_run-to.ensures.furthest)

pub returns-else-to-from-clause-some : goal.returns-else-to-from-clause-some
returns-else-to-from-clause-some c =
    let e = c.skip_spaces-from.ensures in
    let s = c.skip_run-to.ensures in
    parameter_is (text_of c.args.source.now) _ _ _ (indent_run (text_of c.args.source.now) _ _ _ e.spaces) (less c.args.source.now _ _ c.requires e.border (omega (arith, e.onward, c.if-from-at.false)))
    c.in-None.ensures.none s.run (less c.args.source.now _ _ e.border s.border (omega (arith, s.onward, c.if-to-from.false))) s.furthest
