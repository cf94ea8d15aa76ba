use Rattle.std.proofs.Common.{subst}
use Rattle.yaml_text.specs.Source.{text_of, place_of}
use Rattle.yaml_definitions.specs.grammar.BlockScalars.{c-indentation-indicator as indentation_indicator}
use Rattle.yaml_scalar.proofs.HeaderLemmas.{digit_first_is, sign_first_from, digit_only, sign_only, no_digit_first}
use Rattle.yaml_scalar.proofs.block.header.read_indicators.Goals as goal

pub returns-in-Some-clause-indicators : goal.returns-in-Some-clause-indicators
returns-in-Some-clause-indicators c =
    digit_first_is (text_of c.args.source.now) _ _ _ _ _ c.read_digit-digit.ensures.digit c.read_sign-chomp.ensures.sign

pub returns-in-Some-clause-only : goal.returns-in-Some-clause-only
returns-in-Some-clause-only c =
    let cs = text_of c.args.source.now in
    let d = subst (indentation_indicator cs (place_of c.args.source.now c.args.at) (place_of c.args.source.now c.read_digit-digit.result.1)) c.in-Some.is c.read_digit-digit.ensures.digit in
    digit_only cs _ _ _ _ _ d c.read_sign-chomp.ensures.sign c.read_sign-chomp.ensures.none

pub returns-in-None-clause-indicators : goal.returns-in-None-clause-indicators
returns-in-None-clause-indicators c =
    let cs = text_of c.args.source.now in
    let d = subst (indentation_indicator cs (place_of c.args.source.now c.args.at) (place_of c.args.source.now c.read_digit-digit.result.1)) c.in-None.is c.read_digit-digit.ensures.digit in
    sign_first_from cs _ _ _ _ _ _ (no_digit_first cs _ _ d) c.read_sign-chomp.ensures.sign c.read_digit-later.ensures.digit

pub returns-in-None-clause-only : goal.returns-in-None-clause-only
returns-in-None-clause-only c =
    let cs = text_of c.args.source.now in
    let d = subst (indentation_indicator cs (place_of c.args.source.now c.args.at) (place_of c.args.source.now c.read_digit-digit.result.1)) c.in-None.is c.read_digit-digit.ensures.digit in
    sign_only cs _ _ _ _ _ _ (no_digit_first cs _ _ d) c.read_digit-digit.ensures.none c.read_sign-chomp.ensures.sign c.read_sign-chomp.ensures.none c.read_digit-later.ensures.digit c.read_digit-later.ensures.none
