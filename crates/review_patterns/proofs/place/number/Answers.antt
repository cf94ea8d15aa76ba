use Rattle.std.proofs.Common.{◌≡◌, true, false, MatchOption, rules, sym, subst}
use Rattle.std.specs.Str.Parse.{digits_value, ParsesUnsigned}
use Rattle.review_patterns.specs.Places.{is_number}
use Rattle.review_patterns.proofs.PlaceLaws.{digits-utf8, number-read}
use Rattle.review_patterns.proofs.place.number.Goals as goal

pub returns-in-Ok : goal.returns-in-Ok
returns-in-Ok c =
    let read = number-read c.args.text.now c.parse.result (search rules) (subst (λ z. ParsesUnsigned 64 10 z c.parse.result) c.in-Ok.ensures.cases.0 c.parse.ensures.value.0) in
    subst (λ z. MatchOption z (is_number c.args.text.now ≡ false) (λ value. (is_number c.args.text.now ≡ true) × (value ≡ digits_value 10 c.args.text.now))) (sym c.ok.ensures.value) read

pub returns-in-Err : goal.returns-in-Err
returns-in-Err c = absurd (c.in-Err.ensures.cases.0 (digits-utf8 c.args.text.now (search rules)))
