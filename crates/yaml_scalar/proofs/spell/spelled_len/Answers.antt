use Rattle.std.proofs.lemmas.List.{nil_from_length}
use Rattle.std.proofs.lemmas.Str.{IsUtf8-past_char}
use Rattle.yaml_scalar.proofs.SpellingLemmas.{measured_more, measured_all}
use Rattle.yaml_scalar.proofs.spell.spelled_len.Goals as goal

pub measure-preserved : goal.measure-preserved
measure-preserved c =
    let v = c.measure.invariant in
    let s = c.in-Some.ensures.steps.0 in
    let m = measured_more _ _ c.args.text.now c.in-Some.c c.char_len.result c.measure.len v.utf8 s c.char_len.ensures.len c.char_len.ensures.bound v.sum v.bound in
    record { utf8 = IsUtf8-past_char _ _ c.in-Some.c v.utf8 s; sum = m.0; bound = m.1 }

pub returns : goal.returns
returns c = measured_all _ c.args.text.now c.measure.len (nil_from_length _ c.in-None.ensures.steps.0.0) c.measure.invariant.sum
