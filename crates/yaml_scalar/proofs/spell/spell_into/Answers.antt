use Rattle.std.proofs.Common.{arith}
use Rattle.std.proofs.lemmas.Str.{IsUtf8-string_bytes}
use Rattle.std.specs.String.{string_bytes}
use Rattle.yaml_scalar.proofs.SpellingLemmas.{grown_border}
use Rattle.yaml_scalar.proofs.spell.spell_into.Goals as goal

pub truncate-requires : goal.truncate-requires
truncate-requires c = λ _.
    let b = grown_border (string_bytes c.args.out.now) (string_bytes c.push_quoted.new.out) c.len-start.result (IsUtf8-string_bytes c.args.out.now) (IsUtf8-string_bytes c.push_quoted.new.out) c.push_quoted.ensures.grows
    (omega (arith, c.len-start.ensures, c.args.out.now.bytes.ok.0)) in
    (b.0, λ _. b.1)
