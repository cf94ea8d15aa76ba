use Rattle.std.proofs.Common.{subst}
use Rattle.yaml_json.specs.Json.{Chars, no_char}
use Rattle.yaml_json.proofs.Rules.{char_read, none_told}
use Rattle.yaml_json.proofs.Lengths.{char_shorter}
use Rattle.yaml_json.proofs.OneReading.{chars_on, chars_end, chars_none}
use Rattle.yaml_json.proofs.string.after_chars.Goals as goal

pub chars-init : goal.chars-init
chars-init c = record { reads = λ r k. k; only = λ r k. k }

pub chars-preserved : goal.chars-preserved
chars-preserved c =
    let v = c.chars.invariant in
    let one = c.in_ok-rest.ensures.some in
    record {
      reads = λ r k. v.reads r (char_read _ _ r one k);
      only = λ r k. chars_on _ _ r c.in_default.ensures.none one (v.only r k);
    }

pub chars-smaller : goal.chars-smaller
chars-smaller c = char_shorter c.in_ok-rest.ensures.some

pub returns-in-Some-clause-some : goal.returns-in-Some-clause-some
returns-in-Some-clause-some c = c.chars.invariant.reads _ (subst (λ z. Chars c.chars.rest.now z) c.in-Some.ensures.some no_char)

pub returns-in-Some-clause-only : goal.returns-in-Some-clause-only
returns-in-Some-clause-only c = λ r k. chars_end _ _ r c.in-Some.ensures.some (c.chars.invariant.only r k)

pub returns-in_err-rest-clause-none : goal.returns-in_err-rest-clause-none
returns-in_err-rest-clause-none c =
    none_told _ _ c.from_residual.ensures (λ r k. chars_none _ r c.in_default.ensures.none c.in_err-rest.ensures.none (c.chars.invariant.only r k))
