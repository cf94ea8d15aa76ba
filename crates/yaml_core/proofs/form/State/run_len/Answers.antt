use Rattle.std.proofs.Common.{◌≡◌, drop, true, refl, sym, ap, subst}
use Rattle.std.specs.Char.{is_digit}
use Rattle.yaml_core.specs.State.{meaning, by_test}
use Rattle.yaml_core.specs.declared.form.Form.TheVariants as forms
use Rattle.yaml_core.specs.declared.form.State.TheVariants as states
use Rattle.yaml_core.proofs.StateLemmas.{digits_digit, fraction_digit, base_digit}
use Rattle.yaml_core.proofs.FormLemmas.{digit_no_e, digit_no_point}
use Rattle.yaml_core.proofs.RunLemmas.{run_same}
use Rattle.yaml_core.proofs.form.State.run_len.Goals as goal

pub returns-in-Digits-clause-same : goal.returns-in-Digits-clause-same
unfolding meaning
returns-in-Digits-clause-same c =
    subst (λ s. meaning s c.args.bytes.now ≡ meaning s (drop c.front_len.result c.args.bytes.now)) (sym c.in-Digits.is)
    (run_same (meaning states.Digits) (λ b. is_digit b 10) (λ b r d. digits_digit b r d (digit_no_e b d) (digit_no_point b d)) c.args.bytes.now c.front_len.result c.front_len.ensures.len (λ k l. c.front_len.ensures.front k l refl))

pub returns-in-Fraction-clause-same : goal.returns-in-Fraction-clause-same
unfolding meaning
returns-in-Fraction-clause-same c =
    subst (λ s. meaning s c.args.bytes.now ≡ meaning s (drop c.front_len-in-Fraction.result c.args.bytes.now)) (sym c.in-Fraction.is)
    (run_same (meaning states.Fraction) (λ b. is_digit b 10) (λ b r d. ap (λ t. by_test t forms.Float) (fraction_digit true b r d (digit_no_e b d))) c.args.bytes.now c.front_len-in-Fraction.result c.front_len-in-Fraction.ensures.len (λ k l. c.front_len-in-Fraction.ensures.front k l refl))

pub returns-in-ExponentDigits-clause-same : goal.returns-in-ExponentDigits-clause-same
unfolding meaning
returns-in-ExponentDigits-clause-same c =
    subst (λ s. meaning s c.args.bytes.now ≡ meaning s (drop c.front_len-in-ExponentDigits.result c.args.bytes.now)) (sym c.in-ExponentDigits.is)
    (run_same (meaning states.ExponentDigits) (λ b. is_digit b 10) (λ b r d. base_digit 10 b r forms.Float d) c.args.bytes.now c.front_len-in-ExponentDigits.result c.front_len-in-ExponentDigits.ensures.len (λ k l. c.front_len-in-ExponentDigits.ensures.front k l refl))

pub returns-in-OctalDigits-clause-same : goal.returns-in-OctalDigits-clause-same
unfolding meaning
returns-in-OctalDigits-clause-same c =
    subst (λ s. meaning s c.args.bytes.now ≡ meaning s (drop c.front_len-in-OctalDigits.result c.args.bytes.now)) (sym c.in-OctalDigits.is)
    (run_same (meaning states.OctalDigits) (λ b. is_digit b 8) (λ b r d. base_digit 8 b r forms.Octal d) c.args.bytes.now c.front_len-in-OctalDigits.result c.front_len-in-OctalDigits.ensures.len (λ k l. c.front_len-in-OctalDigits.ensures.front k l refl))

pub returns-in-HexadecimalDigits-clause-same : goal.returns-in-HexadecimalDigits-clause-same
unfolding meaning
returns-in-HexadecimalDigits-clause-same c =
    subst (λ s. meaning s c.args.bytes.now ≡ meaning s (drop c.front_len-in-HexadecimalDigits.result c.args.bytes.now)) (sym c.in-HexadecimalDigits.is)
    (run_same (meaning states.HexadecimalDigits) (λ b. is_digit b 16) (λ b r d. base_digit 16 b r forms.Hexadecimal d) c.args.bytes.now c.front_len-in-HexadecimalDigits.result c.front_len-in-HexadecimalDigits.ensures.len (λ k l. c.front_len-in-HexadecimalDigits.ensures.front k l refl))
