use Rattle.std.proofs.Common.{◌≡◌, ◌≢◌, ℕ, ◌++◌, ◌∷◌, [], zero, suc, replicate, ◌∙◌, sym, ap, refl, arith, rules}
use Rattle.std.specs.Str.{chars}
use Rattle.std.specs.String.{string_bytes}
use Rattle.std.proofs.lemmas.Str.{IsUtf8-string_bytes}
use Rattle.std.proofs.lemmas.Result.{IfOk-weaker}
use Rattle.yaml_text.proofs.PlaceLemmas.{chars_pushed}
use Rattle.yaml_scalar.specs.Chains.{folded_breaks}
use Rattle.yaml_scalar.proofs.OutcomeLemmas.{if_ok}
use Rattle.yaml_scalar.proofs.text.push_fold.Goals as goal

no_lines : (n : ℕ) → n ≡ 0 → folded_breaks (replicate n 10) ≡ 32 ∷ []
no_lines zero e = refl
no_lines (suc n) e = absurd (omega (arith, e))

some_lines : (n : ℕ) → n ≢ 0 → folded_breaks (replicate n 10) ≡ replicate n 10
some_lines zero e = absurd (e refl)
some_lines (suc n) e = refl

pub returns-then-count-eq0 : goal.returns-then-count-eq0
returns-then-count-eq0 c =
    let old = string_bytes c.args.text.now in
    IfOk-weaker c.push.result _ _
    (λ _ e. chars_pushed old _ 32 (IsUtf8-string_bytes c.args.text.now) (search rules) e ∙ ap (λ v. chars old ++ v) (sym (no_lines c.args.count c.if-count-eq0.true)))
    (if_ok c.push.result _ _ _ c.push.ensures.bytes)

pub returns-else-count-eq0 : goal.returns-else-count-eq0
returns-else-count-eq0 c =
    IfOk-weaker c.push_lines.result _ _ (λ _ e. e ∙ ap (λ v. chars (string_bytes c.args.text.now) ++ v) (sym (some_lines c.args.count c.if-count-eq0.false))) c.push_lines.ensures
