use Rattle.std.proofs.Common.{◌+◌, ◌/◌, ◌%◌, [], ◌∷◌, ◌++◌, sym, ◌∙◌, ap, append_assoc}
use Rattle.std.specs.String.{string_bytes}
use Rattle.yaml_definitions.specs.model.Core.{natural_text}
use Rattle.yaml_core.proofs.NumberLemmas.{natural_digit, natural_more}
use Rattle.yaml_core.proofs.TextLemmas.{if_ok_to}
use Rattle.yaml_core.proofs.text.+push_natural.Goals as goal

pub returns-then-number-lt10 : goal.returns-then-number-lt10
returns-then-number-lt10 t c =
    let old = string_bytes c.args.out.now in
    if_ok_to c.push_digit.result _ (old ++ ((48 + c.args.number) ∷ [])) (old ++ natural_text c.args.number) c.push_digit.ensures
    (ap (λ x. old ++ x) (sym (natural_digit c.args.number c.if-number-lt10.true)))

pub returns : goal.returns
returns t c =
    let old = string_bytes c.args.out.now in
    let n = c.args.number in
    if_ok_to c.push_digit-2.result _ (string_bytes c.push_natural.new.out ++ ((48 + n % 10) ∷ [])) (old ++ natural_text n) c.push_digit-2.ensures
    (ap (λ x. x ++ ((48 + n % 10) ∷ [])) c.in_ok-push_natural.ensures
    ∙ (append_assoc old (natural_text (n / 10)) ((48 + n % 10) ∷ []) ∙ ap (λ x. old ++ x) (sym (natural_more n c.if-number-lt10.false))))
