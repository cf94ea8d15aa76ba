use Rattle.std.proofs.Common.{◌≡◌, List, ℕ, ◌++◌, ◌∷◌, [], ◌∙◌, ap}
use Rattle.std.proofs.lemmas.List.{append_assoc}
use Rattle.yaml_spell.proofs.whole.push_quoted.Goals as goal

together : (old a b c : List ℕ) → ((old ++ a) ++ b) ++ c ≡ old ++ (a ++ (b ++ c))
together old a b c = simp append_assoc

pub returns-clause-ok : goal.returns-clause-ok
returns-clause-ok c =
    c.in_ok-push_str-3.ensures.bytes ∙ ap (λ z. z ++ (34 ∷ [])) (c.in_ok-push_str-2.ensures.bytes ∙ ap (λ z. z ++ c.args.text.now) c.in_ok-push_str.ensures.bytes) ∙ together _ (34 ∷ []) c.args.text.now (34 ∷ [])
