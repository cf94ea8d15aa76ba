-- Strings behind their tags.
use Rattle.std.proofs.Common.{◌≡◌, ℕ, false, cond, List, ◌++◌, refl, sym, ◌∙◌, ap}
use Rattle.std.specs.Prelude.{codes}
use Rattle.std.proofs.lemmas.List.{append_assoc}
use Rattle.yaml_definitions.specs.model.Tag.{core_tag, str_tag}
use Rattle.yaml_show_scalar.specs.Escapes.{quoted}
use Rattle.yaml_show_scalar.specs.Scalars.{stands_plain, string_text}
use Rattle.yaml_show_scalar.specs.Tags.{tag_before}
use Rattle.yaml_show_scalar.specs.declared.escapes.Language.TheVariants.{Yaml}
use Rattle.yaml_show_scalar.specs.declared.scalar.Quotes.{Quotes}

pub str_own : codes "tag:yaml.org,2002:str" ≡ str_tag
unfolding core_tag
str_own = refl

-- a piece behind a tag
pub behind_tag : (w g own a o piece : List ℕ) → own ≡ str_tag → a ≡ w ++ tag_before g own → o ≡ a ++ piece → o ≡ w ++ (tag_before g str_tag ++ piece)
behind_tag w g own a o piece f h k = k ∙ ap (λ z. z ++ piece) (h ∙ ap (λ z. w ++ tag_before g z) f) ∙ append_assoc w (tag_before g str_tag) piece

pub string_quoted : (q : Quotes) (w g own a x o : List ℕ) → own ≡ str_tag → stands_plain q x ≡ false → a ≡ w ++ tag_before g own → o ≡ a ++ quoted Yaml x → o ≡ w ++ string_text q g x
unfolding string_text
string_quoted q w g own a x o f s h k = behind_tag w g own a o (quoted Yaml x) f h k ∙ ap (λ z. w ++ (tag_before g str_tag ++ cond z x (quoted Yaml x))) (sym s)
