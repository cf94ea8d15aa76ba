use Rattle.std.proofs.Common.{refl, rules}
use Rattle.std.specs.Char.{encode_utf8}
use Rattle.yaml_definitions.specs.model.Tag.{core_tag}
use Rattle.yaml_definitions.specs.canonical.TagText.{full_text}
use Rattle.yaml_text.proofs.core_tag.core_text.Goals as goal

pub returns-then-eq-clause-some : goal.returns-then-eq-clause-some
unfolding encode_utf8 core_tag full_text
returns-then-eq-clause-some c = (search rules, refl)

pub returns-then-eq-2-clause-some : goal.returns-then-eq-2-clause-some
unfolding encode_utf8 core_tag full_text
returns-then-eq-2-clause-some c = (search rules, refl)

pub returns-then-eq-3-clause-some : goal.returns-then-eq-3-clause-some
unfolding encode_utf8 core_tag full_text
returns-then-eq-3-clause-some c = (search rules, refl)

pub returns-then-eq-4-clause-some : goal.returns-then-eq-4-clause-some
unfolding encode_utf8 core_tag full_text
returns-then-eq-4-clause-some c = (search rules, refl)
