use Rattle.yaml_definitions.specs.model.Tag.{core_tag}
use Rattle.review_text.proofs.Pieces.{on_ok}
use Rattle.review_text.proofs.TagLaws.{of_sequences, of_mappings, of_scalars}
use Rattle.review_text.proofs.tag_words.put_scalar_words.Goals as goal

pub returns-then-eq : goal.returns-then-eq
unfolding core_tag
returns-then-eq c = record { ok = (on_ok c.put_kind.result c.put_kind.ensures.ok (λ h. of_sequences c.args.tag.now c.args.text.now _ _ c.if-eq.ensures h)) }

pub returns-then-eq-2 : goal.returns-then-eq-2
unfolding core_tag
returns-then-eq-2 c = record { ok = (on_ok c.put_kind-then-eq-2.result c.put_kind-then-eq-2.ensures.ok (λ h. of_mappings c.args.tag.now c.args.text.now _ _ c.if-eq.ensures c.if-eq-2.ensures h)) }

pub returns : goal.returns
unfolding core_tag
returns c = record { ok = (on_ok c.put_content.result c.put_content.ensures.ok (λ h. of_scalars c.args.tag.now c.args.text.now _ _ c.if-eq.ensures c.if-eq-2.ensures h)) }
