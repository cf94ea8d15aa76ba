use Rattle.std.proofs.Common.{refl}
use Rattle.yaml_definitions.specs.model.Tag.{core_tag}
use Rattle.review_text.proofs.NodeLaws.{scalar_filled}
use Rattle.review_text.proofs.Pieces.{on_ok}
use Rattle.review_text.proofs.text.put_scalar.Goals as goal

pub returns : goal.returns
unfolding core_tag
returns c = record { ok = (on_ok c.put_spelled.result c.put_spelled.ensures.ok (λ h. scalar_filled c.args.room c.args.tag.now _ c.args.content.now _ _ _ _ refl c.long_front.ensures c.in_ok-put_tag.ensures.ok h)) }
