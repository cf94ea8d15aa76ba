use Rattle.std.proofs.Common.{◌≡◌, true, false, not, sym, ap, ◌∙◌}
use Rattle.yaml_events.proofs.Tags.{is_a_tag}
use Rattle.yaml_events.proofs.tag.is_full.Goals as goal
use Rattle.yaml_events.proofs.tag.is_full.Goals.{then-not-is_empty, else-not-is_empty}

pub returns-then-text-tag_limit : goal.returns-then-text-tag_limit
returns-then-text-tag_limit c = elim c.if-not-is_empty.branch [
  | then-not-is_empty w ↦ is_a_tag c.args.text.now w.tag_limit.result c.if-not-is_empty.value c.ne.result c.utf8.text w.if-not-is_empty.ensures c.if-text-tag_limit.true w.value-is w.tag_limit.ensures c.ne.ensures
  | else-not-is_empty w ↦ let e : true ≡ false = sym c.if-text-tag_limit.true ∙ w.value-is ∙ ap not w.if-not-is_empty.false in absurd (cc)
]
