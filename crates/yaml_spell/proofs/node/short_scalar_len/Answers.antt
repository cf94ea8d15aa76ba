use Rattle.std.proofs.Common.{◌∙◌, ◌++◌, ◌∷◌, []}
use Rattle.std.specs.Str.{chars}
use Rattle.yaml_definitions.specs.canonical.NodeText.{node_text, quoted}
use Rattle.yaml_definitions.specs.canonical.Spell.{text_len}
use Rattle.yaml_definitions.specs.canonical.TagText.{tag_text, written_tag}
use Rattle.yaml_spell.proofs.ShortLaws.{short_taken, short_missed, long_scalar}
use Rattle.yaml_spell.proofs.node.short_scalar_len.Goals as goal

pub returns-then-content-gt-LONG : goal.returns-then-content-gt-LONG
returns-then-content-gt-LONG c = long_scalar c.args.tag.now c.args.content.now c.utf8.content c.if-content-gt-LONG.true

pub returns-in-Ok : goal.returns-in-Ok
unfolding text_len node_text
returns-in-Ok c = c.len.ensures.len ∙ short_taken c.new-length.result c.put_scalar.new.sink _ _ _ c.new-length.ensures.len (c.new-length.ensures.limit ∙ c.short_limit.ensures) c.in-Ok.ensures.ok

pub returns-in-Err : goal.returns-in-Err
unfolding text_len node_text
returns-in-Err c = short_missed c.new-length.result _ _ _ (λ more. tag_text (written_tag 0 c.args.tag.now) ++ (34 ∷ quoted (chars c.args.content.now) more)) [] c.new-length.ensures.len (c.new-length.ensures.limit ∙ c.short_limit.ensures) c.in-Err.ensures.err
