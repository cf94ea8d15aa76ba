use Rattle.std.proofs.Common.{◌∙◌, sym, ap, ◌∷◌, [], ◌++◌}
use Rattle.yaml_definitions.specs.canonical.TagText.{tag_text, written_tag}
use Rattle.yaml_spell.specs.Stops.{fault_of}
use Rattle.yaml_spell.specs.Kinds.{number_of_kind}
use Rattle.yaml_spell.specs.ShortNodes.{if_short}
use Rattle.yaml_spell.proofs.PieceLaws.{puts_then, puts_piece, fails_later, fails_piece}
use Rattle.yaml_spell.proofs.ShortLaws.{Holds, Stops, short_taken, short_missed, was_ok, was_err}
use Rattle.yaml_spell.proofs.WalkLaws.{brackets, two_square, square_bytes}
use Rattle.yaml_spell.proofs.node.short_brackets_len.Goals as goal

pub returns-then-is_err : goal.returns-then-is_err
returns-then-is_err c =
    let k = number_of_kind c.args.kind in
    let w = was_err c.put_tag.result (sym c.if-is_err.ensures.value) c.put_tag.ensures.err in
    short_missed c.new-length.result _ _ (fault_of w.0) (λ more. tag_text (written_tag k c.args.tag.now) ++ more) (91 ∷ 93 ∷ []) c.new-length.ensures.len (c.new-length.ensures.limit ∙ c.short_limit.ensures) w.1 ∙ ap if_short (brackets k c.args.tag.now (91 ∷ 93 ∷ []) two_square)

pub returns-in-Ok : goal.returns-in-Ok
returns-in-Ok c =
    let k = number_of_kind c.args.kind in
    let first = was_ok c.put_tag.result (sym c.if-is_err.ensures.value) c.put_tag.ensures.ok in
    c.len.ensures.len
    ∙ short_taken c.new-length.result c.put.new.self _ _ (λ more. tag_text (written_tag k c.args.tag.now) ++ ((91 ∷ 93 ∷ []) ++ more)) c.new-length.ensures.len (c.new-length.ensures.limit ∙ c.short_limit.ensures)
    (puts_then Holds _ _ _ _ _ _ _ (λ more. (91 ∷ 93 ∷ []) ++ more) first (puts_piece Holds _ _ _ _ (91 ∷ 93 ∷ []) (91 ∷ 93 ∷ []) c.in-Ok.ensures.ok square_bytes))
    ∙ ap if_short (brackets k c.args.tag.now (91 ∷ 93 ∷ []) two_square)

pub returns-in-Err : goal.returns-in-Err
returns-in-Err c =
    let k = number_of_kind c.args.kind in
    let first = was_ok c.put_tag.result (sym c.if-is_err.ensures.value) c.put_tag.ensures.ok in
    short_missed c.new-length.result _ _ _ (λ more. tag_text (written_tag k c.args.tag.now) ++ ((91 ∷ 93 ∷ []) ++ more)) [] c.new-length.ensures.len (c.new-length.ensures.limit ∙ c.short_limit.ensures)
    (fails_later Holds Stops _ _ _ _ _ _ _ (λ more. (91 ∷ 93 ∷ []) ++ more) first (fails_piece Holds Stops _ _ _ _ (91 ∷ 93 ∷ []) (91 ∷ 93 ∷ []) c.in-Err.ensures.err square_bytes))
    ∙ ap if_short (brackets k c.args.tag.now (91 ∷ 93 ∷ []) two_square)
