use Rattle.std.proofs.Common.{◌++◌, sym, ap, ◌∙◌}
use Rattle.std.specs.Char.{encode_utf8}
use Rattle.std.proofs.lemmas.List.{nil_from_length}
use Rattle.yaml_spell.proofs.QuotedLaws.{cut_some, cut_none}
use Rattle.yaml_spell.proofs.quoted.cut.Goals as goal

pub returns-in-Some-clause-spelled : goal.returns-in-Some-clause-spelled
returns-in-Some-clause-spelled c =
    cut_some c.args.text.now _ c.chars-chars.result.rest.now _ c.plain_len.result c.in-Some.c c.plain_len.ensures.spelled c.split_at.ensures.front (c.chars-chars.ensures.rest ∙ c.split_at.ensures.back) c.utf8.text c.plain_len.ensures.border
    (c.in-Some.ensures.steps.0 ∙ ap (λ z. encode_utf8 c.in-Some.c ++ z) (sym c.as_str.ensures))

pub returns-in-None-clause-spelled : goal.returns-in-None-clause-spelled
returns-in-None-clause-spelled c =
    cut_none c.args.text.now _ c.chars-chars.result.rest.now c.plain_len.result c.plain_len.ensures.spelled c.split_at.ensures.front (c.chars-chars.ensures.rest ∙ c.split_at.ensures.back) (nil_from_length _ c.in-None.ensures.steps.0.0)
