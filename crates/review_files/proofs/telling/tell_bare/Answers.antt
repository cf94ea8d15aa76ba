use Rattle.std.proofs.Common.{◌++◌, codes, ◌∙◌, subst}
use Rattle.review_files.specs.Lines.{TakesLine}
use Rattle.review_files.proofs.telling.tell_bare.Goals as goal

pub returns-clause-told : goal.returns-clause-told
returns-clause-told g c =
    subst (λ z. TakesLine g.E.Write.contents c.args.err.now c.put_message.new.err (codes "yamlreview: " ++ (z ++ codes "\n"))) (c.as_str.ensures.value ∙ c.message_of-message.ensures.bytes) c.put_message.ensures
