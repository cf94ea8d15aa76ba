use Rattle.std.proofs.Common.{[], subst}
use Rattle.yaml_definitions.specs.model.Limits.{text_limit}
use Rattle.yaml_show.specs.Drafts.{Holds}
use Rattle.yaml_show.proofs.sharing.sharing_text.Goals as goal

pub returns-clause-ok : goal.returns-clause-ok
returns-clause-ok g c =
    let h = c.put_documents.ensures.is text_limit [] (subst (λ z. Holds z c.new-draft.result []) c.text_limit.ensures c.new-draft.ensures) in
    c.finish.ensures.ok text_limit _ h

pub returns-clause-err : goal.returns-clause-err
returns-clause-err g c =
    let h = c.put_documents.ensures.is text_limit [] (subst (λ z. Holds z c.new-draft.result []) c.text_limit.ensures c.new-draft.ensures) in
    c.finish.ensures.err text_limit _ h
