use Rattle.yaml_show.proofs.draft.Draft.forgo.Goals as goal

pub returns : goal.returns
returns c = record { is = λ limit text. λ more. tt }
