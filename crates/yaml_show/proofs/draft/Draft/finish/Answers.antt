use Rattle.yaml_show.proofs.DraftLaws.{finished, unfinished}
use Rattle.yaml_show.proofs.draft.Draft.finish.Goals as goal

pub returns-in-None-clause-ok : goal.returns-in-None-clause-ok
returns-in-None-clause-ok c = λ limit text h. finished c.args.self c.in-None.is limit text h

pub returns-in-Some-clause-err : goal.returns-in-Some-clause-err
returns-in-Some-clause-err c = λ limit text h. unfinished c.args.self c.in-Some.stop c.in-Some.is limit text h
