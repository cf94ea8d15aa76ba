use Rattle.std.specs.Prelude.{Ok}
use Rattle.review_merge.proofs.JudgeLaws.{roots-within, answer-judged}
use Rattle.review_merge.proofs.judge.judge.Goals as goal

pub stream_conflicts-requires : goal.stream_conflicts-requires
stream_conflicts-requires c = record { within = roots-within c.args.forests.now c.laws.ensures c.args.given c.args.roots.now c.requires }

pub returns-clause-says : goal.returns-clause-says
returns-clause-says c = answer-judged c.args.forests.now c.laws.ensures c.args.given c.args.roots.now c.requires (Ok c.in_ok-stream_conflicts.field-0) c.in_ok-stream_conflicts.ensures.ok
