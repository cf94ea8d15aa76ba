use Rattle.std.proofs.Common.{sym, ◌∙◌}
use Rattle.yaml_conflicts.proofs.WalkLaws.{none-spends, cut-spends, one-spends}
use Rattle.yaml_conflicts.proofs.StreamLaws.{alone-found, document-settled, document-cut, document-one}
use Rattle.yaml_conflicts.proofs.streams.of_document.Goals as goal

pub returns-then-is_alone-clause-ok : goal.returns-then-is_alone-clause-ok
returns-then-is_alone-clause-ok c = alone-found c.args.forests.now c.args.given c.args.sides c.args.is_alone c.if-is_alone.true c.conflicts.result c.conflicts.ensures.ok

pub returns-then-is_settled-clause-ok : goal.returns-then-is_settled-clause-ok
returns-then-is_settled-clause-ok c = document-settled c.args.forests.now c.args.given c.args.sides c.args.is_alone c.if-is_alone.false c.none.result c.none.ensures.list (sym c.is_settled.ensures ∙ c.if-is_settled.true)

pub returns-then-is_settled-clause-room : goal.returns-then-is_settled-clause-room
returns-then-is_settled-clause-room c = none-spends c.args.room c.none.result c.none.ensures.room c.none.ensures.whole

pub returns-then-is_spent-clause-ok : goal.returns-then-is_spent-clause-ok
returns-then-is_spent-clause-ok c = document-cut c.args.forests.now c.args.given c.args.sides c.args.is_alone c.none-then-is_spent.result c.none-then-is_spent.ensures.list c.none-then-is_spent.ensures.whole

pub returns-then-is_spent-clause-room : goal.returns-then-is_spent-clause-room
returns-then-is_spent-clause-room c = cut-spends c.args.room c.none-then-is_spent.result c.none-then-is_spent.ensures.room (sym c.is_spent.ensures ∙ c.if-is_spent.true)

pub returns-clause-ok : goal.returns-clause-ok
returns-clause-ok c = document-one c.args.forests.now c.args.given c.args.sides c.args.is_alone c.if-is_alone.false c.one.result c.one.ensures.list (sym c.is_settled.ensures ∙ c.if-is_settled.false)

pub returns-clause-room : goal.returns-clause-room
returns-clause-room c = one-spends c.args.room c.one.result c.one.ensures.whole (sym c.is_spent.ensures ∙ c.if-is_spent.false)
