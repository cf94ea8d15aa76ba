use Rattle.yaml_store_rank.specs.Forests.{tree}
use Rattle.yaml_pair.proofs.TreeLaws.{group-lost, group-none, group-some}
use Rattle.yaml_pair.proofs.names.group_of.Goals as goal

pub returns-in_err-found_at : goal.returns-in_err-found_at
returns-in_err-found_at c = λ l. rw c.from_residual.ensures (group-lost c.args.forests.now (tree c.args.forests.now c.args.item.0) (c.in_err-found_at.ensures l))

pub returns-in_err-version : goal.returns-in_err-version
returns-in_err-version c = λ l.
    let f = c.in_ok-found_at.ensures l in
    rw c.from_residual-in_err-version.ensures (group-none c.args.forests.now (tree c.args.forests.now c.args.item.0) c.in_ok-found_at.field-0 f (c.in_err-version.ensures f.within))

pub returns : goal.returns
returns c = λ l.
    let f = c.in_ok-found_at.ensures l in
    group-some c.args.forests.now (tree c.args.forests.now c.args.item.0) c.in_ok-found_at.field-0 c.in_ok-version.version.now c.before_slash.result.now f (c.in_ok-version.ensures f.within) c.before_slash.ensures
