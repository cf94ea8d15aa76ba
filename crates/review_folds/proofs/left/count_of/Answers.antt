use Rattle.std.proofs.Common.{◌≡◌, length, rules}
use Rattle.review_folds.proofs.LeftLaws.{count_documents}
use Rattle.review_folds.proofs.left.count_of.Goals as goal

pub returns-then-is_empty : goal.returns-then-is_empty
returns-then-is_empty c =
    let e : length c.args.list.now ≡ 0 = search rules in
    count_documents c.args.forests.now c.args.list.now c.documents.result.now e c.documents.ensures
