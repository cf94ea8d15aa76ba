use Rattle.std.proofs.Common.{◌≡◌}
use Rattle.std.specs.List.{slice_get}
use Rattle.review_folds.specs.contracts.lists.KeyOrd.TheImpl.{ghosts}
use Rattle.review_folds.specs.Lists.{below_of}
use Rattle.review_folds.proofs.ListLaws.{span_found}
use Rattle.review_folds.proofs.lists.Lists.span.Goals as goal

pub returns : goal.returns
returns c =
    let spans = c.args.self.now.spans.items in
    let n = c.in_ok-number.number in
    let value = c.deref.ensures.value in
    let found = c.span_at.ensures in
    let is : c.span_at.result ≡ slice_get spans n = cc in
    span_found (below_of ghosts.cmp c.args.self.now.numbers.below) c.args.found.now spans c.args.path.now n c.span_at.result c.requires.0 c.requires.1 c.in_ok-number.ensures is
