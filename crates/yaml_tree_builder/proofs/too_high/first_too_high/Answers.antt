use Rattle.std.proofs.Common.{get_or, arith}
use Rattle.std.proofs.lemmas.Option.{slice_get_within, slice_get-get_or}
use Rattle.yaml_definitions.specs.model.Limits.{height_limit}
use Rattle.yaml_definitions.specs.model.Tree.{height}
use Rattle.yaml_store.specs.StoreGrows.{trees_of}
use Rattle.yaml_tree_builder.proofs.HighLaws.{roots-count, low-more, first-here, low-all-before, not-above}
use Rattle.yaml_tree_builder.proofs.too_high.first_too_high.Goals as goal

pub returns-then-is_too_high : goal.returns-then-is_too_high
returns-then-is_too_high c = λ good trees at.
    let i = c.loop-document.document in
    first-here (trees_of c.args.store.now) c.args.roots.now trees i (get_or c.args.roots.now i 0) at (slice_get-get_or c.args.roots.now i 0 c.loop-document-test.true) (c.loop-document.invariant good trees at) (λ t s. (c.is_too_high.ensures t good s).0 c.if-is_too_high.true)

pub loop-document-preserved : goal.loop-document-preserved
loop-document-preserved c = λ good trees at.
    let i = c.loop-document.document in
    low-more (trees_of c.args.store.now) c.args.roots.now trees i (get_or c.args.roots.now i 0) at (slice_get-get_or c.args.roots.now i 0 c.loop-document-test.true) (c.loop-document.invariant good trees at) (λ t s. not-above c.is_too_high.result height_limit (height t) c.if-is_too_high.false (c.is_too_high.ensures t good s).1)

pub returns : goal.returns
returns c = λ good trees at.
    low-all-before trees (λ k t e. c.loop-document.invariant good trees at k t (omega (arith, c.loop-document-test.false, slice_get_within trees k t e, roots-count (trees_of c.args.store.now) c.args.roots.now trees at)) e)
