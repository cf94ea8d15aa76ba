use Rattle.std.proofs.Common.{◌+◌, Some, None, get_or}
use Rattle.review_patterns.specs.declared.bracket.At.TheVariants.{Plain}
use Rattle.review_patterns.proofs.BracketLaws.{scan, scan-end, scan-over, closes-at, whole-at, drop-next, drop-over}
use Rattle.review_patterns.proofs.bracket.bracket_len.Goals as goal

pub returns-then-depth-eq0-clause-closes : goal.returns-then-depth-eq0-clause-closes
returns-then-depth-eq0-clause-closes c =
    let text = c.args.text.now in
    let at = c.bytes.place in
    closes-at text (at + 1) (scan-end c.bytes.at (get_or text at 0) c.bytes.depth c.depth_behind-depth.result at text (scan Plain 1 text) c.bytes.invariant.scanned (drop-next text at c.bytes-test.true) c.depth_behind-depth.ensures c.if-depth-eq0.true)

pub returns-then-depth-eq0-clause-whole : goal.returns-then-depth-eq0-clause-whole
returns-then-depth-eq0-clause-whole c =
    let text = c.args.text.now in
    let at = c.bytes.place in
    whole-at text (Some (at + 1)) (scan-end c.bytes.at (get_or text at 0) c.bytes.depth c.depth_behind-depth.result at text (scan Plain 1 text) c.bytes.invariant.scanned (drop-next text at c.bytes-test.true) c.depth_behind-depth.ensures c.if-depth-eq0.true)

pub returns-clause-whole : goal.returns-clause-whole
returns-clause-whole c =
    let text = c.args.text.now in
    whole-at text None (scan-over c.bytes.at c.bytes.depth c.bytes.place text (scan Plain 1 text) c.bytes.invariant.scanned (drop-over text c.bytes.place c.bytes-test.false))
