use Rattle.std.proofs.Common.{◌≡◌, length, drop}
use Rattle.review_hints.specs.Hints.{IsScanned}
use Rattle.review_hints.proofs.scan.Scan.of.Given as goal

abbrev pub invariant-loop-at : goal.invariant-loop-at
invariant-loop-at l = record {
  rest : drop l.at-iterator.count l.before ≡ l.at-iterator.iter.rest.now;
  scanned : IsScanned l.before (length l.before) l.scan;
}
