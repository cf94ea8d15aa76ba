use Rattle.std.proofs.Common.{◌≡◌, length}
use Rattle.review_text.specs.Yaml11.{behind_all}
use Rattle.review_text.proofs.yaml11.behind_all.Given as goal

abbrev pub invariant-bytes : goal.invariant-bytes
invariant-bytes l = behind_all l.fn.set l.rest ≡ behind_all l.fn.set l.fn.text

abbrev pub decreases-bytes : goal.decreases-bytes
decreases-bytes l = length l.rest
