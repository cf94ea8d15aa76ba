use Rattle.std.proofs.Common.{◌≡◌, ◌≤◌, ◌+◌, drop}
use Rattle.review_patterns.specs.declared.bracket.At.TheVariants.{Plain}
use Rattle.review_patterns.proofs.BracketLaws.{scan, plus}
use Rattle.review_patterns.proofs.bracket.bracket_len.Given as goal

abbrev pub invariant-bytes : goal.invariant-bytes
invariant-bytes l = record { is_open : 1 ≤ l.depth; few : l.depth ≤ l.place + 1; scanned : scan Plain 1 l.text ≡ plus l.place (scan l.at l.depth (drop l.place l.text)) }
