use Rattle.std.proofs.Common.{◌≡◌, ◌+◌, drop}
use Rattle.std.specs.List.{prefix_len}
use Rattle.review_patterns.specs.Classes.{passes}
use Rattle.review_patterns.proofs.name.front_len.Given as goal

abbrev pub invariant-bytes : goal.invariant-bytes
invariant-bytes l = prefix_len (passes l.class) l.text ≡ l.place + prefix_len (passes l.class) (drop l.place l.text)
