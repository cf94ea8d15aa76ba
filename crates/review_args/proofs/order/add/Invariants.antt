use Rattle.std.proofs.Common.{◌≡◌, ◌++◌, map, take, string_bytes}
use Rattle.review_args.proofs.order.add.Given as goal

abbrev pub invariant-loop-word : goal.invariant-loop-word
invariant-loop-word l = map string_bytes l.list.items ≡ map string_bytes l.fn.list.items ++ map string_bytes (take l.word-index l.words)
