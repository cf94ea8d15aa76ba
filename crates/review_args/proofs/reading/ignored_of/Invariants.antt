use Rattle.std.proofs.Common.{take}
use Rattle.clap.specs.Walk.{texts}
use Rattle.review_args.specs.Words.{ArePatterns}
use Rattle.review_args.proofs.reading.ignored_of.Given as goal

abbrev pub invariant-loop-text : goal.invariant-loop-text
invariant-loop-text l = ArePatterns (texts (take l.text-index l.text-items)) l.list.items
