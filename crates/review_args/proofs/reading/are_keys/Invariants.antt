use Rattle.std.proofs.Common.{◌≡◌, drop}
use Rattle.std.specs.List.{list_all}
use Rattle.clap.specs.Walk.{texts}
use Rattle.review_args.specs.Words.{has_bytes}
use Rattle.review_args.proofs.reading.are_keys.Given as goal

abbrev pub invariant-loop-text : goal.invariant-loop-text
invariant-loop-text l = list_all has_bytes (texts (drop l.text-index l.list)) ≡ list_all has_bytes (texts l.list)
