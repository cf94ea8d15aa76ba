use Rattle.std.proofs.Common.{◌≡◌, drop}
use Rattle.std.specs.List.{list_all}
use Rattle.clap.specs.Walk.{texts}
use Rattle.review_patterns.specs.Globs.{is_glob}
use Rattle.review_args.proofs.reading.are_globs.Given as goal

abbrev pub invariant-loop-text : goal.invariant-loop-text
invariant-loop-text l = list_all is_glob (texts (drop l.text-index l.list)) ≡ list_all is_glob (texts l.list)
