use Rattle.std.proofs.Common.{◌≡◌, ◌++◌, drop, map}
use Rattle.std.specs.List.{flat_map}
use Rattle.serde_json.specs.View.{view}
use Rattle.review_formats.specs.Sarif.{part_results}
use Rattle.review_formats.proofs.sarif.results_of.Given as goal

abbrev pub invariant-parts : goal.invariant-parts
invariant-parts l = map view l.results.items ++ flat_map part_results (drop l.part-index l.parts) ≡ flat_map part_results l.parts
