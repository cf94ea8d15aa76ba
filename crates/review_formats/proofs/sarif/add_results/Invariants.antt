use Rattle.std.proofs.Common.{◌≡◌, ◌++◌, drop, map}
use Rattle.serde_json.specs.View.{view}
use Rattle.review_formats.specs.Sarif.{result_data}
use Rattle.review_formats.proofs.sarif.add_results.Given as goal

abbrev pub invariant-findings : goal.invariant-findings
invariant-findings l = map view l.results.items ++ map result_data (drop l.finding-index l.part.list.items) ≡ map view l.fn.results.items ++ map result_data l.part.list.items
