use Rattle.std.proofs.Common.{◌+◌, ◌≤◌, length, map, drop}
use Rattle.yaml_definitions.specs.model.Limits.{text_limit}
use Rattle.yaml_show.specs.JsonText.{line_stream}
use Rattle.std.specs.String.{string_bytes}
use Rattle.yaml_spell.specs.RankedNodes.{tree_of}
use Rattle.yaml_show.proofs.JsonLaws.{LinesAt}
use Rattle.yaml_show.proofs.json.json_lines.Given as goal

abbrev pub invariant-loop-root : goal.invariant-loop-root
invariant-loop-root g l =
    (text_limit + length (line_stream (map (tree_of g.V.RankedNodes.tree g.V.RankedNodes.number l.view) (drop l.root-index l.roots))) ≤ l.left + length (line_stream (map (tree_of g.V.RankedNodes.tree g.V.RankedNodes.number l.view) l.roots)))
    × LinesAt string_bytes (tree_of g.V.RankedNodes.tree g.V.RankedNodes.number l.view) l.roots l.root-index l.lines.items
