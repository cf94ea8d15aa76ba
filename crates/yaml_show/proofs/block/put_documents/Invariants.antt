use Rattle.std.proofs.Common.{◌≡◌, ◌++◌, map, drop}
use Rattle.yaml_spell.specs.RankedNodes.{tree_of}
use Rattle.yaml_show_scalar.specs.Stops.{limit_of}
use Rattle.yaml_show_scalar.specs.Texts.{written}
use Rattle.yaml_show.specs.Layout.{shown_text}
use Rattle.yaml_show.proofs.block.put_documents.Given as goal

abbrev pub invariant-loop-root : goal.invariant-loop-root
invariant-loop-root g l =
    (limit_of l.out ≡ limit_of l.initial.out)
    × (written l.out ++ shown_text (map (tree_of g.V.RankedNodes.tree g.V.RankedNodes.number l.view) (drop l.root-index l.roots))
    ≡ written l.initial.out ++ shown_text (map (tree_of g.V.RankedNodes.tree g.V.RankedNodes.number l.view) l.roots))
