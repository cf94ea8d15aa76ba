use Rattle.std.proofs.Common.{◌≡◌, map, drop}
use Rattle.yaml_spell.specs.NamesView.{ranks_in}
use Rattle.yaml_spell.specs.Documents.{arranged_more}
use Rattle.yaml_spell.specs.RankedNodes.{tree_of}
use Rattle.yaml_spell.proofs.PieceLaws.{Left}
use Rattle.yaml_spell.proofs.spell.write_ranked.Given as goal

abbrev pub invariant-loop-root : goal.invariant-loop-root
invariant-loop-root g l =
    record {
      long : ranks_in l.names ≡ ranks_in l.fn.names;
      left : Left g.S.Sink.holds l.fn.sink l.fn.out l.sink l.out (arranged_more (map (tree_of g.V.RankedNodes.tree g.V.RankedNodes.number l.view) (drop l.root-index l.roots)))
          (arranged_more (map (tree_of g.V.RankedNodes.tree g.V.RankedNodes.number l.view) l.roots));
    }
