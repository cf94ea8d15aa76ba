use Rattle.std.proofs.Common.{◌≡◌, map, drop}
use Rattle.yaml_spell.specs.NamesView.{ranks_in}
use Rattle.yaml_spell.specs.RankedNodes.{tree_of}
use Rattle.yaml_show.specs.Sharing.{sharing_shown}
use Rattle.yaml_show.proofs.DraftLaws.{Left}
use Rattle.yaml_show.proofs.sharing.put_documents.Given as goal

abbrev pub invariant-loop-root : goal.invariant-loop-root
invariant-loop-root g l =
    record {
      long : ranks_in l.names ≡ ranks_in l.initial.names;
      left : Left l.initial.draft l.draft
          (sharing_shown (map (tree_of g.V.RankedNodes.tree g.V.RankedNodes.number l.view) (drop l.root-index l.roots)))
          (sharing_shown (map (tree_of g.V.RankedNodes.tree g.V.RankedNodes.number l.view) l.roots));
    }
