use Rattle.std.proofs.Common.{◌≡◌, drop}
use Rattle.yaml_spell.specs.RankedNodes.{pairs_of}
use Rattle.yaml_show.specs.Sharing.{all_have_room}
use Rattle.yaml_show.proofs.sharing_keys.all_have_room.Given as goal

abbrev pub invariant-loop-entry : goal.invariant-loop-entry
invariant-loop-entry g l =
    all_have_room (pairs_of g.V.RankedNodes.tree g.V.RankedNodes.number l.view (drop l.entry-index l.entries)) ≡ all_have_room (pairs_of g.V.RankedNodes.tree g.V.RankedNodes.number l.view l.entries)
