use Rattle.std.proofs.Common.{◌≡◌, true, [], subst}
use Rattle.yaml_diff.specs.Found.{moves_of}
use Rattle.yaml_diff.specs.declared.difference.Found.{Found}
use Rattle.review_lines.specs.Searched.{FindsStreams}
use Rattle.review_lines.proofs.ListLaws.{if_ok, if_both}
use Rattle.review_lines.proofs.search.searched.Goals as goal

pub returns : goal.returns
returns c = record {
  ok = (
      let g = c.args.forests.now in
      let Calm : Found → Type 0 = λ f. moves_of f ≡ [] in
      if_ok c.list_of.result (λ x h. record { finds = subst (λ room. FindsStreams g room x) c.search_room-room.ensures h.0; calm = h.1 })
      (if_both (FindsStreams g c.search_room-room.result) Calm (c.args.asked.now.by_position ≡ true) c.list_of.result c.list_of.ensures.ok c.list_of.ensures.calm));
}
