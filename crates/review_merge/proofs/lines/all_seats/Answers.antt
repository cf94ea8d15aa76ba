use Rattle.std.proofs.Common.{map}
use Rattle.std.specs.Option.{option_map}
use Rattle.review_merge.specs.Placed.{HasSeats}
use Rattle.review_merge.specs.Lines.{result_side}
use Rattle.review_merge.proofs.LineLaws.{each_put}
use Rattle.review_merge.proofs.lines.all_seats.Goals as goal

pub returns : goal.returns
returns c =
    let w = c.in_ok-add_result.ensures in
    each_put (HasSeats c.args.forests.now (map (λ path. path.items) c.args.paths.now)) _ _ _ (result_side c.args.roots.now.merge.now (option_map (λ it. it.now) c.args.sources.result)) c.in_ok-base.base c.in_ok-ours.ours c.in_ok-theirs.theirs w.0 _ _ _ _ _
    c.in_ok-base.ensures c.in_ok-ours.ensures c.in_ok-theirs.ensures w.1 c.new-seats.ensures.items c.in_ok-push.ensures.items c.in_ok-push-2.ensures.items c.in_ok-push-3.ensures.items w.2
