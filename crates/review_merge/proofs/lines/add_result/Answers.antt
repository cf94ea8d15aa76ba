use Rattle.std.proofs.Common.{map}
use Rattle.review_merge.specs.Placed.{HasSeats}
use Rattle.review_merge.proofs.LineLaws.{result_put, result_none}
use Rattle.review_merge.proofs.lines.add_result.Goals as goal

pub returns-in_ok-push-in-Some : goal.returns-in_ok-push-in-Some
returns-in_ok-push-in-Some c =
    result_put (HasSeats c.args.forests.now (map (λ path. path.items) c.args.paths.now)) c.args.roots.now c.args.bytes c.in-Some.bytes c.in_ok-one-in-Some.one c.args.seats.now.items _ c.in-Some.is c.in_ok-one-in-Some.ensures c.in_ok-push-in-Some.ensures.items

pub returns-in-None : goal.returns-in-None
returns-in-None c = result_none (HasSeats c.args.forests.now (map (λ path. path.items) c.args.paths.now)) c.args.roots.now c.args.bytes c.args.seats.now.items c.in-None.is
