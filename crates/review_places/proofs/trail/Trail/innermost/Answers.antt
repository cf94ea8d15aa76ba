use Rattle.std.proofs.Common.{rules, tests}
use Rattle.std.proofs.lemmas.Iterator.Adapters.{YieldsList-from_rev_slice}
use Rattle.std.proofs.lemmas.Iterator.Search.{find_from_yields_List}
use Rattle.review_places.specs.Trails.{has_part, open_frames}
use Rattle.review_places.proofs.trail.Trail.innermost.Goals as goal

pub returns : goal.returns
returns c = find_from_yields_List has_part _ _ _ c.find.ensures.ran (YieldsList-from_rev_slice (open_frames c.args.self.now) cc) (λ x b q k. search (rules, tests))
