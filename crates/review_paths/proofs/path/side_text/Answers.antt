use Rattle.review_paths.proofs.PasteLaws.{side_fits, side_unfit}
use Rattle.review_paths.proofs.path.side_text.Goals as goal

pub returns-then-fit : goal.returns-then-fit
returns-then-fit c = record {
  ok = (
      let g = c.args.forests.now in
      side_fits g c.args.is_filter c.args.numbered c.args.is_left c.args.path.now c.kept-steps.result.now _ (c.kept-steps.ensures g) c.in_ok-fit.ensures.ok _ _ _ c.if-fit.true c.new-text.ensures.bytes c.in_ok-put_steps.ensures.ok c.in_ok-told.ensures.ok);
}

pub returns : goal.returns
returns c = record {
  ok = (
      let g = c.args.forests.now in
      side_unfit g c.args.is_filter c.args.numbered c.args.is_left c.args.path.now c.kept-steps.result.now _ (c.kept-steps.ensures g) c.in_ok-fit.ensures.ok _ c.if-fit.false c.in_ok-told-2.ensures.ok);
}
