use Rattle.review_merge.proofs.PartLaws.{part_put}
use Rattle.review_merge.proofs.texts.part_of.Goals as goal

pub returns : goal.returns
returns c = record {
  ok = (
      let text = c.args.text.now in
      let start = c.part_start-start.result in
      part_put text c.args.place start _ _ _ _ _ c.part_start-start.ensures.is c.new-part.ensures.bytes c.dots.ensures c.in_ok-push_str.ensures.bytes c.range_from-rest.ensures.value c.in_ok-put_front.ensures.ok);
}
