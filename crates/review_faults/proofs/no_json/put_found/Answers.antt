use Rattle.std.proofs.Common.{string_bytes}
use Rattle.review_faults.proofs.NoJsonLaws.{tells_some}
use Rattle.review_faults.proofs.no_json.put_found.Goals as goal

pub returns : goal.returns
returns c = record {
  ok = (
      let told = c.in_ok-put_first.ensures.ok in
      tells_some c.args.name.now c.args.text.now (string_bytes c.args.out.now) (string_bytes c.put_first.new.out) (string_bytes c.put_others.new.out) (string_bytes c.put_more.new.out) told.0 c.args.whole told.1 told.2 c.in_ok-put_others.ensures.ok c.in_ok-put_more.ensures.ok);
}
