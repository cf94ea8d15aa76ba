use Rattle.std.proofs.Common.{◌++◌}
use Rattle.review_faults.specs.Heads.{head}
use Rattle.review_faults.proofs.NoJsonLaws.{begins_at}
use Rattle.review_faults.proofs.no_json.put_first.Goals as goal

pub returns : goal.returns
returns c = record {
  ok = (
      let told = c.in_ok-put_lacking.ensures.ok in
      (head c.args.name.now c.placed-place.result ++ told.0, told.1, begins_at c.args.name.now c.args.text.now c.placed-place.result told.0 c.placed-place.ensures));
}
