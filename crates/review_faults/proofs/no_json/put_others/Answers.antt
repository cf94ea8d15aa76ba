use Rattle.std.proofs.Common.{◌≤◌, length, string_bytes, arith}
use Rattle.review_faults.proofs.NoJsonLaws.{pieces_more}
use Rattle.review_faults.proofs.no_json.put_others.Goals as goal

pub others-preserved : goal.others-preserved
others-preserved c =
    let told = c.in_ok-put_lacking.ensures.ok in
    let within : c.min-to.result ≤ length c.args.text.now = omega (arith, c.min-to.ensures) in
    record {
      adds = pieces_more c.args.name.now c.args.text.now (string_bytes c.args.out.now) (string_bytes c.others.out) (string_bytes c.put_lacking.new.out) told.0 c.go_on-place.result c.min-to.result c.others.invariant.adds within c.go_on-place.ensures told.1;
      here = c.go_on-place.ensures;
      within = within;
    }
