use Rattle.std.proofs.Common.{rules, refl}
use Rattle.review_reports.proofs.parts.parts_found.Goals as goal

pub returns : goal.returns
returns c = record {
  ok = (record {
    command = search rules;
    named = (c.in_ok-to_string.ensures.ok, c.in_ok-to_string-2.ensures.ok);
    parted = refl;
  });
}
