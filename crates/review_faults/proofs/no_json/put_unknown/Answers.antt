use Rattle.std.proofs.Common.{◌++◌, codes, string_bytes, ◌∙◌, ap, append_assoc}
use Rattle.std.specs.Prelude.{None}
use Rattle.review_faults.specs.Heads.{head}
use Rattle.review_faults.proofs.NoJsonLaws.{tells_none}
use Rattle.review_faults.proofs.no_json.put_unknown.Goals as goal

pub returns : goal.returns
returns c = record {
  ok = (
      let out = string_bytes c.args.out.now in
      let words = codes "JSON cannot express this file\n" in
      tells_none c.args.name.now c.args.text.now out (string_bytes c.push_str.new.self)
      (c.in_ok-push_str.ensures.bytes ∙ ap (λ z. z ++ words) c.in_ok-put_head.ensures.ok ∙ append_assoc out (head c.args.name.now None) words));
}
