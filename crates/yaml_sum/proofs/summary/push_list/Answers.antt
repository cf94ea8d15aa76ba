use Rattle.std.proofs.Common.{◌≡◌, ◌++◌, ◌∙◌, ap, subst}
use Rattle.std.specs.Prelude.{codes, OnOk}
use Rattle.yaml_sum.specs.Lines.{name_text}
use Rattle.yaml_sum.proofs.SummaryLaws.{three_pushed}
use Rattle.yaml_sum.proofs.summary.push_list.Goals as goal

pub returns : goal.returns
returns c = record {
  ok = (
      three_pushed c.args.line.now.items (codes "yamlreview: ") (name_text c.args.list.now) c.args.what.now c.push.new.line.items c.push_name.new.line.items c.push-2.new.line.items c.push-2.result c.in_ok-push.ensures.ok
      (c.in_ok-push_name.ensures.ok ∙ ap (λ z. c.push.new.line.items ++ name_text z) c.as_bytes.ensures.value) (subst (λ z. OnOk c.push-2.result (c.push-2.new.line.items ≡ c.push_name.new.line.items ++ z)) c.as_bytes-2.ensures.value c.push-2.ensures.ok));
}
