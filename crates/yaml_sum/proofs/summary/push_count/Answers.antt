use Rattle.std.proofs.Common.{◌≡◌, ◌++◌, ◌==◌, ◌∙◌, [], ◌∷◌, ap}
use Rattle.std.specs.Prelude.{codes}
use Rattle.std.proofs.lemmas.Bool.{ne_eqb}
use Rattle.std.specs.Fmt.{decimal}
use Rattle.yaml_sum.proofs.SummaryLaws.{four_pushed}
use Rattle.yaml_sum.proofs.summary.push_count.Goals as goal

pub returns : goal.returns
returns c = record {
  ok = (
      four_pushed (c.args.count == 0) c.args.line.now.items (codes "yamlreview: ") c.args.what.now (decimal c.args.count) (codes "\n") c.push.new.line.items c.push-2.new.line.items c.push-3.new.line.items c.push-4.new.line.items c.push-4.result (ne_eqb c.args.count 0 c.if-count-eq0.false) c.in_ok-push.ensures.ok
      (c.in_ok-push-2.ensures.ok ∙ ap (λ z. c.push.new.line.items ++ z) c.as_bytes.ensures.value) (c.in_ok-push-3.ensures.ok ∙ ap (λ z. c.push-2.new.line.items ++ z) (c.as_bytes-2.ensures.value ∙ c.format.ensures.text)) c.push-4.ensures.ok);
}
