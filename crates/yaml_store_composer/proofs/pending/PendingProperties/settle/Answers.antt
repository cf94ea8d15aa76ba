use Rattle.std.proofs.Common.{reverse, refl}
use Rattle.yaml_text.proofs.Tests.{on_true_at}
use Rattle.yaml_sink.specs.PropertyRules.{props_of}
use Rattle.yaml_store_composer.proofs.DueLaws.{tells-paid, tells-alone}
use Rattle.yaml_store_composer.proofs.pending.PendingProperties.settle.Goals as goal

pub returns-then-has_due : goal.returns-then-has_due
returns-then-has_due c =
    let self = c.args.self.now in
    record {
      early = refl;
      opens = refl;
      ended = refl;
      is = λ log es s t. tells-paid self.judged (reverse self.opens.items) c.args.begun c.in_ok-paid.paid self.early c.args.start (props_of c.args.properties.now) log es c.in_ok-paid.ensures s t;
    }

pub returns : goal.returns
returns c =
    let self = c.args.self.now in
    record {
      early = refl;
      opens = refl;
      ended = refl;
      is = λ log es s t.
          tells-alone self.judged c.settle_alone.new.self c.end.new.self (reverse self.opens.items) c.args.begun c.in-Some-above.above c.in-Some.own self.early c.args.start c.in_ok-number.number (props_of c.args.properties.now) log es c.in-Some-above.is c.in-Some.is (on_true_at c.is_at.result c.if-not-is_at.false c.is_at.ensures) c.in_ok-number.ensures (on_true_at c.are_both.result c.if-not-are_both.false c.are_both.ensures.anchor) (on_true_at c.are_both.result c.if-not-are_both.false c.are_both.ensures.tag) c.in_ok-settle_alone.ensures
          c.in_ok-end.ensures s t;
    }
