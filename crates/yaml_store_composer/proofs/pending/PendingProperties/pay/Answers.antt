use Rattle.std.proofs.Common.{reverse, sym, ◌∙◌, ◌++◌, subst}
use Rattle.yaml_sink.specs.PropertyRules.{props_of}
use Rattle.yaml_store_composer.specs.PendingModel.{TellsOf}
use Rattle.yaml_store_composer.proofs.DueLaws.{tells-paid-open}
use Rattle.yaml_store_composer.proofs.pending.PendingProperties.pay.Goals as goal

pub returns-in-Some : goal.returns-in-Some
returns-in-Some c =
    let self = c.args.self.now in
    record {
      is = λ log es s t. c.in_ok-paid.ensures.is log es s (subst (λ z. TellsOf self.judged z (reverse self.opens.items) self.early (log ++ es)) (sym c.replace.ensures.value ∙ c.in-Some.is) t);
    }

pub returns : goal.returns
returns c =
    let self = c.args.self.now in
    record {
      is = λ log es s t.
          tells-paid-open self.judged self.ended c.replace.new.dest self.opens.items c.pop.new.self.items c.push.new.self.items c.in-Some-pop.begun c.in_ok-paid-2.paid self.early c.args.start (props_of c.args.properties.now) log es (sym c.replace.ensures.value ∙ c.in_default.is) c.replace.ensures.after c.in-Some-pop.ensures.items
          c.in_ok-push.ensures.items c.in_ok-paid-2.ensures s t;
    }
