use Rattle.std.proofs.Common.{refl, ◌∷◌, sym, ◌∙◌, ◌++◌, reverse, subst}
use Rattle.std.specs.Prelude.{None}
use Rattle.yaml_definitions.specs.model.Event.{mapping_start, untagged}
use Rattle.yaml_store.specs.declared.nodes.Collection.TheVariants as kinds
use Rattle.yaml_store_composer.specs.PendingModel.{TellsOf}
use Rattle.yaml_store_composer.specs.declared.pending.Begun.{Begun}
use Rattle.yaml_store_composer.proofs.DueLaws.{tells-before, tells-key}
use Rattle.yaml_store_composer.proofs.pending.PendingProperties.precede.Goals as goal

pub returns-in_default-above : goal.returns-in_default-above
returns-in_default-above c =
    let self = c.args.self.now in
    let flow = c.args.flow in
    let d : Begun = record { at = c.args.start; due = c.due_before_key-due.result; above = None } in
    record {
      is = λ log es s t.
          let t = subst (λ z. TellsOf self.judged z (reverse self.opens.items) self.early (log ++ es)) (sym c.replace.ensures.value ∙ c.in-Some.is) t in
          tells-before self.judged c.precede.new.self c.replace.new.dest self.opens.items c.push.new.self.items c.in-Some.begun d self.early c.args.start c.in_ok-number.number (mapping_start flow None untagged) kinds.Mapping flow None untagged log es c.replace.ensures.after c.in_ok-push.ensures.items c.in_ok-number.ensures (sym c.if-start-at.false) c.in-None.is c.in_default-above.is refl refl c.due_before_key-due.ensures refl
          (λ front fs n p f. c.in_ok-precede.ensures front fs n p f flow) s t;
    }

pub returns : goal.returns
returns c =
    let self = c.args.self.now in
    record {
      is = λ log es s t.
          let t = subst (λ z. TellsOf self.judged z (reverse self.opens.items) self.early (log ++ es)) (sym c.replace.ensures.value ∙ c.in-Some.is) t in
          subst (λ b. TellsOf c.end.new.self c.replace.new.dest (reverse c.push-2.new.self.items) self.early (log ++ (mapping_start b None untagged ∷ es))) (sym c.if-flow.false)
          (tells-key self.judged c.settle_key.new.self c.end.new.self c.replace.new.dest self.opens.items c.push-2.new.self.items c.in-Some.begun c.in-Some-above.above self.early c.args.start c.in_ok-number.number log es c.replace.ensures.after c.in-Some-above.is c.in-None.is (sym c.if-start-at.false) c.in_ok-number.ensures c.in_ok-settle_key.ensures c.in_ok-end.ensures c.in_ok-push-2.ensures.items s t);
    }
