use Rattle.std.proofs.Common.{rules, ◌≡◌, reverse, refl, ◌∷◌, [], ◌++◌, ◌∙◌, ap, subst}
use Rattle.std.specs.Prelude.{Some}
use Rattle.yaml_tree_builder.specs.TagModel.{kind_in}
use Rattle.yaml_sink.specs.Held.{Puts}
use Rattle.yaml_tree_builder.specs.BuilderModel.{end_of}
use Rattle.yaml_tree_builder.specs.JudgedModel.{Judges}
use Rattle.yaml_store_composer.specs.PendingModel.{TellsOf}
use Rattle.yaml_store_composer.proofs.PendingLaws.{ended}
use Rattle.yaml_store_composer.proofs.DueLaws.{tells-ended, tells-held}
use Rattle.yaml_store_composer.proofs.pending.PendingProperties.end.Goals as goal

pub returns-in-Some-above : goal.returns-in-Some-above
returns-in-Some-above c =
    let mid = c.go_on.new.self in
    let left = c.pop.new.self.items in
    let b = c.in-Some.begun in
    let above = c.in-Some-above.above in
    let less = c.saturating_sub-self.result in
    let same : above.kind ≡ c.kind_of-kind.result = search rules in
    record {
      is = λ log t.
          subst (λ e. TellsOf mid.judged (Some b) (reverse left) less (log ++ (e ∷ []))) (ap end_of (same ∙ c.kind_of-kind.ensures) ∙ ended c.args.collection)
          (tells-held mid.judged mid.ended (Some b) mid.opens.items left b above mid.early less c.in_ok-go_on.ensures.none c.in-Some.ensures.items refl c.in-Some-above.is c.saturating_sub-self.ensures log (c.in_ok-go_on.ensures.tells log t));
    }

pub returns : goal.returns
returns c =
    let mid = c.go_on.new.self in
    let new = c.end-2.new.self in
    let k = kind_in c.args.collection in
    let left = c.pop.new.self.items in
    let b = c.in-Some.begun in
    record {
      is = λ log t.
          subst (λ e. TellsOf new (Some b) (reverse left) mid.early (log ++ (e ∷ []))) (ended c.args.collection)
          (tells-ended mid.judged new mid.ended (Some b) mid.opens.items left b k mid.early c.in_ok-go_on.ensures.none c.in-Some.ensures.items refl c.in_default-above.is (subst (λ z. Puts Judges mid.judged (end_of z ∷ []) new) c.kind_of-kind.ensures c.in_ok-end-2.ensures) log (c.in_ok-go_on.ensures.tells log t));
    }
