use Rattle.std.proofs.Common.{◌<◌, ◌∙◌, length, map, ap, sym, arith, rules}
use Rattle.std.proofs.lemmas.Bool.{true≢false}
use Rattle.review_patterns.proofs.PatternLaws.{stuck, only-more, read-more, not-empty, now-append}
use Rattle.review_patterns.proofs.read.read_steps.Goals as goal

pub returns-in_default-clause-none : goal.returns-in_default-clause-none
returns-in_default-clause-none c =
    let some : 0 < length c.steps.rest.now = grind arith in
    stuck c.args.text.now c.steps.rest.now (not-empty c.steps.rest.now some) c.steps.invariant.only (λ step more k a t. true≢false (sym (c.in_default.ensures.whole step more k a t).0))

pub steps-preserved : goal.steps-preserved
steps-preserved c =
    let some : 0 < length c.steps.rest.now = grind arith in
    record {
      read = read-more c.args.document.now c.args.text.now (map (λ step. step.now) c.steps.steps.items) (map (λ step. step.now) c.push-in-steps.new.self.items) c.steps.rest.now c.in-Some.step.now c.in-Some.more.now c.steps.invariant.read
          (ap (map (λ step. step.now)) c.in_ok-push-2.ensures.items ∙ now-append c.steps.steps.items c.in-Some.step) c.in-Some.ensures.step c.in-Some.ensures.split;
      only = only-more c.args.text.now c.steps.rest.now c.in-Some.more.now (not-empty c.steps.rest.now some) c.steps.invariant.only (λ step next k a t. (c.in-Some.ensures.whole step next k a t).1);
      utf8 = search rules;
    }
