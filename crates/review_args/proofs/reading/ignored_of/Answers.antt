use Rattle.std.proofs.Common.{◌∙◌, List, [], ap, inr, subst, subst₂, sym, take}
use Rattle.std.proofs.lemmas.List.{take_all}
use Rattle.std.specs.List.{Any}
use Rattle.clap.specs.Walk.{texts}
use Rattle.clap.specs.Words.{Text}
use Rattle.review_patterns.specs.declared.pattern.Pattern.{Pattern}
use Rattle.review_args.specs.Words.{ArePatterns, HasNoPattern}
use Rattle.review_args.proofs.Getters.{are_more, of_some, of_none, any_text}
use Rattle.review_args.proofs.Loops.{take_next}
use Rattle.review_args.proofs.reading.ignored_of.Goals as goal

pub loop-text-init : goal.loop-text-init
loop-text-init c = subst (λ (ps : List Pattern). ArePatterns [] ps) (sym c.new-list.ensures.items) tt

pub loop-text-preserved : goal.loop-text-preserved
loop-text-preserved c =
    let items = c.deref-text-items.result.now in
    let i = c.loop-text.text-index in
    subst₂ ArePatterns (sym (take_next (λ s. s.now) items i _ c.loop-text-test.true)) (sym c.in_ok-push-in-Some.ensures.items)
    (are_more (texts (take i items)) c.loop-text.list.items _ c.in-Some.pattern c.loop-text.invariant (of_some _ c.in_ok-pattern.field-0 c.in-Some.pattern c.in-Some.is c.in_ok-pattern.ensures.some))

pub returns-clause-ok : goal.returns-clause-ok
returns-clause-ok c =
    let items = c.deref-text-items.result.now in
    subst (λ (all : List Text). ArePatterns all c.loop-text.list.items)
    (ap texts (take_all c.loop-text.text-index items c.loop-text-test.false) ∙ ap texts c.deref-text-items.ensures.value ∙ c.in_ok-texts.ensures)
    c.loop-text.invariant

pub returns-in-None-clause-err : goal.returns-in-None-clause-err
returns-in-None-clause-err c =
    let items = c.deref-text-items.result.now in
    let none = of_none _ c.in_ok-pattern.field-0 c.in-None.is c.in_ok-pattern.ensures.none in
    inr (c.in_ok-no_pattern-in-None.ensures, subst (Any HasNoPattern) (ap texts c.deref-text-items.ensures.value ∙ c.in_ok-texts.ensures) (any_text HasNoPattern items c.loop-text.text-index _ c.loop-text-test.true none))
