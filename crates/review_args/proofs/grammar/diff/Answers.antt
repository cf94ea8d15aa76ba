use Rattle.std.proofs.Common.{◌≡◌, ◌∙◌, List, [], ◌∷◌, ap, map, codes, true}
use Rattle.std.proofs.lemmas.Result.{IfOk-weaker}
use Rattle.clap.specs.Words.{Rule}
use Rattle.review_args.specs.Grammar.{arg_with_global, choices_of, color, file, flag, form, letter, number, repeated, spelling, unified, own}
use Rattle.review_args.proofs.grammar.diff.Goals as goal

pub returns-clause-app : goal.returns-clause-app
returns-clause-app c =
    let rules : List Rule = file (codes "A") true ∷ file (codes "B") true ∷ flag (codes "no-places") ∷ flag (codes "whole") ∷ number (codes "lines") 1000000 ∷ unified ∷ letter (codes "quiet") 113 ∷ flag (codes "stat") ∷ flag (codes "by-position") ∷ repeated (codes "by") ∷ flag (codes "no-fold") ∷ color (choices_of c.args.choices.now) ∷ repeated (codes "ignore") ∷ repeated (codes "include") ∷ spelling (choices_of c.args.choices.now) ∷ form (choices_of c.args.choices.now) ∷ [] in
    let are : map arg_with_global c.in_ok-args.args.items ≡ map own rules = ap (map arg_with_global) c.in_ok-args.ensures.items ∙ (λ i. (c.file.ensures.rule i, c.file.ensures.local i) ∷ (c.file-2.ensures.rule i, c.file-2.ensures.local i) ∷ (c.no_places.ensures.rule i, c.no_places.ensures.local i) ∷ (c.whole.ensures.rule i, c.whole.ensures.local i) ∷ (c.most.ensures.rule i, c.most.ensures.local i) ∷ (c.unified.ensures.rule i, c.unified.ensures.local i) ∷ (c.quiet.ensures.rule i, c.quiet.ensures.local i) ∷ (c.stat.ensures.rule i, c.stat.ensures.local i) ∷ (c.by_position.ensures.rule i, c.by_position.ensures.local i) ∷ (c.by.ensures.rule i, c.by.ensures.local i) ∷ (c.no_fold.ensures.rule i, c.no_fold.ensures.local i) ∷ (c.color.ensures.rule i, c.color.ensures.local i) ∷ (c.ignore.ensures.rule i, c.ignore.ensures.local i) ∷ (c.include.ensures.rule i, c.include.ensures.local i) ∷ (c.spelling.ensures.rule i, c.spelling.ensures.local i) ∷ (c.form.ensures.rule i, c.form.ensures.local i) ∷ []) in
    IfOk-weaker c.command.result _ _ (λ r h. h rules are) c.command.ensures.app

pub returns-clause-local : goal.returns-clause-local
returns-clause-local c =
    let rules : List Rule = file (codes "A") true ∷ file (codes "B") true ∷ flag (codes "no-places") ∷ flag (codes "whole") ∷ number (codes "lines") 1000000 ∷ unified ∷ letter (codes "quiet") 113 ∷ flag (codes "stat") ∷ flag (codes "by-position") ∷ repeated (codes "by") ∷ flag (codes "no-fold") ∷ color (choices_of c.args.choices.now) ∷ repeated (codes "ignore") ∷ repeated (codes "include") ∷ spelling (choices_of c.args.choices.now) ∷ form (choices_of c.args.choices.now) ∷ [] in
    let are : map arg_with_global c.in_ok-args.args.items ≡ map own rules = ap (map arg_with_global) c.in_ok-args.ensures.items ∙ (λ i. (c.file.ensures.rule i, c.file.ensures.local i) ∷ (c.file-2.ensures.rule i, c.file-2.ensures.local i) ∷ (c.no_places.ensures.rule i, c.no_places.ensures.local i) ∷ (c.whole.ensures.rule i, c.whole.ensures.local i) ∷ (c.most.ensures.rule i, c.most.ensures.local i) ∷ (c.unified.ensures.rule i, c.unified.ensures.local i) ∷ (c.quiet.ensures.rule i, c.quiet.ensures.local i) ∷ (c.stat.ensures.rule i, c.stat.ensures.local i) ∷ (c.by_position.ensures.rule i, c.by_position.ensures.local i) ∷ (c.by.ensures.rule i, c.by.ensures.local i) ∷ (c.no_fold.ensures.rule i, c.no_fold.ensures.local i) ∷ (c.color.ensures.rule i, c.color.ensures.local i) ∷ (c.ignore.ensures.rule i, c.ignore.ensures.local i) ∷ (c.include.ensures.rule i, c.include.ensures.local i) ∷ (c.spelling.ensures.rule i, c.spelling.ensures.local i) ∷ (c.form.ensures.rule i, c.form.ensures.local i) ∷ []) in
    IfOk-weaker c.command.result _ _ (λ r h. h rules are) c.command.ensures.local
