use Rattle.std.proofs.Common.{◌≡◌, ◌∙◌, List, [], ◌∷◌, ap, map, codes}
use Rattle.std.proofs.lemmas.Result.{IfOk-weaker}
use Rattle.clap.specs.Words.{Rule}
use Rattle.review_args.specs.Grammar.{arg_with_global, choices_of, files, flag, format, own}
use Rattle.review_args.proofs.grammar.show.Goals as goal

pub returns-clause-app : goal.returns-clause-app
returns-clause-app c =
    let rules : List Rule = files ∷ flag (codes "check") ∷ format (choices_of c.args.choices.now) ∷ flag (codes "keep-order") ∷ flag (codes "sharing") ∷ flag (codes "strict") ∷ flag (codes "textconv") ∷ [] in
    let are : map arg_with_global c.in_ok-args.args.items ≡ map own rules = ap (map arg_with_global) c.in_ok-args.ensures.items ∙ (λ i. (c.files.ensures.rule i, c.files.ensures.local i) ∷ (c.flag.ensures.rule i, c.flag.ensures.local i) ∷ (c.format.ensures.rule i, c.format.ensures.local i) ∷ (c.flag-2.ensures.rule i, c.flag-2.ensures.local i) ∷ (c.flag-3.ensures.rule i, c.flag-3.ensures.local i) ∷ (c.flag-4.ensures.rule i, c.flag-4.ensures.local i) ∷ (c.flag-5.ensures.rule i, c.flag-5.ensures.local i) ∷ []) in
    IfOk-weaker c.command.result _ _ (λ r h. h rules are) c.command.ensures.app

pub returns-clause-local : goal.returns-clause-local
returns-clause-local c =
    let rules : List Rule = files ∷ flag (codes "check") ∷ format (choices_of c.args.choices.now) ∷ flag (codes "keep-order") ∷ flag (codes "sharing") ∷ flag (codes "strict") ∷ flag (codes "textconv") ∷ [] in
    let are : map arg_with_global c.in_ok-args.args.items ≡ map own rules = ap (map arg_with_global) c.in_ok-args.ensures.items ∙ (λ i. (c.files.ensures.rule i, c.files.ensures.local i) ∷ (c.flag.ensures.rule i, c.flag.ensures.local i) ∷ (c.format.ensures.rule i, c.format.ensures.local i) ∷ (c.flag-2.ensures.rule i, c.flag-2.ensures.local i) ∷ (c.flag-3.ensures.rule i, c.flag-3.ensures.local i) ∷ (c.flag-4.ensures.rule i, c.flag-4.ensures.local i) ∷ (c.flag-5.ensures.rule i, c.flag-5.ensures.local i) ∷ []) in
    IfOk-weaker c.command.result _ _ (λ r h. h rules are) c.command.ensures.local
