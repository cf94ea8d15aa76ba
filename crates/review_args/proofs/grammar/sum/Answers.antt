use Rattle.std.proofs.Common.{◌≡◌, ◌∙◌, List, [], ◌∷◌, ap, map, codes}
use Rattle.std.proofs.lemmas.Result.{IfOk-weaker}
use Rattle.clap.specs.Words.{Rule}
use Rattle.review_args.specs.Grammar.{arg_with_global, files, flag, list, own}
use Rattle.review_args.proofs.grammar.sum.Goals as goal

pub returns-clause-app : goal.returns-clause-app
returns-clause-app c =
    let rules : List Rule = files ∷ list (codes "files-from") ∷ list (codes "check") ∷ flag (codes "ignore-missing") ∷ flag (codes "quiet") ∷ flag (codes "status") ∷ flag (codes "strict") ∷ [] in
    let are : map arg_with_global c.in_ok-args.args.items ≡ map own rules = ap (map arg_with_global) c.in_ok-args.ensures.items ∙ (λ i. (c.files.ensures.rule i, c.files.ensures.local i) ∷ (c.list.ensures.rule i, c.list.ensures.local i) ∷ (c.list-2.ensures.rule i, c.list-2.ensures.local i) ∷ (c.flag.ensures.rule i, c.flag.ensures.local i) ∷ (c.flag-2.ensures.rule i, c.flag-2.ensures.local i) ∷ (c.flag-3.ensures.rule i, c.flag-3.ensures.local i) ∷ (c.flag-4.ensures.rule i, c.flag-4.ensures.local i) ∷ []) in
    IfOk-weaker c.command.result _ _ (λ r h. h rules are) c.command.ensures.app

pub returns-clause-local : goal.returns-clause-local
returns-clause-local c =
    let rules : List Rule = files ∷ list (codes "files-from") ∷ list (codes "check") ∷ flag (codes "ignore-missing") ∷ flag (codes "quiet") ∷ flag (codes "status") ∷ flag (codes "strict") ∷ [] in
    let are : map arg_with_global c.in_ok-args.args.items ≡ map own rules = ap (map arg_with_global) c.in_ok-args.ensures.items ∙ (λ i. (c.files.ensures.rule i, c.files.ensures.local i) ∷ (c.list.ensures.rule i, c.list.ensures.local i) ∷ (c.list-2.ensures.rule i, c.list-2.ensures.local i) ∷ (c.flag.ensures.rule i, c.flag.ensures.local i) ∷ (c.flag-2.ensures.rule i, c.flag-2.ensures.local i) ∷ (c.flag-3.ensures.rule i, c.flag-3.ensures.local i) ∷ (c.flag-4.ensures.rule i, c.flag-4.ensures.local i) ∷ []) in
    IfOk-weaker c.command.result _ _ (λ r h. h rules are) c.command.ensures.local
