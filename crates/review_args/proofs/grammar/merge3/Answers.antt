use Rattle.std.proofs.Common.{◌≡◌, ◌∙◌, List, [], ◌∷◌, ap, map, codes, true, false}
use Rattle.std.proofs.lemmas.Result.{IfOk-weaker}
use Rattle.clap.specs.Words.{Rule}
use Rattle.review_args.specs.Grammar.{arg_with_global, choices_of, color, file, flag, letter, lines, own}
use Rattle.review_args.proofs.grammar.merge3.Goals as goal

pub returns-clause-app : goal.returns-clause-app
returns-clause-app c =
    let rules : List Rule = file (codes "BASE") true ∷ file (codes "OURS") true ∷ file (codes "THEIRS") true ∷ file (codes "RESULT") false ∷ flag (codes "no-places") ∷ flag (codes "whole") ∷ lines ∷ letter (codes "quiet") 113 ∷ color (choices_of c.args.choices.now) ∷ [] in
    let are : map arg_with_global c.in_ok-args.args.items ≡ map own rules = ap (map arg_with_global) c.in_ok-args.ensures.items ∙ (λ i. (c.file.ensures.rule i, c.file.ensures.local i) ∷ (c.file-2.ensures.rule i, c.file-2.ensures.local i) ∷ (c.file-3.ensures.rule i, c.file-3.ensures.local i) ∷ (c.file-4.ensures.rule i, c.file-4.ensures.local i) ∷ (c.no_places.ensures.rule i, c.no_places.ensures.local i) ∷ (c.whole.ensures.rule i, c.whole.ensures.local i) ∷ (c.lines.ensures.rule i, c.lines.ensures.local i) ∷ (c.quiet.ensures.rule i, c.quiet.ensures.local i) ∷ (c.color.ensures.rule i, c.color.ensures.local i) ∷ []) in
    IfOk-weaker c.command.result _ _ (λ r h. h rules are) c.command.ensures.app

pub returns-clause-local : goal.returns-clause-local
returns-clause-local c =
    let rules : List Rule = file (codes "BASE") true ∷ file (codes "OURS") true ∷ file (codes "THEIRS") true ∷ file (codes "RESULT") false ∷ flag (codes "no-places") ∷ flag (codes "whole") ∷ lines ∷ letter (codes "quiet") 113 ∷ color (choices_of c.args.choices.now) ∷ [] in
    let are : map arg_with_global c.in_ok-args.args.items ≡ map own rules = ap (map arg_with_global) c.in_ok-args.ensures.items ∙ (λ i. (c.file.ensures.rule i, c.file.ensures.local i) ∷ (c.file-2.ensures.rule i, c.file-2.ensures.local i) ∷ (c.file-3.ensures.rule i, c.file-3.ensures.local i) ∷ (c.file-4.ensures.rule i, c.file-4.ensures.local i) ∷ (c.no_places.ensures.rule i, c.no_places.ensures.local i) ∷ (c.whole.ensures.rule i, c.whole.ensures.local i) ∷ (c.lines.ensures.rule i, c.lines.ensures.local i) ∷ (c.quiet.ensures.rule i, c.quiet.ensures.local i) ∷ (c.color.ensures.rule i, c.color.ensures.local i) ∷ []) in
    IfOk-weaker c.command.result _ _ (λ r h. h rules are) c.command.ensures.local
