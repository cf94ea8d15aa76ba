use Rattle.std.proofs.Common.{◌++◌, sym, ◌∙◌, ap}
use Rattle.std.specs.Prelude.{bytes_eq}
use Rattle.review_faults.proofs.LabelLaws.{same_behind}
use Rattle.review_faults.proofs.label.Label.is_word.Goals as goal

pub returns-in-Some : goal.returns-in-Some
returns-in-Some c =
    let mark = c.args.self.mark.now in
    let text = c.args.self.text.now in
    let found = c.in-Some.ensures.cases in
    c.eq.ensures ∙ sym (same_behind mark c.in-Some.rest.now text) ∙ ap (λ z. bytes_eq (mark ++ z) (mark ++ text)) found.2 ∙ ap (λ z. bytes_eq z (mark ++ text)) (sym found.1.1)
