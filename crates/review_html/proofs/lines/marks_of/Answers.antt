use Rattle.std.proofs.Common.{◌+◌, sym, subst, arith}
use Rattle.std.proofs.lemmas.List.{with_items_is}
use Rattle.review_html.specs.Marks.{SetsMark}
use Rattle.review_html.proofs.MarkLaws.{GoOn, marks-start, marks-step, marks-done}
use Rattle.review_html.proofs.lines.marks_of.Goals as goal

pub findings-init : goal.findings-init
findings-init c = marks-start c.args.side c.args.before c.args.list.now c.args.lines c.in_ok-marks.marks.items (c.in_ok-marks.ensures.items_if_clones_equal (λ y p. p))

pub findings-preserved : goal.findings-preserved
findings-preserved c =
    let marks = c.findings.marks in
    let new = c.set_mark.new.marks in
    let number = c.saturating_add-number.result in
    let set = subst (λ z. SetsMark marks.items z number new) c.place_on.ensures (subst (λ z. SetsMark z c.place_on.result number new) c.deref_mut.ensures.value c.set_mark.ensures) in
    subst (GoOn c.args.side c.args.before c.args.list.now c.args.lines (c.findings.at + 1)) (sym (with_items_is marks new (omega (arith, set.0, marks.ok.0))))
    (marks-step c.args.side c.args.before c.args.list.now c.args.lines c.findings.at number marks.items new c.index-list-at.result (omega (arith, c.findings-test.true)) c.index-list-at.is c.findings.invariant
    (omega (arith, c.saturating_add-number.ensures, c.saturating_add.ensures)) set)

pub returns : goal.returns
returns c = record { ok = (marks-done c.args.side c.args.before c.args.list.now c.args.lines c.findings.at c.findings.marks.items c.findings-test.false c.findings.invariant) }
