use Rattle.std.proofs.Common.{◌≡◌, true, ◌++◌, inr, codes, string_bytes, sym, ◌∙◌, ap, subst, arith}
use Rattle.std.specs.Fmt.{decimal}
use Rattle.std.specs.List.{list_all}
use Rattle.review_hints.specs.Hinted.{is_printed, IsHint}
use Rattle.review_hints.specs.Hints.{cause_of, IsTrue}
use Rattle.review_hints.proofs.HintLaws.{line_of_plain, line_line, opened_line, indent_plain, name_printed}
use Rattle.review_hints.proofs.hints.Hint.words.Goals as goal

pub returns-in_ok-to_string-in-Text-clause-line : goal.returns-in_ok-to_string-in-Text-clause-line
returns-in_ok-to_string-in-Text-clause-line c =
    rw c.in_ok-to_string-in-Text.ensures.ok (line_of_plain c.in-Text.words.now (subst (IsTrue c.args.text.now c.requires.0) c.in-Text.is c.requires.1))

pub returns-in_ok-format-in-Line-clause-line : goal.returns-in_ok-format-in-Line-clause-line
returns-in_ok-format-in-Line-clause-line c =
    line_line _ c.in-Line.words.now c.place_in.result.line c.in_ok-format-in-Line.ensures.ok (subst (IsTrue c.args.text.now c.requires.0) c.in-Line.is c.requires.1).1

pub returns-in_ok-format-in-Opened-clause-line : goal.returns-in_ok-format-in-Opened-clause-line
returns-in_ok-format-in-Opened-clause-line c =
    let named = subst (λ z. list_all is_printed z ≡ true) (sym c.name_of-name.ensures) (name_printed c.in-Opened.opened.mark) in
    opened_line _ c.name_of-name.result.now c.in-Opened.words.now c.place_in-line.result.line c.place_in-line.result.column c.in_ok-format-in-Opened.ensures.ok named (subst (IsTrue c.args.text.now c.requires.0) c.in-Opened.is c.requires.1).1

pub returns-in_ok-format-in-Opened-clause-hint : goal.returns-in_ok-format-in-Opened-clause-hint
returns-in_ok-format-in-Opened-clause-hint c at within good =
    let o = (subst (IsTrue c.args.text.now at) c.in-Opened.is good).0 in
    let place = c.place_in-line.result in
    subst (λ z. IsHint c.args.text.now at (cause_of z) (string_bytes c.in_ok-format-in-Opened.field-0)) (sym c.in-Opened.is) (inr (record {
      mark = c.in-Opened.opened.mark;
      row = place.line;
      column = place.column;
      before = o.before;
      stands = o.stands;
      opens = o.opens;
      placed = c.place_in-line.ensures (omega (arith, o.before, within));
      more = c.in-Opened.words.now;
      is = c.in_ok-format-in-Opened.ensures.ok ∙ ap (λ z. codes "the " ++ (z ++ (codes " opened at line " ++ (decimal place.line ++ (codes ", column " ++ (decimal place.column ++ (codes " " ++ c.in-Opened.words.now))))))) c.name_of-name.ensures;
    }))

pub returns-in_ok-format-in-Indent-clause-line : goal.returns-in_ok-format-in-Indent-clause-line
returns-in_ok-format-in-Indent-clause-line c =
    line_of_plain (string_bytes c.in_ok-format-in-Indent.field-0) (indent_plain _ c.in-Indent.what.now c.in-Indent.count (subst (IsTrue c.args.text.now c.requires.0) c.in-Indent.is c.requires.1) c.in_ok-format-in-Indent.ensures.ok)

pub returns-in_ok-format-in-Indent-clause-hint : goal.returns-in_ok-format-in-Indent-clause-hint
returns-in_ok-format-in-Indent-clause-hint c at within good =
    subst (λ z. IsHint c.args.text.now at (cause_of z) (string_bytes c.in_ok-format-in-Indent.field-0)) (sym c.in-Indent.is)
    (indent_plain _ c.in-Indent.what.now c.in-Indent.count (subst (IsTrue c.args.text.now at) c.in-Indent.is good) c.in_ok-format-in-Indent.ensures.ok)
