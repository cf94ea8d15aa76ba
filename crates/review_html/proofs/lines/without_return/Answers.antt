use Rattle.std.proofs.Common.{sym, ◌∙◌, ap, lit<}
use Rattle.std.specs.Prelude.{Some, None}
use Rattle.std.proofs.lemmas.Str.Pattern.{strip_suffix_char}
use Rattle.review_formats.specs.Changes.{without_last}
use Rattle.review_formats.proofs.ChangeLaws.{end_off, end_kept}
use Rattle.review_html.proofs.lines.without_return.Goals as goal

pub returns-in-Some : goal.returns-in-Some
returns-in-Some c = sym (ap (without_last 13) (strip_suffix_char 13 c.args.line.now (Some c.in-Some.front) c.in-Some.ensures.cases (lit< tt)) ∙ end_off 13 c.in-Some.front.now)

pub returns-in-None : goal.returns-in-None
returns-in-None c = sym (end_kept 13 c.args.line.now (strip_suffix_char 13 c.args.line.now None c.in-None.ensures.cases (lit< tt)))
