use Rattle.std.proofs.Common.{sym, ◌∙◌, ap, lit<}
use Rattle.std.specs.Prelude.{Some, None}
use Rattle.std.proofs.lemmas.Str.Pattern.{strip_suffix_char}
use Rattle.review_formats.specs.Changes.{without_end}
use Rattle.review_formats.proofs.ChangeLaws.{end_off, end_kept}
use Rattle.review_formats.proofs.changes.without_end.Goals as goal

pub returns-in-Some : goal.returns-in-Some
returns-in-Some c = sym (ap without_end (strip_suffix_char 10 c.args.text.now (Some c.in-Some.front) c.in-Some.ensures.cases (lit< tt)) ∙ end_off 10 c.in-Some.front.now)

pub returns-in-None : goal.returns-in-None
returns-in-None c = sym (end_kept 10 c.args.text.now (strip_suffix_char 10 c.args.text.now None c.in-None.ensures.cases (lit< tt)))
