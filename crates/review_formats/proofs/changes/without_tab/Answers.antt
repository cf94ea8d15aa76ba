use Rattle.std.proofs.Common.{sym, lit<}
use Rattle.std.specs.Prelude.{Some, None}
use Rattle.std.proofs.lemmas.Str.Pattern.{strip_prefix_char}
use Rattle.review_formats.proofs.ChangeLaws.{tab_off, tab_kept}
use Rattle.review_formats.proofs.changes.without_tab.Goals as goal

pub returns-in-Some : goal.returns-in-Some
returns-in-Some c = sym (tab_off c.args.line.now c.in-Some.rest.now (strip_prefix_char 9 c.args.line.now (Some c.in-Some.rest) c.in-Some.ensures.cases (lit< tt)))

pub returns-in-None : goal.returns-in-None
returns-in-None c = sym (tab_kept c.args.line.now (strip_prefix_char 9 c.args.line.now None c.in-None.ensures.cases (lit< tt)))
