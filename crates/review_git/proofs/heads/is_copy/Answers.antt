use Rattle.std.proofs.Common.{sym, ◌∙◌, codes}
use Rattle.std.proofs.lemmas.Str.Pattern.{starts_text, contains_text}
use Rattle.review_git.proofs.HeadLaws.{line_behind}
use Rattle.review_git.proofs.heads.is_copy.Goals as goal

pub returns-else-starts_with : goal.returns-else-starts_with
returns-else-starts_with c =
    line_behind c.contains.result (codes "copy from ") c.args.lines.now (sym (starts_text c.starts_with.result (codes "copy from ") c.args.lines.now c.starts_with.ensures.cases) ∙ c.if-starts_with.false) (contains_text c.contains.result (codes "\ncopy from ") c.args.lines.now c.contains.ensures.cases)
