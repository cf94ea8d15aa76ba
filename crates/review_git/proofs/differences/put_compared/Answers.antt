use Rattle.std.proofs.Common.{◌++◌, string_bytes, refl, ◌∙◌, ap}
use Rattle.review_git.proofs.FileLaws.{compared}
use Rattle.review_git.proofs.differences.put_compared.Goals as goal

pub returns-in_ok-push_str-in-Ok-clause-ok : goal.returns-in_ok-push_str-in-Ok-clause-ok
returns-in_ok-push_str-in-Ok-clause-ok c = (
  string_bytes c.in-Ok.told.text,
  c.in_ok-push_str-in-Ok.ensures.bytes ∙ ap (λ z. string_bytes c.args.out.now ++ z) c.deref.ensures,
  compared c.args.color c.args.left c.args.right c.args.first.now c.args.second.now _ c.lines_of-asked.result c.in-Ok.told.same c.lines_of-asked.ensures (c.in-Ok.ensures.same refl) c.in-Ok.ensures.lines,
)
