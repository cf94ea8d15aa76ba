use Rattle.std.proofs.Common.{option_map, string_bytes}
use Rattle.review_git.proofs.ShownLaws.{shown_lines}
use Rattle.review_git.proofs.git_show.put_shown_lines.Goals as goal

pub returns-clause-ok : goal.returns-clause-ok
returns-clause-ok c = shown_lines c.args.left.0.now c.args.right.0.now c.args.left.1.now c.args.right.1.now _ _ _ _ (option_map string_bytes c.in_ok-old.old) (option_map string_bytes c.in_ok-new.new) c.in_ok-old.ensures.ok c.in_ok-new.ensures.ok c.in_ok-put_both.ensures.ok
