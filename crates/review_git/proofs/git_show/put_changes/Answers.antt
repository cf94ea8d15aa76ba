use Rattle.std.proofs.Common.{sym, ◌∙◌, subst, string_bytes}
use Rattle.yaml_unified.specs.Script.{IsScript}
use Rattle.review_git.proofs.ShownLaws.{changed_lines}
use Rattle.review_git.proofs.git_show.put_changes.Goals as goal

pub returns : goal.returns
returns c = record { ok = (changed_lines c.args.names.0.now c.args.names.1.now c.args.old.now c.args.new.now (string_bytes c.args.out.now) _ _ c.deref.result.now (sym c.eq.ensures ∙ c.if-eq.false) c.in_ok-put_sides.ensures.ok (subst (IsScript c.args.old.now c.args.new.now) (sym c.deref.ensures.value) c.in_ok-edits.ensures.ok) c.in_ok-put_unified.ensures.hunks) }
