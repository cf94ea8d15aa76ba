use Rattle.std.proofs.Common.{◌≡◌, ◌++◌, string_bytes, sym, ap, ◌∙◌, subst, arith}
use Rattle.review_files.specs.Told.{TellsBoth, no_memory, side_name}
use Rattle.review_text.proofs.Pieces.{then_more}
use Rattle.review_files.proofs.ToldLaws.{a_line_more}
use Rattle.review_files.proofs.rejected.put_not_compared.Goals.{in-Left, in-Right}
use Rattle.review_files.proofs.rejected.put_not_compared.Goals as goal

pub returns-clause-ok : goal.returns-clause-ok
returns-clause-ok c =
    let both = c.in_ok-status.ensures.ok in
    let line = no_memory c.match-side.name.now in
    let none : c.in_ok-status.status ≡ 0 = omega (arith, c.if-status-ne-DONE.false) in
    let named : c.match-side.name.now ≡ side_name c.args.side c.args.left c.args.right =
    elim c.match-side.branch [
      | in-Left w ↦ ap (λ z. z.now) w.name-is ∙ ap (λ z. side_name z c.args.left c.args.right) (sym w.in-Left.is)
      | in-Right w ↦ ap (λ z. z.now) w.name-is ∙ ap (λ z. side_name z c.args.left c.args.right) (sym w.in-Right.is)
    ] in
    let o = string_bytes c.args.out.now in
    let middle = string_bytes c.put_rejections.new.out in
    let end = string_bytes c.put_fault_line.new.out in
    let told = a_line_more c.args.form c.args.left c.args.right c.args.side both.0 c.match-side.name.now (subst (λ s. TellsBoth c.args.form c.args.left c.args.right both.0 s) none both.2) named in
    (both.0 ++ line, then_more o middle end both.0 line both.1 c.in_ok-put_fault_line.ensures.ok, told)
