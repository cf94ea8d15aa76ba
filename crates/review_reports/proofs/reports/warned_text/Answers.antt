use Rattle.std.proofs.Common.{◌≡◌, ◌==◌, ◌&&◌, ◌++◌, not, cond, length, ◌∙◌, ap, subst, arith}
use Rattle.std.proofs.lemmas.Bool.{ne_eqb}
use Rattle.review_faults.specs.Warned.{ListsWarnings, warnings_text}
use Rattle.review_reports.specs.Reports.{room_for}
use Rattle.review_reports.proofs.WarningLaws.{no_lines, some_lines}
use Rattle.review_reports.proofs.reports.warned_text.Goals as goal

pub returns-then-warn-eq0-clause-ok : goal.returns-then-warn-eq0-clause-ok
returns-then-warn-eq0-clause-ok c =
    let w = c.args.warn.now in
    let bytes = c.args.bytes.now in
    let warnings = c.in_ok-warnings.warnings in
    let count : c.len.result ≡ length warnings.list.items = omega (arith, c.len.ensures, warnings.list.ok.0) in
    let status = c.warned_status-status.ensures ∙ ap (λ n. cond (w.is_strict && not (n == 0)) 1 0) count in
    let listed = subst (λ z. ListsWarnings bytes z (room_for w.lines) warnings) c.deref.ensures.value (subst (λ n. ListsWarnings bytes c.deref.result.now n warnings) c.room_of.ensures c.in_ok-warnings.ensures.ok) in
    no_lines w c.args.name.now bytes warnings _ listed status c.args.form _ (ap (λ n. n == 0) c.if-warn-eq0.true) c.new-text.ensures.bytes

pub returns-clause-ok : goal.returns-clause-ok
returns-clause-ok c =
    let w = c.args.warn.now in
    let bytes = c.args.bytes.now in
    let warnings = c.in_ok-warnings.warnings in
    let count : c.len.result ≡ length warnings.list.items = omega (arith, c.len.ensures, warnings.list.ok.0) in
    let status = c.warned_status-status.ensures ∙ ap (λ n. cond (w.is_strict && not (n == 0)) 1 0) count in
    let listed = subst (λ z. ListsWarnings bytes z (room_for w.lines) warnings) c.deref.ensures.value (subst (λ n. ListsWarnings bytes c.deref.result.now n warnings) c.room_of.ensures c.in_ok-warnings.ensures.ok) in
    some_lines w c.args.name.now bytes warnings _ listed status c.args.form _ (ne_eqb w.lines 0 c.if-warn-eq0.false)
    (c.in_ok-put_warnings.ensures.ok ∙ ap (λ z. z ++ warnings_text c.args.form c.args.name.now warnings.list.items warnings.whole) c.new-text.ensures.bytes)
