use Rattle.std.proofs.Common.{◌≡◌, ◌==◌, ◌&&◌, not, cond, length, ◌∙◌, ap, subst, arith}
use Rattle.std.proofs.lemmas.Bool.{ne_eqb}
use Rattle.review_faults.specs.Warned.{ListsWarnings}
use Rattle.review_reports.specs.Reports.{room_for}
use Rattle.review_reports.specs.Pages.{AreFoundWarnings}
use Rattle.review_reports.proofs.WarningLaws.{none_listed, some_listed}
use Rattle.review_reports.proofs.pages.warned_list.Goals as goal

pub returns-then-warn-eq0-clause-ok : goal.returns-then-warn-eq0-clause-ok
returns-then-warn-eq0-clause-ok c =
    let w = c.args.warn.now in
    let bytes = c.args.bytes.now in
    let warnings = c.in_ok-warnings.warnings in
    let count : c.len.result ≡ length warnings.list.items = omega (arith, c.len.ensures, warnings.list.ok.0) in
    let status = c.warned_status-status.ensures ∙ ap (λ n. cond (w.is_strict && not (n == 0)) 1 0) count in
    let listed = subst (λ z. ListsWarnings bytes z (room_for w.lines) warnings) c.deref.ensures.value (subst (λ n. ListsWarnings bytes c.deref.result.now n warnings) c.room_of.ensures c.in_ok-warnings.ensures.ok) in
    none_listed w c.args.name.now bytes warnings _ listed status _ (ap (λ n. n == 0) c.if-warn-eq0.true) c.new.ensures.items

pub returns-clause-ok : goal.returns-clause-ok
returns-clause-ok c =
    let w = c.args.warn.now in
    let bytes = c.args.bytes.now in
    let warnings = c.in_ok-warnings.warnings in
    let count : c.len.result ≡ length warnings.list.items = omega (arith, c.len.ensures, warnings.list.ok.0) in
    let status = c.warned_status-status.ensures ∙ ap (λ n. cond (w.is_strict && not (n == 0)) 1 0) count in
    let listed = subst (λ z. ListsWarnings bytes z (room_for w.lines) warnings) c.deref.ensures.value (subst (λ n. ListsWarnings bytes c.deref.result.now n warnings) c.room_of.ensures c.in_ok-warnings.ensures.ok) in
    some_listed w c.args.name.now bytes warnings _ listed status _ (ne_eqb w.lines 0 c.if-warn-eq0.false) (subst (λ z. AreFoundWarnings c.args.name.now z c.in_ok-warnings_found.field-0.items) c.deref-2.ensures.value c.in_ok-warnings_found.ensures.ok)
