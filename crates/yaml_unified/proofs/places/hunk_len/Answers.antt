use Rattle.std.proofs.Common.{arith, refl, sym, ◌∙◌, ap, subst}
use Rattle.std.specs.List.{list_any}
use Rattle.yaml_unified.specs.Script.{is_change}
use Rattle.yaml_unified.specs.Unified.{IsFirstChange}
use Rattle.yaml_unified.proofs.FramedLaws.{reaches_first, reaches_next, ends_hunk}
use Rattle.yaml_unified.proofs.places.hunk_len.Goals as goal

pub changes-init : goal.changes-init
changes-init c = reaches_first c.args.edits.now c.args.context c.args.first c.requires.front c.requires.first

pub changes-preserved : goal.changes-preserved
changes-preserved c =
    let next = subst (λ z. IsFirstChange z c.in-Some.next) c.window.ensures c.in-Some.ensures.some in
    reaches_next c.args.edits.now c.args.context c.args.first c.changes.end c.in-Some.next c.changes.invariant next

pub returns-clause-ends : goal.returns-clause-ends
returns-clause-ends c =
    let none = ap (list_any is_change) (sym c.window.ensures) ∙ c.in_default.ensures.none refl in
    ends_hunk c.args.edits.now c.args.context c.args.first c.changes.end c.min.result c.changes.invariant none (omega arith)
