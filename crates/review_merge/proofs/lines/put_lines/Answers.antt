use Rattle.std.proofs.Common.{◌+◌, ◌∙◌, [], ap, sym, subst, drop, get_or, arith}
use Rattle.std.specs.Prelude.{unwrap_or}
use Rattle.std.specs.List.{slice_get, enumerate_from}
use Rattle.std.specs.String.{string_bytes}
use Rattle.review_merge.specs.Parts.{budget}
use Rattle.review_merge.specs.Lines.{IsStyled, steps_of}
use Rattle.review_merge.proofs.LineLaws.{lines_start, lines_step, lines_done, enum_next, enum_end, steps_at}
use Rattle.review_merge.proofs.lines.put_lines.Goals as goal

pub list-init : goal.list-init
list-init c = lines_start (IsStyled c.args.forests.now c.args.style.now) (enumerate_from 0 c.args.list.now) budget c.new-budget.result.bytes (string_bytes c.args.out.now) c.new-budget.ensures

pub put_conflict-requires : goal.put_conflict-requires
put_conflict-requires c =
    let list = c.args.list.now in
    let at = c.list.number in
    let one = c.index-list-number.result in
    record { steps = c.path_at-steps.ensures ∙ ap (λ z. unwrap_or (slice_get z at) []) c.requires.paths ∙ steps_at list at one (omega (arith, c.list-test.true)) ∙ ap steps_of (sym c.index-list-number.is) }

pub list-preserved : goal.list-preserved
list-preserved c =
    let list = c.args.list.now in
    let at = c.list.number in
    let one = c.index-list-number.result in
    let styled = IsStyled c.args.forests.now c.args.style.now in
    let w = c.in_ok-put_conflict.ensures.ok in
    lines_step styled (enumerate_from 0 list) budget (string_bytes c.args.out.now) (enumerate_from at (drop at list)) (enumerate_from (at + 1) (drop (at + 1) list)) (at, get_or list at one) c.list.budget.bytes c.put_conflict.new.budget.bytes w.0 (string_bytes c.list.out)
    (string_bytes c.put_conflict.new.out) (enum_next list at one (omega (arith, c.list-test.true))) c.list.invariant (subst (λ z. styled (at, z) c.list.budget.bytes c.put_conflict.new.budget.bytes w.0) c.index-list-number.is w.1) w.2

pub returns : goal.returns
returns c = record {
  ok = (
      let list = c.args.list.now in
      lines_done (IsStyled c.args.forests.now c.args.style.now) (enumerate_from 0 list) budget (string_bytes c.args.out.now) (enumerate_from c.list.number (drop c.list.number list)) c.list.budget.bytes (string_bytes c.list.out) (enum_end list c.list.number (omega (arith, c.list-test.false))) c.list.invariant);
}
