use Rattle.std.proofs.Common.{◌+◌, ◌∙◌, ap, rules}
use Rattle.yaml_spell.specs.SinkViews.{len_of}
use Rattle.yaml_spell.proofs.QuotedLaws.{all_taken, measured_first, measured_next, measured_last, quotes_past}
use Rattle.yaml_spell.proofs.length.Length.grow_pieces.Goals as goal

pub returns-in_err-grow-clause-err : goal.returns-in_err-grow-clause-err
returns-in_err-grow-clause-err c =
    let e = c.in_err-grow.ensures.err in
    let m = quotes_past _ _ c.args.content.now e.1 in
    let k = e.0 in
    search (rules, m, k)

pub measure-init : goal.measure-init
measure-init c = (c.grow.ensures.limit, measured_first _ _ c.args.content.now c.in_ok-grow.ensures.ok, c.utf8.content)

pub measure-preserved : goal.measure-preserved
measure-preserved c = (
  c.grow-in-measure.ensures.limit ∙ c.measure.invariant.0,
  measured_next _ (len_of c.measure.self) (len_of c.grow-in-measure.new.self) c.args.content.now c.measure.rest.now _ _ c.measure.invariant.1 c.cut-piece.ensures.spelled (c.in_ok-grow-2.ensures.ok ∙ ap (λ n. len_of c.measure.self + n) c.len.ensures),
  c.cut-piece.ensures.utf8,
)

pub returns-clause-ok : goal.returns-clause-ok
returns-clause-ok c = measured_last _ _ c.args.content.now c.measure.rest.now c.measure.invariant.1 (all_taken _ _ c.is_empty.ensures c.measure-test.false)
