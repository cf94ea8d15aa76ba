use Rattle.std.proofs.Common.{rules}
use Rattle.yaml_spell.specs.Stops.{fault_of}
use Rattle.yaml_spell.proofs.PieceLaws.{on_ok, if_err}
use Rattle.yaml_spell.proofs.QuotedLaws.{all_taken}
use Rattle.yaml_spell.specs.Pages.{PageHolds, PageStops}
use Rattle.yaml_spell.proofs.SpelledLaws.{spelled_first, spelled_next, spelled_missed, spelled_unopened, spelled_last, spelled_unclosed}
use Rattle.yaml_spell.proofs.page.Page.add_pieces.Goals as goal

pub returns-in_err-add-clause-err : goal.returns-in_err-add-clause-err
returns-in_err-add-clause-err g c =
    let m = spelled_unopened (PageHolds g.W.Write.contents) (PageStops g.W.Write.contents) c.args.self.now c.args.out.now c.add.new.out (fault_of c.in_err-add.field-0.0) c.args.content.now c.in_err-add.ensures.err in
    search (rules, m)

pub spell-init : goal.spell-init
spell-init g c = (spelled_first (PageHolds g.W.Write.contents) c.args.self.now c.add.new.self c.args.out.now c.add.new.out c.args.content.now c.in_ok-add.ensures.ok, c.utf8.content)

pub spell-preserved : goal.spell-preserved
spell-preserved g c =
    (spelled_next (PageHolds g.W.Write.contents) c.args.self.now c.spell.self c.add_piece.new.self c.args.out.now c.spell.out c.add_piece.new.out c.args.content.now c.spell.rest.now _ _ c.spell.invariant.0 c.cut-piece.ensures.spelled c.in_ok-add_piece.ensures.ok, c.cut-piece.ensures.utf8)

pub returns-in_err-add_piece-clause-err : goal.returns-in_err-add_piece-clause-err
returns-in_err-add_piece-clause-err g c =
    let m = spelled_missed (PageHolds g.W.Write.contents) (PageStops g.W.Write.contents) c.args.self.now c.spell.self c.args.out.now c.spell.out c.add_piece.new.out (fault_of c.in_err-add_piece.field-0.0) c.args.content.now c.spell.rest.now _ _ c.spell.invariant.0 c.cut-piece.ensures.spelled c.in_err-add_piece.ensures.err in
    search (rules, m)

pub returns-clause-ok : goal.returns-clause-ok
returns-clause-ok g c =
    on_ok c.add-2.result c.add-2.ensures.ok (λ h. spelled_last (PageHolds g.W.Write.contents) c.args.self.now c.spell.self c.add-2.new.self c.args.out.now c.spell.out c.add-2.new.out c.args.content.now _ c.spell.invariant.0 (all_taken _ _ c.is_empty.ensures c.spell-test.false) h)

pub returns-clause-err : goal.returns-clause-err
returns-clause-err g c =
    if_err c.add-2.result c.add-2.ensures.err (λ stop h. spelled_unclosed (PageHolds g.W.Write.contents) (PageStops g.W.Write.contents) c.args.self.now c.spell.self c.args.out.now c.spell.out c.add-2.new.out (fault_of stop) c.args.content.now _ c.spell.invariant.0 (all_taken _ _ c.is_empty.ensures c.spell-test.false) h)
