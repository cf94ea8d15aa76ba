use Rattle.std.proofs.Common.{rules}
use Rattle.yaml_spell.specs.Stops.{fault_of}
use Rattle.yaml_spell.specs.Rooms.{Holds, Stops}
use Rattle.yaml_spell.proofs.PieceLaws.{on_ok, if_err}
use Rattle.yaml_spell.proofs.QuotedLaws.{all_taken}
use Rattle.yaml_spell.proofs.SpelledLaws.{spelled_first, spelled_next, spelled_missed, spelled_unopened, spelled_last, spelled_unclosed}
use Rattle.yaml_spell.proofs.room.Room.add_pieces.Goals as goal

pub returns-in_err-add-clause-err : goal.returns-in_err-add-clause-err
returns-in_err-add-clause-err c =
    let m = spelled_unopened Holds Stops c.args.self.now tt tt (fault_of c.in_err-add.field-0.0) c.args.content.now c.in_err-add.ensures.err in
    search (rules, m)

pub spell-init : goal.spell-init
spell-init c = (spelled_first Holds c.args.self.now c.add.new.self tt tt c.args.content.now c.in_ok-add.ensures.ok, c.utf8.content)

pub spell-preserved : goal.spell-preserved
spell-preserved c =
    (spelled_next Holds c.args.self.now c.spell.self c.add_piece.new.self tt tt tt c.args.content.now c.spell.rest.now _ _ c.spell.invariant.0 c.cut-piece.ensures.spelled c.in_ok-add_piece.ensures.ok, c.cut-piece.ensures.utf8)

pub returns-in_err-add_piece-clause-err : goal.returns-in_err-add_piece-clause-err
returns-in_err-add_piece-clause-err c =
    let m = spelled_missed Holds Stops c.args.self.now c.spell.self tt tt tt (fault_of c.in_err-add_piece.field-0.0) c.args.content.now c.spell.rest.now _ _ c.spell.invariant.0 c.cut-piece.ensures.spelled c.in_err-add_piece.ensures.err in
    search (rules, m)

pub returns-clause-ok : goal.returns-clause-ok
returns-clause-ok c =
    on_ok c.add-2.result c.add-2.ensures.ok (λ h. spelled_last Holds c.args.self.now c.spell.self c.add-2.new.self tt tt tt c.args.content.now _ c.spell.invariant.0 (all_taken _ _ c.is_empty.ensures c.spell-test.false) h)

pub returns-clause-err : goal.returns-clause-err
returns-clause-err c =
    if_err c.add-2.result c.add-2.ensures.err (λ stop h. spelled_unclosed Holds Stops c.args.self.now c.spell.self tt tt tt (fault_of stop) c.args.content.now _ c.spell.invariant.0 (all_taken _ _ c.is_empty.ensures c.spell-test.false) h)
