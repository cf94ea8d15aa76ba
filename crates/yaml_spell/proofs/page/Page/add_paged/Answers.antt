use Rattle.std.proofs.Common.{rules, arith}
use Rattle.yaml_spell.specs.Stops.{fault_of}
use Rattle.yaml_spell.proofs.PageLaws.{adds_piece, misses_piece, same_slice}
use Rattle.yaml_spell.proofs.page.Page.add_paged.Goals as goal

pub returns-in_err-make_room-clause-err : goal.returns-in_err-make_room-clause-err
returns-in_err-make_room-clause-err g c =
    let m = misses_piece g.W.Write.contents c.args.self.now c.add.self c.args.out.now c.add.out c.make_room.new.out (fault_of c.in_err-make_room.field-0.0) c.args.piece.now c.add.at c.add.invariant.0 c.in_err-make_room.ensures.err in
    search (rules, m)

pub add-preserved : goal.add-preserved
add-preserved g c = (
  adds_piece g.W.Write.contents c.args.self.now c.add.self c.make_room.new.self c.fill.new.self c.args.out.now c.add.out c.make_room.new.out c.args.piece.now _ c.add.at c.min-took.result c.add.invariant.0 c.in_ok-make_room.ensures.ok (same_slice c.args.piece.now c.add.at c.min-took.result) c.fill.ensures,
  omega arith,
)
