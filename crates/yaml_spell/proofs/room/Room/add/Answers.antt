use Rattle.std.proofs.Common.{arith}
use Rattle.yaml_spell.proofs.RoomLaws.{takes_filled}
use Rattle.yaml_spell.proofs.room.Room.add.Goals as goal

pub returns-clause-ok : goal.returns-clause-ok
returns-clause-ok c =
    let room = c.if-piece-self.false in
    let within = c.args.self.now.within in
    takes_filled c.args.self.now c.fill.new.self c.args.piece.now (omega (arith, room, within)) c.fill.ensures.len c.fill.ensures.bytes c.fill.ensures.name
