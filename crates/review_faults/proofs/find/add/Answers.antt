use Rattle.std.proofs.Common.{◌<◌, ◌≤◌, false, length, refl, arith}
use Rattle.review_faults.proofs.WarnLaws.{keeps_more, keeps_full}
use Rattle.review_faults.proofs.find.add.Goals as goal

pub returns-in_ok-push : goal.returns-in_ok-push
returns-in_ok-push c = record {
  ok = (λ all k.
      let less : length c.args.found.now.list.items < c.args.room = omega (arith, c.len.ensures, c.if-len-room.true) in
      keeps_more c.args.room all c.args.warning c.args.found.now (record { list = c.push.new.self; whole = c.args.found.now.whole }) k less c.in_ok-push.ensures.items refl);
}

pub returns-else-len-room : goal.returns-else-len-room
returns-else-len-room c = record {
  ok = (λ all k.
      let more : c.args.room ≤ length c.args.found.now.list.items = omega (arith, c.len.ensures, c.if-len-room.false) in
      keeps_full c.args.room all c.args.warning c.args.found.now (record { list = c.args.found.now.list; whole = false }) k more refl refl);
}
