use Rattle.std.proofs.Common.{[], subst}
use Rattle.yaml_spell.specs.Pages.{PageHolds, PageStops}
use Rattle.yaml_spell.specs.Pieces.{Misses}
use Rattle.yaml_spell.proofs.PageLaws.{adds_sent, misses_sent}
use Rattle.yaml_spell.proofs.page.Page.make_room.Goals as goal

pub returns-in-Err-clause-err : goal.returns-in-Err-clause-err
returns-in-Err-clause-err g c =
    let W = g.W.Write.contents in
    subst (λ fault. Misses (PageHolds W) (PageStops W) c.args.self.now c.args.out.now c.send.new.out fault []) c.in-Err.ensures.err.is (misses_sent W c.args.self.now c.args.out.now c.send.new.out _ c.in-Err.ensures.err)

pub returns-in-Ok-clause-ok : goal.returns-in-Ok-clause-ok
returns-in-Ok-clause-ok g c = adds_sent g.W.Write.contents c.args.self.now c.send.new.self c.args.out.now c.send.new.out c.in-Ok.ensures.ok c.in-Ok.ensures.none
