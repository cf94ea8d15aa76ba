use Rattle.yaml_spell.proofs.PageLaws.{adds_filled}
use Rattle.yaml_spell.proofs.page.Page.add.Goals as goal

pub returns-clause-ok : goal.returns-clause-ok
returns-clause-ok g c = adds_filled g.W.Write.contents c.args.self.now c.fill.new.self c.args.out.now c.args.piece.now c.fill.ensures
