use Rattle.yaml_spell.proofs.PageLaws.{adds_filled}
use Rattle.yaml_spell.proofs.page.Page.add_quoted.Goals as goal

pub returns-clause-ok : goal.returns-clause-ok
returns-clause-ok g c = adds_filled g.W.Write.contents c.args.self.now c.fill_quoted.new.self c.args.out.now _ c.fill_quoted.ensures
