use Rattle.std.proofs.Common.{arith}
use Rattle.yaml_spell.proofs.PageLaws.{quotes_put}
use Rattle.yaml_spell.proofs.page.Page.fill_quoted.Goals as goal

pub returns : goal.returns
returns c = quotes_put c.args.self.now.bytes c.copy.new.to c.args.content.now c.args.self.now.len c.copy.ensures (omega arith)
