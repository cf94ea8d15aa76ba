use Rattle.std.proofs.Common.{map, string_bytes}
use Rattle.yaml_command.proofs.FileLaws.{if_one, if_refused}
use Rattle.yaml_command.proofs.Answering.{not_done}
use Rattle.yaml_command.proofs.command.run_words.Goals as goal

pub returns-clause-ok : goal.returns-clause-ok
returns-clause-ok g c = if_one c.run.result c.run.ensures.ok (λ status h. (c.in_ok-asked.asked, c.in_ok-asked.ensures.ok, h))

pub returns-clause-refused : goal.returns-clause-refused
returns-clause-refused g c =
    if_refused c.run.result c.run.ensures.refused
    (not_done g.W.Write.contents g.R.Read.remaining (g.S.Shelf.holds c.args.shelf.now) (map string_bytes c.args.words.now) c.args.input.now c.run.new.input c.args.out.now c.run.new.out c.in_ok-asked.asked c.in_ok-asked.ensures.ok)
