use Rattle.std.proofs.Common.{map, string_bytes}
use Rattle.yaml_command.specs.Commands.{WordsDone, WordsNotDone}
use Rattle.yaml_command.specs.Refusals.{Told}
use Rattle.yaml_command.proofs.Answering.{answered, quiet_below, status_tells, status_told}
use Rattle.yaml_command.proofs.command.answer.Goals as goal

pub returns-clause-tells : goal.returns-clause-tells
returns-clause-tells g c =
    let words = map string_bytes c.args.words.now in
    let done = WordsDone (g.S.Shelf.holds c.args.shelf.now) g.W.Write.contents g.R.Read.remaining words c.args.input.now c.run_words-answer.new.input c.args.out.now c.run_words-answer.new.out in
    let not_done = WordsNotDone (g.S.Shelf.holds c.args.shelf.now) g.W.Write.contents g.R.Read.remaining words c.args.input.now c.run_words-answer.new.input c.args.out.now c.run_words-answer.new.out in
    let told = Told g.E.Write.contents c.args.err.now c.report.new.err in
    rw c.report.ensures.status
    (status_told done not_done told c.run_words-answer.result c.run_words-answer.ensures.ok c.run_words-answer.ensures.refused c.report.ensures.quiet c.report.ensures.told)

pub returns-clause-done : goal.returns-clause-done
returns-clause-done g c =
    let words = map string_bytes c.args.words.now in
    let done = WordsDone (g.S.Shelf.holds c.args.shelf.now) g.W.Write.contents g.R.Read.remaining words c.args.input.now c.run_words-answer.new.input c.args.out.now c.run_words-answer.new.out in
    let not_done = WordsNotDone (g.S.Shelf.holds c.args.shelf.now) g.W.Write.contents g.R.Read.remaining words c.args.input.now c.run_words-answer.new.input c.args.out.now c.run_words-answer.new.out in
    rw c.report.ensures.status
    (λ low. answered done not_done _ low (status_tells done not_done c.run_words-answer.result c.run_words-answer.ensures.ok c.run_words-answer.ensures.refused))

pub returns-clause-quiet : goal.returns-clause-quiet
returns-clause-quiet g c = rw c.report.ensures.status (quiet_below c.run_words-answer.result c.report.ensures.quiet)
