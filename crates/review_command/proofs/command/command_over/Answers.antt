use Rattle.std.specs.String.{string_bytes}
use Rattle.std.proofs.Common.{◌∙◌, ap, false, inl, inr, map}
use Rattle.clap.specs.Walk.{texts}
use Rattle.clap.specs.Words.{kind_of}
use Rattle.review_args.specs.Order.{in_order}
use Rattle.review_command.specs.Runs.{Does}
use Rattle.review_command.proofs.CommandLaws.{words_done, words_refused}
use Rattle.review_command.proofs.command.command_over.Goals as goal

pub returns-in-Ok-read_words : goal.returns-in-Ok-read_words
returns-in-Ok-read_words g c =
    inl
    (words_done (λ asked. Does (g.S.Shelf.holds c.args.shelf.now) g.R.Read.remaining g.W.Write.contents g.E.Write.contents asked c.args.input c.args.out c.args.err) (in_order (map string_bytes c.args.words.now)) (map string_bytes c.deref.result.now) (map string_bytes c.deref-2.result.now) (texts c.in-Ok-read_keys.by.items) (texts c.deref-3.result.now) false c.in-Ok-read_words.asked c.run.result
    (ap (map string_bytes) c.deref.ensures.value ∙ c.in-Ok.ensures) (ap (map string_bytes) c.deref-2.ensures.value ∙ c.in-Ok.ensures) (ap texts c.deref-3.ensures.value) c.in-Ok-read_keys.ensures c.in-Ok-read_words.ensures.ok c.run.ensures)

pub returns-in-Err-read_words : goal.returns-in-Err-read_words
returns-in-Err-read_words g c =
    inr
    (inl
    (words_refused g.W.Write.contents g.E.Write.contents (in_order (map string_bytes c.args.words.now)) (map string_bytes c.deref-2.result.now) (kind_of c.in-Err-read_words.error) c.args.out c.args.err c.told.result
    (ap (map string_bytes) c.deref-2.ensures.value ∙ c.in-Ok.ensures) c.in-Err-read_words.ensures.err c.told.ensures))
