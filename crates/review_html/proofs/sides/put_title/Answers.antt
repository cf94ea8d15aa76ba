use Rattle.std.proofs.Common.{◌++◌, ◌∙◌, ap}
use Rattle.std.specs.Prelude.{codes}
use Rattle.std.specs.String.{string_bytes}
use Rattle.std.proofs.lemmas.List.{append-nil}
use Rattle.review_html.proofs.TextLaws.{on_ok}
use Rattle.review_html.proofs.sides.put_title.Goals as goal

pub returns : goal.returns
returns c = record {
  ok = (
      let title = c.args.title.now in
      on_ok c.put_pieces.result (λ e. e ∙ ap (λ z. string_bytes c.args.out.now ++ (codes "<div class=\"" ++ (title ++ (codes "\"><h3>" ++ z)))) (append-nil title)) c.put_pieces.ensures.ok);
}
