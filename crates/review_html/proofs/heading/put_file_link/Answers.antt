use Rattle.std.proofs.Common.{◌∙◌, ap}
use Rattle.review_formats.specs.Escaped.{escaped}
use Rattle.review_formats.specs.declared.escape.Escape.TheVariants.{Html}
use Rattle.review_html.proofs.heading.put_file_link.Goals as goal

pub returns-in-Some : goal.returns-in-Some
returns-in-Some c = record { ok = (rw c.in-Some.is (rw (c.text.ensures ∙ ap (escaped Html) c.deref.ensures) at c.put_pieces.ensures.ok)) }
