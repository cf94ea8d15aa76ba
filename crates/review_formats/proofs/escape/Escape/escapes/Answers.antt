use Rattle.std.proofs.Common.{sym, ◌∙◌}
use Rattle.review_formats.proofs.EscapeLaws.{markup_low}
use Rattle.review_formats.proofs.escape.Escape.escapes.Goals as goal

pub returns-then-is_markup-clause-low : goal.returns-then-is_markup-clause-low
returns-then-is_markup-clause-low c h = markup_low c.args.self c.args.c (sym c.is_markup.ensures ∙ h)
