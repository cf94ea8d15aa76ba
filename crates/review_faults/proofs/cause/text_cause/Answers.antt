use Rattle.std.proofs.Common.{false, ◌∙◌}
use Rattle.review_text.specs.Yaml11.{new_kind, older_of}
use Rattle.review_faults.proofs.CauseLaws.{octal_told}
use Rattle.review_faults.proofs.cause.text_cause.Goals as goal

pub returns : goal.returns
returns c = c.octal_cause.ensures ∙ octal_told (older_of c.args.text.now false) (new_kind c.args.text.now) c.read_older.result c.read_older.ensures
