use Rattle.std.proofs.Common.{◌∙◌, sym}
use Rattle.yaml_sum.proofs.ListedLaws.{digits_long}
use Rattle.yaml_sum.proofs.listed.read_plain.Goals as goal

pub slice_bounds-read_digest-end : goal.slice_bounds-read_digest-end
slice_bounds-read_digest-end c = digits_long c.args.line.now (sym c.has_digits.ensures ∙ c.if-not-has_digits.false)
