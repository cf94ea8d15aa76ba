use Rattle.std.proofs.Common.{◌∙◌, sym}
use Rattle.yaml_sum.proofs.ListedLaws.{digits_long}
use Rattle.yaml_sum.proofs.listed.form_in.Goals as goal

pub slice_bounds-read_digest-end : goal.slice_bounds-read_digest-end
slice_bounds-read_digest-end c = digits_long c.unmarked.result.1.now (sym c.has_digits.ensures ∙ c.if-not-has_digits.false)
