use Rattle.std.proofs.Common.{sym, subst, ◌∙◌}
use Rattle.review_text.specs.Shown.{IsLongFront}
use Rattle.std.proofs.lemmas.Slice.{between_from_start}
use Rattle.review_text.proofs.ShownLaws.{long_front_is}
use Rattle.review_text.proofs.text.long_front.Goals as goal

pub returns : goal.returns
returns c =
    let f = c.ceil_char_boundary.ensures in
    subst (IsLongFront c.args.room c.args.text.now) (sym (c.range.ensures.value ∙ between_from_start c.args.text.now c.ceil_char_boundary.result)) (long_front_is c.args.text.now c.args.room c.ceil_char_boundary.result c.utf8.text f.bound f.boundary f.beyond)
