use Rattle.std.proofs.Common.{◌∙◌, ap, sym}
use Rattle.review_text.specs.Shown.{last_border}
use Rattle.review_merge.proofs.BorderLaws.{last_is}
use Rattle.review_merge.proofs.texts.part_start.Goals as goal

pub returns-clause-is : goal.returns-clause-is
returns-clause-is c =
    let f = c.floor_char_boundary.ensures in
    sym (last_is c.args.text.now c.lead.result c.floor_char_boundary.result f.bound f.boundary f.nearest) ∙ ap (last_border c.args.text.now) c.lead.ensures
