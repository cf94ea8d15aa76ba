use Rattle.std.proofs.Common.{◌∙◌, sym, ap, Some}
use Rattle.review_patterns.proofs.FrontLaws.{named-step, name-whole}
use Rattle.review_patterns.proofs.read.named_len.Goals as goal

pub returns-then-len-gt0-clause-step : goal.returns-then-len-gt0-clause-step
returns-then-len-gt0-clause-step c = (c.name_len-len.ensures.within, named-step c.args.text.now c.name_len-len.result c.name_len-len.ensures.is c.if-len-gt0.true)

pub returns-then-len-gt0-clause-whole : goal.returns-then-len-gt0-clause-whole
returns-then-len-gt0-clause-whole c = λ rest more n a t. ap Some (c.name_len-len.ensures.is ∙ (name-whole c.args.text.now rest more (sym c.begins_with.ensures ∙ c.if-begins_with.false) n a t).0)
