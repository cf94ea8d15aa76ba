use Rattle.review_text.specs.TagWords.{core_prefix}
use Rattle.review_text.proofs.TagLaws.{name_behind, name_whole}
use Rattle.review_text.proofs.tag_words.short_name.Goals as goal

pub returns-in-Some : goal.returns-in-Some
returns-in-Some c = name_behind core_prefix c.args.tag.now c.in-Some.name.now c.in-Some.ensures.cases

pub returns-in-None : goal.returns-in-None
returns-in-None c = name_whole core_prefix c.args.tag.now c.in-None.ensures.cases
