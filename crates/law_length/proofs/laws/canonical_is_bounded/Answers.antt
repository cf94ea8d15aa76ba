use Rattle.law_length.proofs.Contents.{tag_light}
use Rattle.law_length.proofs.Numbers.{text_light}
use Rattle.law_length.proofs.Forests.{bounded, meaning_bounded}
use Rattle.law_length.proofs.laws.canonical_is_bounded.Goals as goal

pub returns-clause-documents : goal.returns-clause-documents
returns-clause-documents c = bounded tag_light text_light

pub returns-clause-meaning : goal.returns-clause-meaning
returns-clause-meaning c = meaning_bounded tag_light text_light
