use Rattle.yaml_text.specs.Source.{text_of}
use Rattle.yaml_mark.specs.HandlesModel.{handles_of}
use Rattle.yaml_mark.proofs.TagLemmas.{no_tag_here}
use Rattle.yaml_mark.proofs.tag.read_tag.Goals as goal

pub returns-in-None-clause-refused : goal.returns-in-None-clause-refused
returns-in-None-clause-refused c = no_tag_here (text_of c.args.source.now) (handles_of c.args.handles) _ c.in-None.ensures.none
