use Rattle.yaml_event_text.proofs.LineLaws.{lines_none}
use Rattle.yaml_event_text.proofs.lines.Lines.new.Goals as goal

pub returns : goal.returns
returns c = lines_none _ c.new.ensures.bytes c.new-2.ensures.items
