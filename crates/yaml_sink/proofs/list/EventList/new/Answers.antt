use Rattle.yaml_sink.proofs.ListLemmas.{list_new}
use Rattle.yaml_sink.proofs.list.EventList.new.Goals as goal

pub returns : goal.returns
returns c = list_new _ c.new.ensures.items c.new-2.ensures.items
