use Rattle.yaml_sink.proofs.ListLemmas.{list_cut}
use Rattle.yaml_sink.proofs.list.EventList.cut.Goals as goal

pub returns : goal.returns
returns c = list_cut c.args.self.now _ c.args.mark c.starts_before-count.result c.starts_before-count.ensures c.truncate.ensures.items c.truncate-2.ensures.items
