use Rattle.std.proofs.Common.{arith}
use Rattle.yaml_sink.proofs.ListLemmas.{list_counts}
use Rattle.yaml_sink.proofs.list.EventList.mark.Goals as goal

pub returns : goal.returns
returns c = list_counts c.args.self.now _ (omega (arith, c.len.ensures, c.len-2.ensures, c.args.self.now.events.ok.0, c.args.self.now.starts.ok.0))
