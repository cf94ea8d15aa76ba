use Rattle.std.proofs.Common.{ap}
use Rattle.yaml_mark.specs.HandlesModel.{handles_of, bindings_of}
use Rattle.yaml_mark.specs.PrefixModel.{bytes_of}
use Rattle.yaml_mark.proofs.HandleLemmas.{prefix_none, prefix_both}
use Rattle.yaml_mark.proofs.prefix.prefix_of.Goals as goal

pub returns-in-None : goal.returns-in-None
returns-in-None c = prefix_none (handles_of c.args.handles) c.args.handle.now _ (ap handles_of c.in-None.is) c.default_prefix.ensures

pub returns-in-Some : goal.returns-in-Some
returns-in-Some c =
    prefix_both bytes_of (bindings_of c.in-Some.handles.now) (handles_of c.args.handles) c.args.handle.now c.get.result c.default_prefix-in-Some.result c.or.result c.or.ensures (ap handles_of c.in-Some.is)
    c.get.ensures c.default_prefix-in-Some.ensures
