use Rattle.std.specs.Cow.{cow_str_bytes}
use Rattle.yaml_definitions.specs.model.Core.{resolve}
use Rattle.yaml_graph.proofs.TagLaws.{content-made}
use Rattle.yaml_graph.proofs.kept.content_under.Goals as goal

pub returns : goal.returns
unfolding resolve
returns c =
    let scalar = c.in_ok-scalar.scalar in
    content-made c.args.tag.now c.args.text.now (cow_str_bytes scalar.tag) (cow_str_bytes scalar.content) c.changed.result c.in_ok-scalar.ensures.means c.changed.ensures.ok c.changed.ensures.err
