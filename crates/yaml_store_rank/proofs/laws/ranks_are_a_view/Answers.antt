use Rattle.std.proofs.Common.{length, ap, sym, refl}
use Rattle.yaml_store.specs.StoreView.{view_of}
use Rattle.yaml_store_rank.proofs.RanksView.{ranks_view}
use Rattle.yaml_store_rank.proofs.RanksOf.{rank-arranged, ranks-rise, first-tree}
use Rattle.yaml_store.specs.TextModel.{text_of}
use Rattle.yaml_store_rank.proofs.laws.ranks_are_a_view.Goals as goal

pub returns : goal.returns
returns c = λ s good r are. (
  ranks_view s good r are.listed,
  record {
    count = refl;
    tag = λ k. refl;
    inside = λ k. refl;
    tree = λ k. refl;
    neat = rank-arranged (view_of s good) r.nodes.items (text_of r.text) r.items.items r.entries.items r.ranks.items r.first.items (sym (ap length are.listed.nodes)) are.listed.ranked;
    rise = ranks-rise (view_of s good) r.nodes.items (text_of r.text) r.items.items r.entries.items r.ranks.items r.first.items (sym (ap length are.listed.nodes)) are.listed.ranked;
    node = first-tree (view_of s good) r.nodes.items (text_of r.text) r.items.items r.entries.items r.ranks.items r.first.items (sym (ap length are.listed.nodes)) are.listed.ranked;
  },
)
