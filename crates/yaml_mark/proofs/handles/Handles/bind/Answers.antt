use Rattle.std.specs.Ordering.{nat_cmp}
use Rattle.std.specs.Cmp.Lexicographic.{slice_cmp}
use Rattle.std.specs.BTreeMap as tree
use Rattle.std.proofs.lemmas.Map.Text.{btree_map_updates_str}
use Rattle.yaml_mark.specs.PrefixModel.{decoded_of}
use Rattle.yaml_mark.proofs.HandleLemmas.{found_more, none_there}
use Rattle.yaml_mark.proofs.handles.Handles.bind.Goals as goal

pub invariant_of-result : goal.invariant_of-result
invariant_of-result c = record {
  found = λ q. rw c.in_ok-push.ensures.items
      (found_more decoded_of c.args.self.bindings.items c.args.handle c.args.prefix _ _ (λ k. tree.get_by (λ z. slice_cmp nat_cmp k z.now) c.insert.new.self)
      c.in_ok-kept.ensures.ok c.requires.whole c.args.self.found (none_there _ c.requires.free)
      (λ k. btree_map_updates_str c.args.handle.now c.args.self.prefixes c.insert.new.self _ c.in_ok-insert.ensures.updates k) q);
}
