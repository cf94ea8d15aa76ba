use Rattle.std.proofs.Common.{◌≡◌, ◌++◌, length, arith, refl, sym, subst, length-append}
use Rattle.std.specs.Prelude.{Some, None}
use Rattle.std.specs.List.{slice_get}
use Rattle.yaml_definitions.specs.model.Tag.{default_tag}
use Rattle.yaml_definitions.specs.model.Core.{collection_tag}
use Rattle.yaml_tree.specs.ComposerSteps.{State}
use Rattle.yaml_store.specs.StoreGrows.{tags_of, trees_of}
use Rattle.yaml_store.specs.declared.nodes.Collection.TheVariants as kinds
use Rattle.yaml_tree_builder.specs.TagModel.{collection_number}
use Rattle.yaml_tree_builder.specs.Nodes.{with_nodes}
use Rattle.yaml_tree_builder.specs.BuilderModel.{below, Holds}
use Rattle.yaml_tree_builder.specs.declared.builder.Open.{Open}
use Rattle.yaml_tree_builder.specs.declared.builder.TreeBuilder.{TreeBuilder}
use Rattle.yaml_tree_builder.proofs.BuilderLaws.{stack-length, keeping-entered}
use Rattle.yaml_tree_builder.proofs.NodeLaws.{last-node, follows-before}
use Rattle.yaml_tree_builder.proofs.builder.TreeBuilder.precede.Goals as goal

pub returns : goal.returns
unfolding collection_tag
returns c = λ front es p f flow.
    let self = c.args.self.now in
    let l = last-node self front es p f in
    let tags = tags_of self.store in
    let tag = c.collection-tag.result in
    let text = default_tag (collection_number kinds.Mapping) in
    let at : slice_get tags tag ≡ Some text = subst (λ i. slice_get tags i ≡ Some text) (sym c.collection-tag.ensures) (l.holds.good.core.collections kinds.Mapping) in
    let a = l.adding in
    let s : State = with_nodes l.state a.nodes a.inside a.after in
    let k : Holds self s = l.holds in
    let o : Open = record { place = None; tag = tag; mark = c.saturating_sub-mark.result } in
    let final : TreeBuilder = record self { opens = c.push.new.self } in
    let under = below l.state.outer in
    let size = stack-length tags (trees_of self.store) self.anchored.items self.stack.items self.opens.items s.inner s.outer s.table k.keeping in
    let mark : o.mark ≡ length (under ++ l.state.inner) =
    omega (arith, size, a.count, c.saturating_sub-mark.ensures, c.len.ensures, self.stack.ok.0, length-append under (l.state.inner ++ a.nodes), length-append l.state.inner a.nodes, length-append under l.state.inner) in
    follows-before self final front es text l refl (record {
      good = k.good;
      names = k.names;
      keeping =
          keeping-entered tags (trees_of self.store) self.anchored.items self.stack.items self.opens.items s.inner s.outer s.table k.keeping o None (length l.state.table) text l.state.inner a.nodes c.push.new.self.items c.in_ok-push.ensures.items refl tt mark at;
      counted = k.counted;
    }) flow
