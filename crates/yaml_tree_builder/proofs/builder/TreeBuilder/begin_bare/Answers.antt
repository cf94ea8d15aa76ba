use Rattle.std.proofs.Common.{◌≡◌, [], length, arith, append-nil, sym, subst}
use Rattle.std.specs.Prelude.{Some}
use Rattle.std.specs.List.{slice_get}
use Rattle.yaml_definitions.specs.model.Tag.{default_tag}
use Rattle.yaml_tree.specs.ComposerSteps.{node_begun, collection_begun}
use Rattle.yaml_store.specs.StoreGrows.{tags_of, trees_of}
use Rattle.yaml_tree_builder.specs.TagModel.{collection_number}
use Rattle.yaml_tree_builder.specs.declared.builder.Open.{Open}
use Rattle.yaml_tree_builder.proofs.BuilderLaws.{begun-step, stack-length, keeping-entered}
use Rattle.yaml_tree_builder.proofs.builder.TreeBuilder.begin_bare.Goals as goal

pub returns : goal.returns
returns c = λ a s w h g e flow.
    let self = c.args.self.now in
    let tags = tags_of self.store in
    let ts = trees_of self.store in
    let tag = c.collection-tag.result in
    let text = default_tag (collection_number c.args.collection) in
    let at : slice_get tags tag ≡ Some text = subst (λ i. slice_get tags i ≡ Some text) (sym c.collection-tag.ensures) (h.good.core.collections c.args.collection) in
    let o : Open = record { place = c.args.place; tag = tag; mark = c.len-mark.result } in
    let n = node_begun a s in
    let l = stack-length tags ts self.anchored.items self.stack.items self.opens.items n.inner n.outer n.table h.keeping in
    record {
      state = collection_begun a s text;
      is = begun-step c.args.collection flow a g text s e;
      holds = record {
        good = h.good;
        names = h.names;
        keeping =
            keeping-entered tags ts self.anchored.items self.stack.items self.opens.items n.inner n.outer n.table h.keeping o a (length s.table) text s.inner [] c.push.new.self.items c.in_ok-push.ensures.items (append-nil s.inner) w (omega (arith, l, c.len-mark.ensures, self.stack.ok.0)) at;
        counted = h.counted;
      };
    }
