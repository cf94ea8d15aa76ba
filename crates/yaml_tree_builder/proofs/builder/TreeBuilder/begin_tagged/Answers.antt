use Rattle.std.proofs.Common.{[], length, arith, append-nil}
use Rattle.std.proofs.lemmas.Result.{err_from_is_err_and}
use Rattle.yaml_text.specs.EventModel.{written_of}
use Rattle.yaml_sink.specs.PropertyRules.{props_in}
use Rattle.yaml_tree.specs.ComposerSteps.{node_begun, collection_begun}
use Rattle.yaml_store.specs.StoreGrows.{tags_of, trees_of}
use Rattle.yaml_tree_builder.specs.BuilderModel.{Holds}
use Rattle.yaml_tree_builder.specs.declared.builder.Open.{Open}
use Rattle.yaml_tree_builder.proofs.BuilderLaws.{holds-tagged, begun-step, stack-length, keeping-entered}
use Rattle.yaml_tree_builder.proofs.RefusalLaws.{begin-stops}
use Rattle.yaml_tree_builder.proofs.builder.TreeBuilder.begin_tagged.Goals as goal

pub returns : goal.returns
returns c = λ s h flow.
    let a = (props_in c.args.given.now).anchor in
    let n = node_begun a s in
    let b = c.in_ok-place.ensures s h in
    let middle = c.begin_node.new.self in
    let new = c.tag.new.self in
    let text = c.in_ok-text.text.now in
    let k : Holds (record middle { store = new }) n = holds-tagged middle n new (c.in_ok-number.ensures.kept b.1.good.store) b.1 c.in_ok-number.ensures.nodes in
    let o : Open = record { place = c.in_ok-place.place; tag = c.in_ok-number.number; mark = c.len-mark.result } in
    let l = stack-length (tags_of new) (trees_of new) middle.anchored.items middle.stack.items middle.opens.items n.inner n.outer n.table k.keeping in
    record {
      state = collection_begun a s text;
      is = begun-step c.args.collection flow a (written_of c.args.given.now.tag) text s c.in_ok-text.ensures;
      holds = record {
        good = k.good;
        names = k.names;
        keeping =
            keeping-entered (tags_of new) (trees_of new) middle.anchored.items middle.stack.items middle.opens.items n.inner n.outer n.table k.keeping o a (length s.table) text s.inner [] c.push.new.self.items c.in_ok-push.ensures.items (append-nil s.inner) b.0 (omega (arith, l, c.len-mark.ensures, middle.stack.ok.0)) c.in_ok-number.ensures.is;
        counted = k.counted;
      };
    }

pub returns-in_err-text : goal.returns-in_err-text
returns-in_err-text c = λ s h flow.
    let p = err_from_is_err_and c.from_residual.result c.from_residual.ensures.1 in
    rw (p.1, p.2) (begin-stops c.args.collection flow (props_in c.args.given.now).anchor (written_of c.args.given.now.tag) s _ c.in_err-text.ensures)
