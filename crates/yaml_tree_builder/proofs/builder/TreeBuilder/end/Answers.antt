use Rattle.std.proofs.Common.{◌≡◌, ◌<◌, length, drop, sym, ◌∙◌, ap, subst}
use Rattle.std.specs.Prelude.{Some}
use Rattle.std.specs.List.{All}
use Rattle.yaml_tree.specs.ComposerSteps.{State, collection_from, collection_ended, whole}
use Rattle.yaml_store.specs.StoreModel.{parts_at, is_mapping}
use Rattle.yaml_store.specs.StoreGrows.{Fits, tags_of, trees_of, Stands}
use Rattle.yaml_tree_builder.specs.BuilderModel.{Holds, Keeping}
use Rattle.yaml_tree_builder.specs.declared.builder.TreeBuilder.{TreeBuilder}
use Rattle.yaml_store.proofs.StoreLaws.{tag-is}
use Rattle.yaml_tree_builder.proofs.BuilderLaws.{left-in, ended-step}
use Rattle.yaml_tree_builder.proofs.FirstsLaws.{comes}
use Rattle.yaml_tree_builder.proofs.builder.TreeBuilder.end.Goals as goal

pub returns : goal.returns
returns c = λ s h.
    let self = c.args.self.now in
    let ms = tags_of self.store in
    let ts = trees_of self.store in
    let o = c.in-Some.open in
    let os = c.pop.new.self.items in
    let new = c.collection.new.self in
    let l = left-in self s os o c.in-Some.ensures.items h in
    let rest : State = record { inner = l.last.before; outer = l.others; table = s.table; done = s.done } in
    let cut : TreeBuilder = record self { opens = c.pop.new.self; stack = c.truncate.new.self } in
    let held : Holds cut rest = record { good = h.good; names = h.names; keeping = subst (λ z. Keeping ms ts self.anchored.items z os l.last.before l.others s.table) (sym c.truncate.ensures.items) l.keeping; counted = h.counted } in
    let piece : c.parts_from-parts.result.now ≡ drop o.mark self.stack.items = c.parts_from-parts.ensures ∙ ap (drop o.mark) c.deref.ensures.value in
    let fits : Fits cut.store o.tag c.parts_from-parts.result.now = record { good = h.good.store; tagged = (tag-is ms o.tag l.last.tag l.tag).within; below = subst (All (λ i. i < length ts)) (sym piece) l.within } in
    let kept = c.in_ok-id.ensures.kept fits in
    let d = tag-is ms o.tag l.last.tag l.tag in
    let parts = ap (parts_at ts) piece ∙ l.parts in
    let t = collection_from (is_mapping c.args.collection) l.last.tag s.inner in
    let there : Stands new c.in_ok-id.id t = c.in_ok-id.ensures.stands fits ∙ (λ z. Some (collection_from (is_mapping c.args.collection) (d.is z) (parts z))) in
    record {
      state = whole l.last.anchor l.last.slot t rest;
      is = ended-step c.args.collection s ∙ ap (collection_ended (is_mapping c.args.collection) s) l.is;
      holds = c.in_ok-put.ensures rest self.store held kept l.last.anchor l.last.slot t l.place there (comes self.store new c.in_ok-id.id t kept c.in_ok-id.ensures.one there);
    }
