use Rattle.std.proofs.Common.{◌≡◌, ◌∙◌, length, ap, subst, sym}
use Rattle.std.specs.Prelude.{Some}
use Rattle.std.specs.Option.{option_map}
use Rattle.std.specs.Cow.{cow_str_bytes}
use Rattle.yaml_definitions.specs.model.Event.{Anchor}
use Rattle.yaml_tree.specs.ComposerSteps.{node_begun}
use Rattle.yaml_tree.specs.Anchors.{names_of, Placed}
use Rattle.yaml_store.specs.StoreGrows.{tags_of, trees_of}
use Rattle.yaml_sink.specs.PropertyRules.{props_in}
use Rattle.yaml_tree_builder.specs.AnchorsModel.{Names}
use Rattle.yaml_tree_builder.specs.BuilderModel.{Holds}
use Rattle.yaml_tree_builder.specs.declared.builder.TreeBuilder.{TreeBuilder}
use Rattle.yaml_tree_builder.proofs.BuilderLaws.{names-push, keeping-begun}
use Rattle.yaml_tree_builder.proofs.builder.TreeBuilder.begin_node.Goals as goal

pub returns : goal.returns
returns c = λ s h.
    let self = c.args.self.now in
    let name = c.as_str.result.now in
    let place = c.in_ok-place.place in
    let new : TreeBuilder = record self { anchors = c.put.new.self; anchored = c.push.new.self } in
    let e : (props_in c.args.given.now).anchor ≡ Some name = ap (option_map cow_str_bytes) c.in-Some.is ∙ ap Some (sym c.as_str.ensures.value) in
    let k = keeping-begun (tags_of self.store) (trees_of self.store) self.anchored.items self.stack.items self.opens.items s.inner s.outer s.table h.keeping name place c.push.new.self.items (c.in_ok-place.ensures.place (names_of s.table) h.names) c.in_ok-push.ensures.items in
    let held : Holds new (node_begun (Some name) s) = record { good = h.good; names = subst (Names c.put.new.self) (sym (names-push s.table name)) (c.in_ok-place.ensures.names (names_of s.table) h.names); keeping = k.1; counted = h.counted } in
    subst (λ (a : Anchor). Placed (names_of (node_begun a s).table) (Some place) a (length s.table) × Holds new (node_begun a s)) (sym e) (k.0, held)
