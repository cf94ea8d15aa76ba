use Rattle.std.proofs.Common.{arith, ◌∷◌, [], refl, subst}
use Rattle.std.specs.Prelude.{false}
use Rattle.yaml_definitions.specs.model.Event.{untagged, mapping_start}
use Rattle.yaml_tree.specs.Anchors.{names_of}
use Rattle.yaml_tree.specs.ComposerSteps.{State, collection_begun, initial_state}
use Rattle.yaml_store.specs.StoreGrows.{tags_of, trees_of}
use Rattle.yaml_store.specs.declared.nodes.Collection.TheVariants as kinds
use Rattle.yaml_tree_builder.specs.Nodes.{with_nodes}
use Rattle.yaml_tree_builder.specs.BuilderModel.{start_of, Holds}
use Rattle.yaml_tree_builder.specs.declared.builder.Open.{Open}
use Rattle.yaml_tree_builder.specs.declared.builder.TreeBuilder.{TreeBuilder}
use Rattle.yaml_tree_builder.proofs.ReachedLaws.{reaches-both, reaches-one}
use Rattle.yaml_tree_builder.proofs.BuilderLaws.{frame, begun-step}
use Rattle.yaml_tree_builder.proofs.KeyLaws.{two-none, two-one, keyed-parts, started, keeping-key}
use Rattle.yaml_tree_builder.proofs.builder.TreeBuilder.settle_key.Goals as goal

pub returns-in_ok-push-2 : goal.returns-in_ok-push-2
returns-in_ok-push-2 c = λ start q t. record {
  is = λ front es n k flow own l p f.
      let mid = c.number_of.new.self in
      let w = keyed-parts front q.anchor untagged k flow own es n f.state p f.is in
      let num = c.in_ok-tag.ensures f.state f.holds kinds.Mapping q.tag t in
      let a = w.adding in
      let s : State = with_nodes (collection_begun own.anchor (collection_begun q.anchor w.state w.mapping) w.tag) a.nodes a.inside a.after in
      let held : Holds mid s = subst (Holds mid) w.at num.1 in
      let inner = c.in-Some.own in
      let around = c.in-Some-pop.outer in
      let o : Open = record { place = around.place; tag = c.in_ok-tag.tag; mark = around.mark } in
      let new : TreeBuilder = record mid { opens = c.push-in-Some-pop.new.self } in
      let u = collection_begun q.anchor w.state num.0.tag in
      let after : State = with_nodes (collection_begun own.anchor u w.tag) a.nodes a.inside a.after in
      let tags = tags_of mid.store in
      let ts = trees_of mid.store in
      let m = mapping_start false q.anchor q.tag in
      let c2 = start_of k flow own.anchor own.tag in
      let keeping = keeping-key tags ts mid.anchored.items mid.stack.items mid.opens.items c.pop.new.self.items c.pop-in-Some.new.self.items inner around o s.inner (frame own.anchor _ w.tag _) (frame q.anchor _ w.mapping _) w.state.outer s.table c.in-Some.ensures.items c.in-Some-pop.ensures.items held.keeping num.0.tag c.push.new.self.items c.push-in-Some-pop.new.self.items c.in_ok-push.ensures.items c.in_ok-push-2.ensures.items refl refl num.0.at in
      let back = started u k flow own.anchor own.tag w.tag n es w.anchors a w.tagged w.anchors_is in
      record {
        state = after;
        is = reaches-both front (m ∷ (c2 ∷ es)) initial_state w.state after w.is (reaches-both (m ∷ []) (c2 ∷ es) w.state u after (reaches-one m w.state u (begun-step kinds.Mapping false q.anchor q.tag num.0.tag w.state num.0.is)) back);
        holds = record { good = held.good; names = held.names; keeping = keeping; counted = held.counted };
      };
}

pub returns-in_default : goal.returns-in_default
returns-in_default c = λ start q t. record {
  is = λ front es n k flow own l p f.
      let mid = c.number_of.new.self in
      let w = keyed-parts front q.anchor untagged k flow own es n f.state p f.is in
      let held : Holds mid _ = subst (Holds mid) w.at (c.in_ok-tag.ensures f.state f.holds kinds.Mapping q.tag t).1 in
      two-none (tags_of mid.store) (names_of _) mid.opens.items _ _ _ (omega (arith, c.in_default.ensures.cases.0, mid.opens.ok.0)) held.keeping.opened;
}

pub returns-in_default-pop : goal.returns-in_default-pop
returns-in_default-pop c = λ start q t. record {
  is = λ front es n k flow own l p f.
      let mid = c.number_of.new.self in
      let w = keyed-parts front q.anchor untagged k flow own es n f.state p f.is in
      let held : Holds mid _ = subst (Holds mid) w.at (c.in_ok-tag.ensures f.state f.holds kinds.Mapping q.tag t).1 in
      two-one (tags_of mid.store) (names_of _) mid.opens.items c.pop.new.self.items c.in-Some.own _ _ _ c.in-Some.ensures.items (omega (arith, c.in_default-pop.ensures.cases.0, c.pop.new.self.ok.0)) held.keeping.opened;
}
