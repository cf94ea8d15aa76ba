use Rattle.std.proofs.Common.{arith, ◌∷◌, refl, ◌∙◌, subst}
use Rattle.yaml_definitions.specs.model.Event.{untagged}
use Rattle.yaml_tree.specs.Anchors.{names_of}
use Rattle.yaml_tree.specs.ComposerSteps.{State, collection_begun, initial_state}
use Rattle.yaml_store.specs.StoreGrows.{tags_of, trees_of}
use Rattle.yaml_tree_builder.specs.Nodes.{with_nodes}
use Rattle.yaml_tree_builder.specs.BuilderModel.{start_of, Holds}
use Rattle.yaml_tree_builder.specs.declared.builder.Open.{Open}
use Rattle.yaml_tree_builder.specs.declared.builder.TreeBuilder.{TreeBuilder}
use Rattle.yaml_tree_builder.proofs.ReachedLaws.{reaches-both}
use Rattle.yaml_tree_builder.proofs.BuilderLaws.{frame}
use Rattle.yaml_tree_builder.proofs.KeyLaws.{two-none, two-one, keyed-parts, started, same-anchors, placed-one, both-open, keeping-alone}
use Rattle.yaml_tree_builder.proofs.builder.TreeBuilder.settle_alone.Goals as goal

pub returns-in_ok-push : goal.returns-in_ok-push
returns-in_ok-push c = λ start k q t. record {
  is = λ front es n flow outer own l p one g f.
      let mid = c.number_of.new.self in
      let w = keyed-parts front outer untagged k flow own es n f.state p f.is in
      let num = c.in_ok-tag.ensures f.state f.holds k q.tag t in
      let a = w.adding in
      let s : State = with_nodes (collection_begun own.anchor (collection_begun outer w.state w.mapping) w.tag) a.nodes a.inside a.after in
      let held : Holds mid s = subst (Holds mid) w.at num.1 in
      let inner = c.in-Some.own in
      let around = c.in-Some-pop.outer in
      let o : Open = record { place = c.one_place-place.result; tag = c.in_ok-tag.tag; mark = around.mark } in
      let new : TreeBuilder = record mid { opens = c.push.new.self } in
      let after : State = with_nodes (collection_begun q.anchor w.state num.0.tag) a.nodes a.inside a.after in
      let tags = tags_of mid.store in
      let ts = trees_of mid.store in
      let b = both-open tags ts mid.anchored.items mid.stack.items mid.opens.items c.pop.new.self.items c.pop-in-Some.new.self.items inner around o s.inner (frame own.anchor _ w.tag _) (frame outer _ w.mapping _) w.state.outer s.table c.in-Some.ensures.items c.in-Some-pop.ensures.items held.keeping in
      let place = placed-one (names_of s.table) around.place inner.place o.place outer own.anchor q.anchor w.state.table c.one_place-place.ensures.own c.one_place-place.ensures.outer one b.1.0.place b.0.place in
      let keeping = keeping-alone tags ts mid.anchored.items mid.stack.items mid.opens.items c.pop.new.self.items c.pop-in-Some.new.self.items inner around o s.inner (frame own.anchor _ w.tag _) (frame outer _ w.mapping _) w.state.outer s.table c.in-Some.ensures.items c.in-Some-pop.ensures.items held.keeping q.anchor num.0.tag c.push.new.self.items c.in_ok-push.ensures.items refl refl place num.0.at in
      let same = same-anchors outer own.anchor q.anchor w.state.table one ∙ w.anchors_is in
      record {
        state = after;
        is = reaches-both front (start_of k flow q.anchor q.tag ∷ es) initial_state w.state after w.is (started w.state k flow q.anchor q.tag num.0.tag n es w.anchors a num.0.is same);
        holds = record { good = held.good; names = held.names; keeping = keeping; counted = held.counted };
      };
}

pub returns-in_default : goal.returns-in_default
returns-in_default c = λ start k q t. record {
  is = λ front es n flow outer own l p one g f.
      let mid = c.number_of.new.self in
      let w = keyed-parts front outer untagged k flow own es n f.state p f.is in
      let held : Holds mid _ = subst (Holds mid) w.at (c.in_ok-tag.ensures f.state f.holds k q.tag t).1 in
      two-none (tags_of mid.store) (names_of _) mid.opens.items _ _ _ (omega (arith, c.in_default.ensures.cases.0, mid.opens.ok.0)) held.keeping.opened;
}

pub returns-in_default-pop : goal.returns-in_default-pop
returns-in_default-pop c = λ start k q t. record {
  is = λ front es n flow outer own l p one g f.
      let mid = c.number_of.new.self in
      let w = keyed-parts front outer untagged k flow own es n f.state p f.is in
      let held : Holds mid _ = subst (Holds mid) w.at (c.in_ok-tag.ensures f.state f.holds k q.tag t).1 in
      two-one (tags_of mid.store) (names_of _) mid.opens.items c.pop.new.self.items c.in-Some.own _ _ _ c.in-Some.ensures.items (omega (arith, c.in_default-pop.ensures.cases.0, c.pop.new.self.ok.0)) held.keeping.opened;
}
