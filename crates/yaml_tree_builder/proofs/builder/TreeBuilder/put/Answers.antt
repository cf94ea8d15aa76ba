use Rattle.std.proofs.Common.{arith, Some, ap, sym, ◌∙◌, subst}
use Rattle.std.proofs.lemmas.List.{set_past}
use Rattle.yaml_store.specs.StoreGrows.{tags_of, trees_of}
use Rattle.yaml_tree.proofs.AnchorLaws.{names-closed}
use Rattle.yaml_tree_builder.specs.AnchorsModel.{Names}
use Rattle.yaml_tree_builder.specs.BuilderModel.{with_store}
use Rattle.yaml_tree_builder.proofs.BuilderLaws.{filled, keeping-whole, ready-kept, keeping-kept}
use Rattle.yaml_tree_builder.proofs.FirstsLaws.{count-of}
use Rattle.yaml_tree_builder.proofs.builder.TreeBuilder.put.Goals as goal

pub returns-then-place-len : goal.returns-then-place-len
returns-then-place-len c = λ s before h kept a slot t w e came.
    let self = c.args.self.now in
    let old = with_store self before in
    record {
      good = ready-kept old s self.store kept h;
      names = subst (Names self.anchors) (sym (names-closed s.table c.args.place a slot t w)) h.names;
      keeping =
          keeping-whole (tags_of self.store) (trees_of self.store) self.anchored.items self.stack.items self.opens.items s.inner s.outer s.table (keeping-kept old s self.store kept h) c.args.place a slot c.args.id t w e _ _ (sym (ap (λ p. filled p c.args.id self.anchored.items) c.in-Some.is)) c.in_ok-push.ensures.items;
      counted = c.in_ok-note.ensures (trees_of before) (trees_of self.store) s.done t h.counted came (c.len.ensures ∙ sym (count-of self.store));
    }

pub returns-else-place-len : goal.returns-else-place-len
returns-else-place-len c = λ s before h kept a slot t w e came.
    let self = c.args.self.now in
    let old = with_store self before in
    record {
      good = ready-kept old s self.store kept h;
      names = subst (Names self.anchors) (sym (names-closed s.table c.args.place a slot t w)) h.names;
      keeping =
          keeping-whole (tags_of self.store) (trees_of self.store) self.anchored.items self.stack.items self.opens.items s.inner s.outer s.table (keeping-kept old s self.store kept h) c.args.place a slot c.args.id t w e _ _ (sym (set_past self.anchored.items c.in-Some.place (Some c.args.id) (omega (arith, c.if-place-len.false, c.len-in-Some.ensures, self.anchored.ok.0))) ∙ sym (ap (λ p. filled p c.args.id self.anchored.items) c.in-Some.is)) c.in_ok-push.ensures.items;
      counted = c.in_ok-note.ensures (trees_of before) (trees_of self.store) s.done t h.counted came (c.len.ensures ∙ sym (count-of self.store));
    }

pub returns-in_default : goal.returns-in_default
returns-in_default c = λ s before h kept a slot t w e came.
    let self = c.args.self.now in
    let old = with_store self before in
    record {
      good = ready-kept old s self.store kept h;
      names = subst (Names self.anchors) (sym (names-closed s.table c.args.place a slot t w)) h.names;
      keeping =
          keeping-whole (tags_of self.store) (trees_of self.store) self.anchored.items self.stack.items self.opens.items s.inner s.outer s.table (keeping-kept old s self.store kept h) c.args.place a slot c.args.id t w e _ _ (sym (ap (λ p. filled p c.args.id self.anchored.items) c.in_default.is)) c.in_ok-push.ensures.items;
      counted = c.in_ok-note.ensures (trees_of before) (trees_of self.store) s.done t h.counted came (c.len.ensures ∙ sym (count-of self.store));
    }
