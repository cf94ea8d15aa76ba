use Rattle.std.proofs.Common.{◌∷◌, [], ◌++◌, Some, refl, sym, ap, get_or, ◌∙◌}
use Rattle.std.specs.Prelude.{None}
use Rattle.yaml_definitions.specs.model.Unfold.{and_then, placed, tree_named}
use Rattle.yaml_tree.specs.Anchors.{names_of}
use Rattle.yaml_tree.specs.ComposerSteps.{State, step, added}
use Rattle.yaml_store.specs.StoreGrows.{tags_of, trees_of}
use Rattle.yaml_tree_builder.specs.declared.stop.Cause.TheVariants as causes
use Rattle.yaml_tree_builder.proofs.BuilderLaws.{alias-at, alias-unnamed, alias-open, keeping-whole}
use Rattle.yaml_tree_builder.proofs.RefusalLaws.{alias-stops}
use Rattle.yaml_tree_builder.proofs.builder.TreeBuilder.alias.Goals as goal

pub returns-in_default : goal.returns-in_default
returns-in_default c = λ s h.
    let self = c.args.self.now in
    let e = c.in_ok-found.ensures.place (names_of s.table) h.names ∙ c.in_default.is in
    alias-stops c.args.name.now s causes.UndefinedAlias (ap tree_named (alias-unnamed (tags_of self.store) (trees_of self.store) self.anchored.items self.stack.items self.opens.items s.inner s.outer s.table h.keeping c.args.name.now e))

pub returns-in_default-whole_at : goal.returns-in_default-whole_at
returns-in_default-whole_at c = λ s h.
    let self = c.args.self.now in
    let e = c.in_ok-found.ensures.place (names_of s.table) h.names ∙ c.in-Some.is in
    alias-stops c.args.name.now s causes.CyclicAlias (ap tree_named (alias-open (tags_of self.store) (trees_of self.store) self.anchored.items self.stack.items self.opens.items s.inner s.outer s.table h.keeping c.args.name.now c.in-Some.place e (sym (c.whole_at.ensures ∙ ap (λ z. get_or z c.in-Some.place None) c.deref.ensures.value) ∙ c.in_default-whole_at.is)))

pub returns : goal.returns
unfolding step
returns c = λ s h.
    let self = c.args.self.now in
    let i = c.in-Some-whole_at.id in
    let place = c.in-Some.place in
    let e = c.in_ok-found.ensures.place (names_of s.table) h.names ∙ c.in-Some.is in
    let f = alias-at (tags_of self.store) (trees_of self.store) self.anchored.items self.stack.items self.opens.items s.inner s.outer s.table h.keeping c.args.name.now place i e (sym (c.whole_at.ensures ∙ ap (λ z. get_or z place None) c.deref.ensures.value) ∙ c.in-Some-whole_at.is) in
    let t : State = record { inner = s.inner ++ (f.tree ∷ []); outer = s.outer; table = s.table; done = s.done } in
    record {
      state = t;
      is = ap (λ o. Some (and_then (placed 0 (tree_named o)) (added s))) f.is;
      holds = record {
        good = h.good;
        names = c.in_ok-found.ensures.names (names_of s.table) h.names;
        keeping =
            keeping-whole (tags_of self.store) (trees_of self.store) self.anchored.items self.stack.items self.opens.items s.inner s.outer s.table h.keeping None None 0 i f.tree tt f.stands self.anchored.items c.push.new.self.items refl c.in_ok-push.ensures.items;
        counted = h.counted;
      };
    }
