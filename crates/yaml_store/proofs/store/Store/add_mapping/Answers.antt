use Rattle.std.proofs.Common.{[], ◌∷◌, arith, append-nil, subst, sym, true}
use Rattle.yaml_tree.specs.ComposerSteps.{collection_from}
use Rattle.yaml_store.specs.TextModel.{text_of}
use Rattle.yaml_store.specs.StoreModel.{tag_at, parts_at, AllMeasured}
use Rattle.yaml_store.specs.StoreGrows.{Fits, tags_of, trees_of}
use Rattle.yaml_store.proofs.Growing.{Grown}
use Rattle.yaml_store.proofs.StoreLaws.{mapping-more, grown-stands, kept-same}
use Rattle.yaml_store.proofs.store.Store.add_mapping.Goals as goal

pub returns-then-is_mapping-clause-kept : goal.returns-then-is_mapping-clause-kept
returns-then-is_mapping-clause-kept c = λ fits. kept-same c.args.self.now fits.good

-- what stands after the push
grown : (c : goal.In_ok-id) → Fits c.args.self.now c.args.tag c.args.parts.now → let s = c.args.self.now in
    Grown (tags_of s) (text_of s.text) s.items.items c.push_entries.new.entries.items c.push_node.new.nodes.items (trees_of s) (collection_from true (tag_at (tags_of s) c.args.tag) (parts_at (trees_of s) c.args.parts.now))
grown c fits =
    let s = c.args.self.now in
    let high = c.in_ok-height.ensures (trees_of s) (subst (λ z. AllMeasured z (trees_of s)) (sym c.deref.ensures.value) fits.good.measured) in
    mapping-more (tags_of s) (text_of s.text) s.items.items s.entries.items s.nodes.items fits.good c.args.tag c.in_ok-height.height c.in_ok-start.start c.in_ok-end.end c.args.parts.now c.push_entries.new.entries.items c.push_node.new.nodes.items fits.tagged
    (omega (arith, c.in_ok-start.ensures, c.len.ensures, s.entries.ok.0)) (omega (arith, c.in_ok-end.ensures, c.len-2.ensures, c.push_entries.new.entries.ok.0)) c.in_ok-push_entries.ensures (omega (arith, c.if-parts-ne0.false)) fits.below high c.in_ok-id.ensures.pushed c.in_ok-id.ensures.few

pub returns-clause-kept : goal.returns-clause-kept
returns-clause-kept c = λ fits.
    let s = c.args.self.now in
    let g = grown c fits in
    record { good = g.sound; more_tags = []; tags = sym (append-nil (tags_of s)); more = collection_from true (tag_at (tags_of s) c.args.tag) (parts_at (trees_of s) c.args.parts.now) ∷ []; trees = g.trees }

pub returns-clause-stands : goal.returns-clause-stands
returns-clause-stands c = λ fits.
    let s = c.args.self.now in
    grown-stands (tags_of s) (text_of s.text) s.items.items (text_of s.text) s.items.items s.entries.items c.push_entries.new.entries.items s.nodes.items c.push_node.new.nodes.items _ c.in_ok-id.id (grown c fits) c.in_ok-id.ensures.number
