use Rattle.std.proofs.Common.{◌<◌, [], ◌∷◌, length, append-nil, sym}
use Rattle.std.specs.Cow.{cow_str_bytes}
use Rattle.yaml_definitions.specs.model.Tree.{scalar}
use Rattle.yaml_store.specs.StoreModel.{tag_at}
use Rattle.yaml_store.specs.TextModel.{text_of}
use Rattle.yaml_store.specs.StoreGrows.{Good, tags_of, trees_of}
use Rattle.yaml_store.proofs.Growing.{Grown}
use Rattle.yaml_store.proofs.StoreLaws.{scalar-more, grown-stands, kept-same}
use Rattle.yaml_store.proofs.store.Store.add_scalar.Goals as goal

pub returns-then-is_scalar-clause-kept : goal.returns-then-is_scalar-clause-kept
returns-then-is_scalar-clause-kept c = λ good tagged. kept-same c.args.self.now good

-- what stands after the push
grown : (c : goal.In_ok-id) → Good c.args.self.now → c.args.tag < length (tags_of c.args.self.now) → let s = c.args.self.now in
    Grown (tags_of s) (text_of c.put.new.self) s.items.items s.entries.items c.push_node.new.nodes.items (trees_of s) (scalar (tag_at (tags_of s) c.args.tag) (cow_str_bytes c.args.content.now))
grown c good tagged =
    let s = c.args.self.now in
    let p = c.in_ok-span.ensures.puts in
    scalar-more (tags_of s) (text_of s.text) s.items.items s.entries.items s.nodes.items good c.args.tag c.in_ok-span.span (cow_str_bytes c.args.content.now) (text_of c.put.new.self) p.more c.push_node.new.nodes.items tagged
    p.within p.grows p.is c.in_ok-span.ensures.utf8 c.in_ok-id.ensures.pushed c.in_ok-id.ensures.few

pub returns-clause-kept : goal.returns-clause-kept
returns-clause-kept c = λ good tagged.
    let s = c.args.self.now in
    let g = grown c good tagged in
    record { good = g.sound; more_tags = []; tags = sym (append-nil (tags_of s)); more = scalar (tag_at (tags_of s) c.args.tag) (cow_str_bytes c.args.content.now) ∷ []; trees = g.trees }

pub returns-clause-stands : goal.returns-clause-stands
returns-clause-stands c = λ good tagged.
    let s = c.args.self.now in
    grown-stands (tags_of s) (text_of s.text) s.items.items (text_of c.put.new.self) s.items.items s.entries.items s.entries.items s.nodes.items c.push_node.new.nodes.items _ c.in_ok-id.id (grown c good tagged) c.in_ok-id.ensures.number
