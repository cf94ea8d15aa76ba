use Rattle.std.proofs.Common.{◌≡◌, length, subst, sym, ap}
use Rattle.std.specs.Prelude.{Some, Ok}
use Rattle.std.specs.Cow.{cow_str_bytes}
use Rattle.yaml_definitions.specs.model.Tree.{scalar}
use Rattle.yaml_definitions.specs.model.Core.{resolve}
use Rattle.yaml_definitions.specs.model.Unfold.{and_then, placed}
use Rattle.yaml_text.specs.EventModel.{written_of}
use Rattle.yaml_sink.specs.PropertyRules.{props_in}
use Rattle.yaml_tree.specs.ComposerSteps.{step, node_begun, whole, scalar_added}
use Rattle.yaml_store.specs.StoreGrows.{Stands}
use Rattle.yaml_tree_builder.proofs.FirstsLaws.{comes}
use Rattle.yaml_tree_builder.proofs.builder.TreeBuilder.put_kept.Goals as goal

pub returns : goal.returns
unfolding step
returns c = λ y s h is keeps.
    let a = (props_in c.args.given.now).anchor in
    let n = node_begun a s in
    let b = c.in_ok-place.ensures s h in
    let middle = c.begin_node.new.self in
    let new = c.scalar.new.self in
    let g = c.args.tag.now in
    let x = cow_str_bytes c.args.text.now in
    let m : resolve (written_of c.args.given.now.tag) y x ≡ Ok (g, x) = subst (λ t. resolve t y x ≡ Ok (g, x)) (sym is) (keeps y x) in
    let kept = c.in_ok-id.ensures.kept b.1.good.store in
    let there : Stands new c.in_ok-id.id (scalar g x) = c.in_ok-id.ensures.stands b.1.good.store in
    record {
      state = whole a (length s.table) (scalar g x) n;
      is = ap (λ r. Some (and_then (placed 0 r) (scalar_added a s))) m;
      holds = c.in_ok-put.ensures n middle.store b.1 kept a (length s.table) (scalar g x) b.0 there (comes middle.store new c.in_ok-id.id (scalar g x) kept c.in_ok-id.ensures.one there);
    }
