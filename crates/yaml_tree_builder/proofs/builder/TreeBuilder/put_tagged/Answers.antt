use Rattle.std.proofs.Common.{◌≡◌, length, subst, ap, ◌∙◌}
use Rattle.std.specs.Prelude.{Some, Ok}
use Rattle.std.specs.Cow.{cow_str_bytes}
use Rattle.std.proofs.lemmas.Result.{err_from_is_err_and}
use Rattle.yaml_definitions.specs.model.Tree.{scalar}
use Rattle.yaml_definitions.specs.model.Core.{resolve}
use Rattle.yaml_text.specs.EventModel.{written_of, style_of}
use Rattle.yaml_definitions.specs.model.Unfold.{and_then, placed}
use Rattle.yaml_sink.specs.PropertyRules.{props_in}
use Rattle.yaml_tree.specs.ComposerSteps.{step, node_begun, whole, scalar_added}
use Rattle.yaml_store.specs.StoreGrows.{Stands}
use Rattle.yaml_core.specs.CoreAnswer.{RefusesScalar}
use Rattle.yaml_tree_builder.proofs.RefusalLaws.{scalar-stops}
use Rattle.yaml_tree_builder.proofs.FirstsLaws.{comes}
use Rattle.yaml_tree_builder.proofs.builder.TreeBuilder.put_tagged.Goals as goal

pub returns-in_err-scalar : goal.returns-in_err-scalar
returns-in_err-scalar c = λ s h.
    let p = err_from_is_err_and c.from_residual-in_err-scalar.result c.from_residual-in_err-scalar.ensures.1 in
    let g = written_of c.args.given.now.tag in
    let y = style_of c.args.style in
    let x = cow_str_bytes c.args.text.now in
    let m = subst (λ z. RefusesScalar (resolve g y z) c.in_err-scalar.field-0.0) c.as_str.ensures.value c.in_err-scalar.ensures.means in
    rw p.1 (scalar-stops (props_in c.args.given.now).anchor g y x s p.0 (p.2 (resolve g y x) m))

pub returns : goal.returns
unfolding step
returns c = λ s h.
    let a = (props_in c.args.given.now).anchor in
    let n = node_begun a s in
    let b = c.in_ok-place.ensures s h in
    let middle = c.begin_node.new.self in
    let new = c.scalar.new.self in
    let g = cow_str_bytes c.in_ok-scalar.scalar.tag in
    let x = cow_str_bytes c.in_ok-scalar.scalar.content in
    let kept = c.in_ok-id.ensures.kept b.1.good.store in
    let there : Stands new c.in_ok-id.id (scalar g x) = c.in_ok-id.ensures.stands b.1.good.store ∙ (λ z. Some (scalar (c.as_str-3.ensures.value z) (c.as_str-2.ensures.value z))) in
    let m = subst (λ z. resolve (written_of c.args.given.now.tag) (style_of c.args.style) z ≡ Ok (g, x)) c.as_str.ensures.value c.in_ok-scalar.ensures.means in
    record {
      state = whole a (length s.table) (scalar g x) n;
      is = ap (λ r. Some (and_then (placed 0 r) (scalar_added a s))) m;
      holds = c.in_ok-put.ensures n middle.store b.1 kept a (length s.table) (scalar g x) b.0 there (comes middle.store new c.in_ok-id.id (scalar g x) kept c.in_ok-id.ensures.one there);
    }
