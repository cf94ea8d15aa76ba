use Rattle.std.proofs.Common.{subst, ◌≡◌, length, sym, ◌∙◌, ap}
use Rattle.std.specs.Cow.{cow_str_bytes}
use Rattle.std.specs.Prelude.{Some, Ok}
use Rattle.std.proofs.lemmas.Result.{err_from_is_err_and}
use Rattle.yaml_definitions.specs.model.Tree.{scalar}
use Rattle.yaml_definitions.specs.model.Core.{resolve}
use Rattle.yaml_definitions.specs.model.Event.{untagged, plain}
use Rattle.yaml_definitions.specs.model.Unfold.{and_then, placed}
use Rattle.yaml_tree.specs.ComposerSteps.{step, node_begun, whole, scalar_added}
use Rattle.yaml_core.specs.CoreAnswer.{RefusesScalar}
use Rattle.yaml_core.specs.Kind.{kind_tag, of_kind}
use Rattle.yaml_tree_builder.proofs.TagLaws.{plain-is}
use Rattle.yaml_tree_builder.proofs.RefusalLaws.{scalar-stops}
use Rattle.yaml_tree_builder.proofs.builder.TreeBuilder.put_plain.Goals as goal

pub returns-in-Str : goal.returns-in-Str
unfolding step of_kind
returns-in-Str c = λ a s w h.
    let x = cow_str_bytes c.args.text.now in
    let y = c.as_str.result.now in
    let k = c.kind-kind.result in
    let judged : resolve untagged plain y ≡ Ok (kind_tag k, y) = plain-is y c.judge-form.result k c.judge-form.ensures c.kind-kind.ensures ∙ (ap (λ j. of_kind j y) c.in-Str.is ∙ ap (λ j. Ok (kind_tag j, y)) (sym c.in-Str.is)) in
    let e : resolve untagged plain x ≡ Ok (kind_tag k, x) = subst (λ z. resolve untagged plain z ≡ Ok (kind_tag k, z)) c.as_str.ensures.value judged in
    record {
      state = whole a (length s.table) (scalar (kind_tag k) x) (node_begun a s);
      is = ap (λ r. Some (and_then (placed 0 r) (scalar_added a s))) e;
      holds = c.in_ok-put_kind.ensures a (length s.table) (node_begun a s) w h;
    }

pub returns-in_err-content : goal.returns-in_err-content
returns-in_err-content c = λ a s w h.
    let p = err_from_is_err_and c.from_residual-in_err-content.result c.from_residual-in_err-content.ensures.1 in
    let x = cow_str_bytes c.args.text.now in
    let k = c.kind-kind.result in
    let e : resolve untagged plain x ≡ of_kind k x = subst (λ z. resolve untagged plain z ≡ of_kind k z) c.as_str.ensures.value (plain-is c.as_str.result.now c.judge-form.result k c.judge-form.ensures c.kind-kind.ensures) in
    let m : RefusesScalar (of_kind k x) c.in_err-content.field-0.0 = subst (λ z. RefusesScalar (of_kind k z) c.in_err-content.field-0.0) c.as_str-2.ensures.value c.in_err-content.ensures.means in
    rw p.1 (scalar-stops a untagged plain x s p.0 (p.2 (resolve untagged plain x) (subst (λ r. RefusesScalar r c.in_err-content.field-0.0) (sym e) m)))

pub returns : goal.returns
unfolding step
returns c = λ a s w h.
    let x = cow_str_bytes c.args.text.now in
    let y = cow_str_bytes c.in_ok-content.content in
    let k = c.kind-kind.result in
    let judged : resolve untagged plain x ≡ of_kind k x = subst (λ z. resolve untagged plain z ≡ of_kind k z) c.as_str.ensures.value (plain-is c.as_str.result.now c.judge-form.result k c.judge-form.ensures c.kind-kind.ensures) in
    let e : resolve untagged plain x ≡ Ok (kind_tag k, y) = judged ∙ subst (λ z. of_kind k z ≡ Ok (kind_tag k, y)) c.as_str-2.ensures.value c.in_ok-content.ensures.means in
    record {
      state = whole a (length s.table) (scalar (kind_tag k) y) (node_begun a s);
      is = ap (λ r. Some (and_then (placed 0 r) (scalar_added a s))) e;
      holds = c.in_ok-put_kind-2.ensures a (length s.table) (node_begun a s) w h;
    }
