use Rattle.std.proofs.Common.{◌≡◌, length, ap, inl, inr}
use Rattle.std.specs.Cow.{cow_str_bytes}
use Rattle.std.specs.Prelude.{Some, Ok}
use Rattle.yaml_definitions.specs.model.Tree.{scalar}
use Rattle.yaml_definitions.specs.model.Tag.{str_tag}
use Rattle.yaml_definitions.specs.model.Event.{untagged}
use Rattle.yaml_definitions.specs.model.Unfold.{and_then, placed}
use Rattle.yaml_definitions.specs.model.Core.{resolve}
use Rattle.yaml_text.specs.EventModel.{style_of}
use Rattle.yaml_tree.specs.ComposerSteps.{step, node_begun, whole, scalar_added}
use Rattle.yaml_tree_builder.proofs.builder.TreeBuilder.put_bare.Goals as goal

pub returns-in_ok-put_kind-in-Single : goal.returns-in_ok-put_kind-in-Single
unfolding resolve step
returns-in_ok-put_kind-in-Single c = λ a s w h.
    let x = (cow_str_bytes c.args.text.now) in
    let e : resolve untagged (style_of c.args.style) x ≡ Ok (str_tag, x) =
    elim c.in-Single.is [
      | inl p ↦ ap (λ y. resolve untagged (style_of y) x) p
      | inr q ↦ elim q [ inl p ↦ ap (λ y. resolve untagged (style_of y) x) p | inr r ↦ elim r [ inl p ↦ ap (λ y. resolve untagged (style_of y) x) p | inr p ↦ ap (λ y. resolve untagged (style_of y) x) p ] ]
    ] in
    record {
      state = whole a (length s.table) (scalar str_tag x) (node_begun a s);
      is = ap (λ r. Some (and_then (placed 0 r) (scalar_added a s))) e;
      holds = c.in_ok-put_kind-in-Single.ensures a (length s.table) (node_begun a s) w h;
    }
