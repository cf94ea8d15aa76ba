use Rattle.std.proofs.Common.{◌≡◌, length, ap}
use Rattle.std.specs.Cow.{cow_str_bytes}
use Rattle.std.specs.Prelude.{Some, Ok}
use Rattle.yaml_definitions.specs.model.Tree.{scalar}
use Rattle.yaml_definitions.specs.model.Tag.{str_tag}
use Rattle.yaml_definitions.specs.model.Unfold.{and_then, placed}
use Rattle.yaml_definitions.specs.model.Core.{resolve}
use Rattle.yaml_text.specs.EventModel.{written_of, style_of}
use Rattle.yaml_sink.specs.PropertyRules.{props_in}
use Rattle.yaml_tree.specs.ComposerSteps.{step, node_begun, whole, scalar_added}
use Rattle.yaml_tree_builder.proofs.builder.TreeBuilder.put_scalar.Goals as goal

pub returns-in-NonSpecific : goal.returns-in-NonSpecific
unfolding resolve step
returns-in-NonSpecific c = λ s h.
    let a = (props_in c.args.given.now).anchor in
    let x = cow_str_bytes c.args.text.now in
    let b = c.in_ok-place.ensures s h in
    let e : resolve (written_of c.args.given.now.tag) (style_of c.args.style) x ≡ Ok (str_tag, x) = ap (λ t. resolve (written_of t) (style_of c.args.style) x) c.in-NonSpecific.is in
    record {
      state = whole a (length s.table) (scalar str_tag x) (node_begun a s);
      is = ap (λ r. Some (and_then (placed 0 r) (scalar_added a s))) e;
      holds = c.in_ok-put_kind.ensures a (length s.table) (node_begun a s) b.0 b.1;
    }
