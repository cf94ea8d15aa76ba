-- A difference as JSON.
use Rattle.std.specs.Prelude.{◌≡◌, Option, Some, None, String, string_bytes}
use Rattle.std.specs.declared.alloc.Global.{Global}
use Rattle.yaml_store_rank.specs.Forests.{Forests, tree}
use Rattle.yaml_tree.specs.declared.node.NodeId.{NodeId}
use Rattle.yaml_diff.specs.Lines.{way_of}
use Rattle.yaml_diff.specs.declared.difference.Difference.{Difference}
use Rattle.review_paths.specs.Json.{steps_json}
use Rattle.review_paths.specs.Values.{IsValueOf}
use Rattle.review_paths.specs.declared.members.Members.{Members}

-- the value of a node, if one is told; of no node none is
abbrev pub SaysNode : Forests → Option NodeId → Option (String Global) → Type 0
SaysNode g i None = Unit {0}
SaysNode g None (Some s) = ⊥
SaysNode g (Some i) (Some s) = IsValueOf (tree g i.0) (string_bytes s)

-- the path of the difference, and the values of its nodes
pub record SaysMembers (g : Forests) (d : Difference) (m : Members) : Type 0 where
  pub steps : string_bytes m.steps ≡ steps_json (way_of g d.path.items)
  pub left : SaysNode g d.left m.left
  pub right : SaysNode g d.right m.right
