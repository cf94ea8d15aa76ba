use Rattle.std.proofs.Common.{◌≡◌, ◌<◌, ◌==◌, length, map, drop}
use Rattle.std.specs.Prelude.{Some}
use Rattle.std.specs.List.{slice_split}
use Rattle.yaml_store_rank.specs.Forests.{count, tree}
use Rattle.yaml_path.specs.Path.{reach}
use Rattle.yaml_pair.specs.Names.{to_key, found_at}
use Rattle.yaml_pair.proofs.names.found_at.Given as goal

abbrev pub invariant-loop-key : goal.invariant-loop-key
invariant-loop-key l =
    l.fn.item.0 < count l.fn.forests → (l.node.0 < count l.fn.forests) × (reach (Some (tree l.fn.forests l.node.0)) (map to_key (drop (length l.yielded) (slice_split (λ b. b == 46) l.path))) ≡ found_at (tree l.fn.forests l.fn.item.0) l.path)
