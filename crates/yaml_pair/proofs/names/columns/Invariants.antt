use Rattle.std.proofs.Common.{◌≡◌, ◌++◌, ◌∷◌, map, take}
use Rattle.yaml_pair.specs.Names.{by_object, by_path}
use Rattle.yaml_pair.specs.Named.{naming_of, texts_of}
use Rattle.yaml_pair.proofs.names.columns.Given as goal

abbrev pub invariant-loop-path : goal.invariant-loop-path
invariant-loop-path l = map naming_of l.columns.items ≡ map by_path (texts_of (take l.path-index l.path-items))

abbrev pub invariant-loop-key : goal.invariant-loop-key
invariant-loop-key l = map naming_of l.columns.items ≡ map by_path (texts_of l.fn.asked.by.now) ++ (by_object ∷ map by_path (texts_of (take l.key-index l.key-items)))
