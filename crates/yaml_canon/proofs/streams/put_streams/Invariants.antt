use Rattle.std.proofs.Common.{◌++◌, ℕ, List, map, take}
use Rattle.yaml_canon.specs.Streams.{Reached}
use Rattle.yaml_canon.proofs.streams.put_streams.Given as goal

abbrev pub invariant-loop-place : goal.invariant-loop-place
invariant-loop-place g l = (before : List (List ℕ)) → Reached g.K.Keeper.holds before l.initial.kept l.initial.ends → Reached g.K.Keeper.holds (before ++ map (λ it. it.now) (take l.place l.others)) l.kept l.ends
