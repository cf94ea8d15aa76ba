use Rattle.std.proofs.Common.{◌≡◌, ◌+◌, ◌++◌, map, take, drop}
use Rattle.yaml_event_text.proofs.starts.move_on.Given as goal

abbrev pub invariant-loop-start : goal.invariant-loop-start
invariant-loop-start l = l.starts ≡ map (λ at. at + l.by) (take l.start-index l.fn.starts) ++ drop l.start-index l.fn.starts
