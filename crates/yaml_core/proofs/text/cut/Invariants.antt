use Rattle.std.proofs.Common.{◌≡◌, take, drop}
use Rattle.yaml_definitions.specs.model.Core.{split_at}
use Rattle.yaml_core.specs.Delimiter.{is_delimiter}
use Rattle.yaml_core.proofs.CutLemmas.{after_front}
use Rattle.yaml_core.proofs.text.cut.Given as goal

abbrev pub invariant-loop-at : goal.invariant-loop-at
invariant-loop-at l = split_at (is_delimiter l.mark) l.bytes ≡ after_front (take l.at l.bytes) (split_at (is_delimiter l.mark) (drop l.at l.bytes))
