use Rattle.std.proofs.Common.{sym, ◌∙◌}
use Rattle.yaml_mark.specs.PrefixModel.{bytes_of}
use Rattle.yaml_mark.proofs.HandleLemmas.{some_alike}
use Rattle.yaml_mark.proofs.handles.Handles.binds.Goals as goal

pub returns : goal.returns
returns c = c.is_some.ensures ∙ sym (some_alike bytes_of _ _ c.get.ensures)
