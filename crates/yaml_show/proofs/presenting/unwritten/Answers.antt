use Rattle.std.proofs.Common.{sym, subst}
use Rattle.yaml_definitions.specs.model.Limits.{text_limit}
use Rattle.yaml_show.specs.JsonTrees.{Lacks, Overruns}
use Rattle.yaml_show.specs.Lines.{all_have_json}
use Rattle.yaml_show.specs.Refused.{LinesRefuse, lines_text}
use Rattle.yaml_show.proofs.ShownLaws.{stop_lines}
use Rattle.yaml_show.proofs.presenting.unwritten.Goals as goal

pub returns-in-Stopped : goal.returns-in-Stopped
returns-in-Stopped c = λ bytes f m h o. subst (LinesRefuse bytes) (sym c.stopped.ensures) (stop_lines bytes f c.in-Stopped.stop m (subst (Overruns text_limit (lines_text f)) c.in-Stopped.is o))

pub returns-in-NoJson : goal.returns-in-NoJson
returns-in-NoJson c = λ bytes f m h o. (f, m, subst (λ z. Lacks (all_have_json f) z) c.in-NoJson.is (h f m))
