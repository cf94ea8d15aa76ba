use Rattle.yaml_text.specs.Source.{text_of}
use Rattle.yaml_text.proofs.Breaks.{run_join}
use Rattle.yaml_mark.specs.Classes.{class_of}
use Rattle.yaml_mark.proofs.runs.skip_run.Goals as goal

pub returns-in-None-clause-run : goal.returns-in-None-clause-run
returns-in-None-clause-run c = run_join (text_of c.args.source.now) (class_of c.args.class) _ _ _ c.skip_ascii-here.ensures.run c.skip_decoded.ensures.run
