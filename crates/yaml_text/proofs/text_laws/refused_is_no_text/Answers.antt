use Rattle.yaml_text.proofs.RefusedText.{refused_is_no_text}
use Rattle.yaml_text.proofs.text_laws.refused_is_no_text.Goals as goal

pub returns : goal.returns
returns c = refused_is_no_text
