use Rattle.yaml_path.proofs.CharLaws.{counted}
use Rattle.yaml_path.proofs.place_laws.columns_count_characters.Goals as goal

pub returns : goal.returns
returns c = counted
