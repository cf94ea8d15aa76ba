use Rattle.yaml_tree.proofs.FirstRepeats.{first-repeat}
use Rattle.law_store_keys.proofs.laws.first_repeat_is_streams.Goals as goal

pub returns : goal.returns
returns c = λ v trees numbers closed long are numbered n k first second is r. first-repeat v trees numbers closed long are numbered n k is r.within first second r
