use Rattle.yaml_json.proofs.Words.{word_found, word_lacks}
use Rattle.yaml_json.proofs.bytes.after_word.Goals as goal

pub returns-clause-some : goal.returns-clause-some
returns-clause-some c = word_found _ _ c.strip_prefix.result c.strip_prefix.ensures.cases

pub returns-clause-none : goal.returns-clause-none
returns-clause-none c = word_lacks _ _ c.strip_prefix.result c.strip_prefix.ensures.cases
