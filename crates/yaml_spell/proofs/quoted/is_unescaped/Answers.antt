use Rattle.std.proofs.Common.{subst}
use Rattle.yaml_spell.specs.Quoted.{AllPlain, SomeOther}
use Rattle.yaml_spell.proofs.QuotedLaws.{plain_whole}
use Rattle.yaml_spell.proofs.quoted.is_unescaped.Goals as goal

pub returns-clause-yes : goal.returns-clause-yes
returns-clause-yes c = λ e. plain_whole c.args.text.now c.utf8.text (subst AllPlain c.as_bytes.ensures.value (c.all_plain.ensures.yes e))

pub returns-clause-no : goal.returns-clause-no
returns-clause-no c = λ e. subst SomeOther c.as_bytes.ensures.value (c.all_plain.ensures.no e)
