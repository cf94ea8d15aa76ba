use Rattle.yaml_core.proofs.ContentForms as laws
use Rattle.yaml_core.proofs.laws.contents_have_forms.Goals as goal

pub returns-clause-null : goal.returns-clause-null
returns-clause-null c = laws.null_form_is

pub returns-clause-bool : goal.returns-clause-bool
returns-clause-bool c = laws.bool_form_is

pub returns-clause-int : goal.returns-clause-int
returns-clause-int c = laws.int_form_is

pub returns-clause-float : goal.returns-clause-float
returns-clause-float c = laws.float_form_is
