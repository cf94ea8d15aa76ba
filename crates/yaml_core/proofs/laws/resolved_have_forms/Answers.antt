use Rattle.yaml_core.proofs.ResolvedForms as laws
use Rattle.yaml_core.proofs.laws.resolved_have_forms.Goals as goal

pub returns-clause-null : goal.returns-clause-null
returns-clause-null c = laws.gives_null

pub returns-clause-bool : goal.returns-clause-bool
returns-clause-bool c = laws.gives_bool

pub returns-clause-int : goal.returns-clause-int
returns-clause-int c = laws.gives_int

pub returns-clause-float : goal.returns-clause-float
returns-clause-float c = laws.gives_float
