use Rattle.yaml_text.specs.Source.{text_of}
use Rattle.yaml_text.proofs.Repeats.{any_start}
use Rattle.yaml_scalar.proofs.IndentationLemmas.{given_is, given_none}
use Rattle.yaml_scalar.proofs.block.lines.read_start.Goals as goal

pub returns-then-col-eq0-clause-none : goal.returns-then-col-eq0-clause-none
returns-then-col-eq0-clause-none c = given_none (text_of c.args.source.now) _ _ _ _ c.in-Some.is c.if-col-eq0.true

pub returns-else-col-eq0-clause-indentation : goal.returns-else-col-eq0-clause-indentation
returns-else-col-eq0-clause-indentation c = given_is (text_of c.args.source.now) _ _ _ _ c.in-Some.is c.if-col-eq0.false

pub returns-else-col-eq0-clause-empty : goal.returns-else-col-eq0-clause-empty
returns-else-col-eq0-clause-empty c = any_start
