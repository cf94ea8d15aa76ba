use Rattle.std.proofs.Common.{◌++◌, subst}
use Rattle.std.specs.Prelude.{OnOk, IfErr, codes}
use Rattle.yaml_text.specs.Writers.{Printed}
use Rattle.yaml_command.specs.Printing.{PrintFails}
use Rattle.yaml_command.proofs.line.tell_lines.Goals as goal

pub returns-in-BadLine-clause-ok : goal.returns-in-BadLine-clause-ok
returns-in-BadLine-clause-ok g c =
    rw c.in-BadLine.is (subst (λ z. OnOk c.write_pieces.result (Printed g.E.Write.contents c.args.err.now c.write_pieces.new.err (codes "yaml: events: bad line " ++ z ++ codes "\n"))) c.format-number.ensures.text c.write_pieces.ensures.ok)

pub returns-in-BadLine-clause-err : goal.returns-in-BadLine-clause-err
returns-in-BadLine-clause-err g c =
    rw c.in-BadLine.is (subst (λ z. IfErr c.write_pieces.result (PrintFails g.E.Write.contents c.args.err.now c.write_pieces.new.err (codes "yaml: events: bad line " ++ z ++ codes "\n"))) c.format-number.ensures.text c.write_pieces.ensures.err)

pub returns-in-OutOfMemory-clause-ok : goal.returns-in-OutOfMemory-clause-ok
returns-in-OutOfMemory-clause-ok g c = rw c.in-OutOfMemory.is c.tell_fault.ensures.ok

pub returns-in-OutOfMemory-clause-err : goal.returns-in-OutOfMemory-clause-err
returns-in-OutOfMemory-clause-err g c = rw c.in-OutOfMemory.is c.tell_fault.ensures.err
