use Rattle.yaml_command.proofs.line.tell.Goals as goal

pub returns-in-CannotOpen-clause-ok : goal.returns-in-CannotOpen-clause-ok
returns-in-CannotOpen-clause-ok g c = rw c.in-CannotOpen.is c.write_pieces.ensures.ok

pub returns-in-CannotOpen-clause-err : goal.returns-in-CannotOpen-clause-err
returns-in-CannotOpen-clause-err g c = rw c.in-CannotOpen.is c.write_pieces.ensures.err

pub returns-in-EventText-clause-ok : goal.returns-in-EventText-clause-ok
returns-in-EventText-clause-ok g c = rw c.in-EventText.is c.tell_fault-in-EventText.ensures.ok

pub returns-in-EventText-clause-err : goal.returns-in-EventText-clause-err
returns-in-EventText-clause-err g c = rw c.in-EventText.is c.tell_fault-in-EventText.ensures.err
