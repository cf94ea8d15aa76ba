use Rattle.yaml_sum.proofs.telling.tell_halt.Goals as goal

pub returns-in-Fault-clause-err : goal.returns-in-Fault-clause-err
returns-in-Fault-clause-err g c = rw c.in-Fault.is c.tell_fault.ensures.err
