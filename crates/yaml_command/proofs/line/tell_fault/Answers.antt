use Rattle.std.proofs.Common.{◌≡◌, ◌∙◌, ◌++◌, ℕ, List, ap, subst, sym}
use Rattle.std.specs.Prelude.{OnOk, IfErr, codes}
use Rattle.yaml_text.specs.Writers.{Printed}
use Rattle.yaml_text.specs.declared.fault.Fault.{Fault}
use Rattle.yaml_message.specs.Words.{fault_message}
use Rattle.yaml_command.specs.Printing.{PrintFails}
use Rattle.yaml_command.specs.Refusals.{fault_line}
use Rattle.yaml_command.proofs.MessageLaws.{line-is-message}
use Rattle.yaml_command.proofs.line.tell_fault.Goals as goal

-- the pieces are the line
whole : (front message : List ℕ) (fault : Fault) → message ≡ fault_message fault → front ++ (message ++ codes "\n") ≡ fault_line front fault
whole front message fault e = ap (λ z. front ++ (z ++ codes "\n")) e ∙ sym (line-is-message front fault)

pub returns-clause-ok : goal.returns-clause-ok
returns-clause-ok g c =
    subst (λ z. OnOk c.write_pieces.result (Printed g.E.Write.contents c.args.err.now c.write_pieces.new.err z)) (whole c.args.front.now c.as_str.result.now c.args.fault (c.as_str.ensures.value ∙ c.message_of-message.ensures.bytes)) c.write_pieces.ensures.ok

pub returns-clause-err : goal.returns-clause-err
returns-clause-err g c =
    subst (λ z. IfErr c.write_pieces.result (PrintFails g.E.Write.contents c.args.err.now c.write_pieces.new.err z)) (whole c.args.front.now c.as_str.result.now c.args.fault (c.as_str.ensures.value ∙ c.message_of-message.ensures.bytes)) c.write_pieces.ensures.err
