use Rattle.std.proofs.Common.{◌≡◌, ◌++◌, ℕ, List, sym, ◌∙◌, subst}
use Rattle.std.specs.Prelude.{codes, OnOk, IfErr}
use Rattle.std.proofs.lemmas.List.{append_assoc}
use Rattle.yaml_text.specs.Writers.{Printed}
use Rattle.yaml_command.specs.Printing.{PrintFails}
use Rattle.yaml_sum.proofs.telling.tell_unread.Goals as goal

rest-of : (name why : List ℕ) → name ++ codes ": " ++ why ++ codes "\n" ≡ name ++ (codes ": " ++ (why ++ codes "\n"))
rest-of name why = append_assoc (name ++ codes ": ") why (codes "\n") ∙ append_assoc name (codes ": ") (why ++ codes "\n")

pub returns-clause-ok : goal.returns-clause-ok
returns-clause-ok g c = subst (λ z. OnOk c.write_pieces.result (Printed g.E.Write.contents c.args.err.now c.write_pieces.new.err (codes "yamlreview: " ++ z))) (sym (rest-of c.args.name.now c.args.why.now)) c.write_pieces.ensures.ok

pub returns-clause-err : goal.returns-clause-err
returns-clause-err g c = subst (λ z. IfErr c.write_pieces.result (PrintFails g.E.Write.contents c.args.err.now c.write_pieces.new.err (codes "yamlreview: " ++ z))) (sym (rest-of c.args.name.now c.args.why.now)) c.write_pieces.ensures.err
