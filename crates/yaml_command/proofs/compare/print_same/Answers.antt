use Rattle.std.proofs.Common.{◌∙◌, rules}
use Rattle.yaml_command.proofs.Answering.{same_broken}
use Rattle.yaml_command.proofs.compare.print_same.Goals as goal

pub returns-in_err-write_out-clause-err : goal.returns-in_err-write_out-clause-err
returns-in_err-write_out-clause-err g c =
    let f = same_broken g.W.Write.contents c.args.left.now c.args.right.now c.args.out.now c.write_out.new.out c.in_ok-alike.alike _ c.in_err-write_out.field-0.0 c.in_ok-alike.ensures.answer (c.as_bytes.ensures.value ∙ c.line_of.ensures) c.in_err-write_out.ensures.err in
    search (rules, f)
