use Rattle.std.proofs.Common.{◌∙◌, rules}
use Rattle.yaml_command.proofs.FileLaws.{match_broken}
use Rattle.yaml_command.proofs.check.print_match.Goals as goal

pub returns-in_err-write_out-clause-err : goal.returns-in_err-write_out-clause-err
returns-in_err-write_out-clause-err g c =
    let f = match_broken g.W.Write.contents c.args.input.now c.args.lines.now c.args.out.now c.write_out.new.out c.in_ok-matches.matches _ c.in_err-write_out.field-0.0 c.in_ok-matches.ensures.ok (c.as_bytes.ensures.value ∙ c.line_of.ensures) c.in_err-write_out.ensures.err in
    search (rules, f)
