use Rattle.std.proofs.Common.{sym, ◌∙◌, ap, arith}
use Rattle.std.specs.Prelude.{Some, None}
use Rattle.std.proofs.lemmas.Str.Pattern.{strip_suffix_char}
use Rattle.yaml_show_scalar.specs.Scalars.{body}
use Rattle.yaml_show_scalar.proofs.TextLaws.{body_some, body_none}
use Rattle.yaml_show_scalar.proofs.lines.body_of.Goals as goal

pub returns-in-Some : goal.returns-in-Some
returns-in-Some c =
    let x = c.in-Some.body in
    let e = strip_suffix_char 10 c.args.content.now (Some x) c.in-Some.ensures.cases (omega arith) in
    sym (ap body e ∙ body_some x.now)

pub returns-in-None : goal.returns-in-None
returns-in-None c = sym (body_none c.args.content.now (strip_suffix_char 10 c.args.content.now None c.in-None.ensures.cases (omega arith)))
