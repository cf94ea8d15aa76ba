use Rattle.std.proofs.Common.{rules, arith}
use Rattle.yaml_text.proofs.Scan.{text_read}
use Rattle.yaml_text.proofs.chars.Chars.read.Goals as goal

pub returns-in-None-clause-read : goal.returns-in-None-clause-read
returns-in-None-clause-read c = text_read _ _ (omega (arith, c.if-bytes-text_limit.false, c.text_limit.ensures)) (search rules) c.in-None.ensures
