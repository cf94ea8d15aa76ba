use Rattle.std.proofs.Common.{◌≤◌, length, subst, refl}
use Rattle.yaml_text.proofs.Scan.{AsciiTo, ascii_front, ascii_border}
use Rattle.yaml_text.proofs.chars.ascii_len.Goals as goal

ran : (c : goal.After-front_len) → AsciiTo c.args.text.now c.front_len.result
ran c = ascii_front c.args.text.now c.as_bytes.result.now c.front_len.result c.utf8.text c.as_bytes.ensures.value c.front_len.ensures.len (λ k e. let f = c.front_len.ensures.front k e in (f.0 refl, f.1.0 refl))

pub returns-clause-scanned : goal.returns-clause-scanned
returns-clause-scanned c = (ran c).scanned

pub returns-clause-border : goal.returns-clause-border
returns-clause-border c = ascii_border c.args.text.now c.front_len.result (ran c) (subst (λ z. c.front_len.result ≤ length z) c.as_bytes.ensures.value c.front_len.ensures.len)
