use Rattle.std.proofs.Common.{Global, arith, ap, length}
use Rattle.std.specs.Prelude.{codes}
use Rattle.std.specs.Cow.{cow_str_bytes}
use Rattle.yaml_events.proofs.LineLengths.{encoded_short}
use Rattle.yaml_events.proofs.length.tag_len.Goals as goal

pub returns-in-Full : goal.returns-in-Full
returns-in-Full c = rw c.in-Full.is (omega (arith, encoded_short (cow_str_bytes {Z = Global} c.in-Full.full) (codes ">"), ap length c.as_str.ensures.value))
