use Rattle.std.proofs.Common.{◌≡◌, drop}
use Rattle.yaml_show_scalar.specs.Scalars.{leads_blank}
use Rattle.yaml_show_scalar.proofs.scalar.leads_blank.Given as goal

abbrev pub invariant-loop-byte : goal.invariant-loop-byte
invariant-loop-byte l = leads_blank (drop l.byte-index l.content) ≡ leads_blank l.content
