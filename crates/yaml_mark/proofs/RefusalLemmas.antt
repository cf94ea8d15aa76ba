-- The faults of directives.
use Rattle.yaml_text.specs.declared.fault.Fault.{Fault}
use Rattle.yaml_text.specs.declared.fault.Fault.TheVariants as fault
use Rattle.yaml_mark.specs.MarkFaults.{DirectivesRefuse}
use Rattle.yaml_mark.specs.DirectiveParts.{IsMalformed}

pub malformed_refuses : {P : Type 0} (e : Fault) → IsMalformed e → P → DirectivesRefuse e P
malformed_refuses {P} (fault.Tab at) m p = p
malformed_refuses {P} (fault.BadDirective at) m p = p
malformed_refuses {P} _ m p = absurd m
