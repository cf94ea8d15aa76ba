-- The faults of this crate's calls: each but want of memory means that P holds.
use Rattle.yaml_text.specs.declared.fault.Fault.{Fault}
use Rattle.yaml_text.specs.declared.fault.Fault.TheVariants as fault

abbrev pub NameRefuses : Fault → Type 0 → Type 0
NameRefuses (fault.Syntax at) P = P
NameRefuses _ P = ⊥

abbrev pub TagRefuses : Fault → Type 0 → Type 0
TagRefuses (fault.Syntax at) P = P
TagRefuses (fault.UnknownHandle at) P = P
TagRefuses (fault.BadTag at) P = P
TagRefuses fault.OutOfMemory P = Unit {0}
TagRefuses _ P = ⊥

abbrev pub DirectivesRefuse : Fault → Type 0 → Type 0
DirectivesRefuse (fault.Syntax at) P = P
DirectivesRefuse (fault.Tab at) P = P
DirectivesRefuse (fault.BadDirective at) P = P
DirectivesRefuse fault.OutOfMemory P = Unit {0}
DirectivesRefuse _ P = ⊥
