-- Which fault it is that a sink meets.
use Rattle.yaml_text.specs.declared.fault.Fault.{Fault}
use Rattle.yaml_text.specs.declared.fault.Fault.TheVariants as fault
use Rattle.yaml_spell.specs.declared.stop.Stop.{Stop}
use Rattle.yaml_spell.specs.declared.stop.Stop.TheVariants.{TextTooLong, OutOfMemory, WriteFault}

abbrev pub fault_of : Stop → Fault
fault_of TextTooLong = fault.TextTooLong
fault_of OutOfMemory = fault.OutOfMemory
fault_of WriteFault = fault.WriteFault
