-- How a refusal is told.
use Rattle.std.specs.Prelude.{Result, Ok, Err, OnOk, IfErr}
use Rattle.std.proofs.Common.{◌⊎◌, List, ℕ, Option, inl, inr}
use Rattle.yaml_text.specs.declared.fault.Fault.{Fault}
use Rattle.yaml_text.specs.declared.fault.Fault.TheVariants.{WriteFault}
use Rattle.yaml_text.specs.declared.counted.Counted.{Counted}
use Rattle.yaml_text.specs.Writers.{Printed, Broken}
use Rattle.yaml_command.specs.Printing.{PrintFails}

-- the line goes out whole, or the writer fails behind a beginning of it
pub told_either : {T E : Type 0} (contents : E → Option (List ℕ)) (old new : Counted E) (text : List ℕ) (r : Result T Fault) → OnOk r (Printed contents old new text) → IfErr r (PrintFails contents old new text) → Printed contents old new text ⊎ Broken contents old new text
told_either contents old new text (Ok x) h k = inl h
told_either contents old new text (Err WriteFault) h k = inr k
told_either contents old new text (Err _) h k = absurd k
