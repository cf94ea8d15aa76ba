-- What writing an answer whole says where it fails.
use Rattle.std.specs.Prelude.{List, ℕ, Option}
use Rattle.yaml_text.specs.declared.fault.Fault.{Fault}
use Rattle.yaml_text.specs.declared.fault.Fault.TheVariants.{WriteFault}
use Rattle.yaml_text.specs.declared.counted.Counted.{Counted}
use Rattle.yaml_text.specs.Writers.{Broken}

-- the writer took a beginning of the text, and then a call failed
abbrev pub PrintFails : {W : Type 0} → (W → Option (List ℕ)) → Counted W → Counted W → List ℕ → Fault → Type 0
PrintFails contents old new text WriteFault = Broken contents old new text
PrintFails contents old new text _ = ⊥
