-- What writing a piece whole does to a writer.
use Rattle.std.specs.Prelude.{◌≡◌, ℕ, List, Option, take}
use Rattle.std.specs.Io.KnownBytes.{Appends}
use Rattle.yaml_text.specs.declared.fault.Fault.{Fault}
use Rattle.yaml_text.specs.declared.fault.Fault.TheVariants.{WriteFault}
use Rattle.yaml_text.specs.declared.counted.Counted.{Counted}
use Rattle.yaml_text.specs.Count.{one_more}
use Rattle.yaml_text.specs.CountedModel.{inner_of, faults_of}

module _ {W : Type 0} (contents : W → Option (List ℕ)) where
  -- the writer took it whole, and no call failed
  pub record Sent (old new : Counted W) (piece : List ℕ) : Type 0 where
    pub took : Appends (contents (inner_of old)) (contents (inner_of new)) piece
    pub counted : faults_of new ≡ faults_of old

  -- the writer took a beginning of it, and then a call failed
  pub record CutOff (old new : Counted W) (piece : List ℕ) (fault : Fault) : Type 0 where
    pub is : fault ≡ WriteFault
    pub count : ℕ
    pub took : Appends (contents (inner_of old)) (contents (inner_of new)) (take count piece)
    pub counted : faults_of new ≡ one_more (faults_of old)
