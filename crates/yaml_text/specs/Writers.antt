-- What writing a text whole does to a writer.
use Rattle.std.specs.Prelude.{◌≡◌, ℕ, ◌+◌, List, Option, take, true}
use Rattle.std.specs.Io.KnownBytes.{Appends}
use Rattle.yaml_text.specs.declared.counted.Counted.{Counted}
use Rattle.yaml_text.specs.CountedModel.{inner_of, faults_of, flushed_of}

module _ {W : Type 0} (contents : W → Option (List ℕ)) where
  -- The writer took the whole text and was flushed, and no call failed.
  pub record Printed (old new : Counted W) (text : List ℕ) : Type 0 where
    pub took : Appends (contents (inner_of old)) (contents (inner_of new)) text
    pub flushed : flushed_of new ≡ true
    pub counted : faults_of new ≡ faults_of old

  -- The writer took a beginning of the text, and then a call failed.
  pub record Broken (old new : Counted W) (text : List ℕ) : Type 0 where
    pub count : ℕ
    pub took : Appends (contents (inner_of old)) (contents (inner_of new)) (take count text)
    pub counted : faults_of new ≡ faults_of old + 1
