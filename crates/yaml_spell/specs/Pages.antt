-- What a page and the writer behind it hold of a text.
use Rattle.std.specs.Prelude.{◌≡◌, ℕ, ◌++◌, List, Option, take}
use Rattle.std.specs.Io.KnownBytes.{Appends}
use Rattle.yaml_text.specs.declared.fault.Fault.{Fault}
use Rattle.yaml_text.specs.declared.fault.Fault.TheVariants.{WriteFault}
use Rattle.yaml_text.specs.declared.counted.Counted.{Counted}
use Rattle.yaml_text.specs.Count.{one_more}
use Rattle.yaml_text.specs.CountedModel.{inner_of, faults_of}
use Rattle.yaml_spell.specs.Pieces.{Began}
use Rattle.yaml_spell.specs.declared.page.Page.{Page}

abbrev pub page_len : Page → ℕ
page_len p = p.len

-- what is still to be written
abbrev pub page_bytes : Page → List ℕ
page_bytes p = take p.len p.bytes

module _ {W : Type 0} (contents : W → Option (List ℕ)) where
  -- The writer has the front of the text, and the page the rest; no call failed since writing began.
  pub record PageHolds (p : Page) (o : Counted W) (b : Began) (xs : List ℕ) : Type 0 where
    pub front : List ℕ
    pub sent : Appends b.held (contents (inner_of o)) front
    pub is : xs ≡ front ++ page_bytes p
    pub counted : faults_of o ≡ b.number

  -- The writer has a beginning of the text, and then a call failed.
  pub record PageStops (o : Counted W) (b : Began) (fault : Fault) (xs : List ℕ) : Type 0 where
    pub is : fault ≡ WriteFault
    pub count : ℕ
    pub sent : Appends b.held (contents (inner_of o)) (take count xs)
    pub counted : faults_of o ≡ one_more b.number
