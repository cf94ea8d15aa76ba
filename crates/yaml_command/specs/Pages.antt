-- What a writer and a page have of a text that goes out page by page.
use Rattle.std.specs.Prelude.{◌≡◌, ℕ, List, ◌++◌, Option, String}
use Rattle.std.specs.String.{string_bytes}
use Rattle.yaml_text.specs.declared.fault.Fault.{Fault}
use Rattle.yaml_text.specs.declared.fault.Fault.TheVariants.{OutOfMemory}
use Rattle.yaml_text.specs.declared.counted.Counted.{Counted}
use Rattle.yaml_spell.specs.Writers.{Sent}
use Rattle.yaml_command.specs.Printing.{PrintFails}

module _ {W : Type 0} (contents : W → Option (List ℕ)) where
  -- The writer took the front of the text, and the page has the rest; no call failed.
  pub record PageHas {Z : Type 0} (page : String Z) (old new : Counted W) (text : List ℕ) : Type 0 where
    pub front : List ℕ
    pub sent : Sent contents old new front
    pub is : text ≡ front ++ string_bytes page

  -- why a text was not printed page by page: for want of memory no call of the writer was made
  abbrev pub PagesFail : Counted W → Counted W → List ℕ → Fault → Type 0
  PagesFail old new text OutOfMemory = new ≡ old
  PagesFail old new text fault = PrintFails contents old new text fault
