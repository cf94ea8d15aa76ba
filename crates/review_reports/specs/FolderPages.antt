-- What a page of two folders has of each file, and what is written of it.
use Rattle.std.specs.Prelude.{◌≡◌, ◌⊎◌, ◌<◌, ℕ, max, length, List, [], ◌∷◌, ◌++◌, Option, Some, None, Result, Ok, Err, Vec, IfSome, true, codes, option_map, string_bytes}
use Rattle.std.specs.declared.alloc.Global.{Global}
use Rattle.yaml_text.specs.declared.fault.Fault.{Fault}
use Rattle.yaml_text.specs.declared.fault.Fault.TheVariants.{TooLong}
use Rattle.yaml_text.specs.declared.counted.Counted.{Counted}
use Rattle.yaml_text.specs.Writers.{Printed, Broken}
use Rattle.yaml_canon.specs.Claims.{CanonicalRefuses}
use Rattle.yaml_canon.specs.FaultPlaces.{TellsPlace}
use Rattle.review_patterns.specs.declared.pattern.Pattern.{Pattern}
use Rattle.review_text.specs.declared.options.Diff.{Diff}
use Rattle.review_text.specs.declared.options.Form.{Form}
use Rattle.review_text.specs.declared.options.Page.{Page}
use Rattle.review_text.specs.declared.options.Page.TheVariants.{Html, Markdown, Sarif, Github}
use Rattle.review_formats.specs.Findings.{sign_says}
use Rattle.review_formats.specs.LeftOut.{no_left_out}
use Rattle.review_formats.specs.declared.finding.Finding.{Finding}
use Rattle.review_formats.specs.declared.finding.Level.TheVariants as levels
use Rattle.review_formats.specs.declared.finding.Part.{Part}
use Rattle.review_formats.specs.declared.finding.Sides.{Sides}
use Rattle.review_formats.specs.declared.finding.Sign.{Sign}
use Rattle.review_formats.specs.declared.finding.Sign.TheVariants as signs
use Rattle.review_files.specs.Lines.{TakesLine}
use Rattle.review_files.specs.Told.{IsAccepted}
use Rattle.review_files.specs.declared.rejected.Named.{Named}
use Rattle.review_files.specs.declared.unread.Unread.{Unread}
use Rattle.review_files.specs.declared.unread.Unread.TheVariants as unread
use Rattle.review_reports.specs.Pages.{FindsFault}
use Rattle.review_reports.specs.Folders.{IsPath, AreEqual, AreCompared, AreRejected, NewTold}
use Rattle.review_reports.specs.Parts.{ListsAll, ShowsLines, IsPartsText}
use Rattle.review_reports.specs.declared.entry.Entry.{Entry}
use Rattle.review_reports.specs.declared.entry.Has.{Has}
use Rattle.review_reports.specs.declared.entry.Has.TheVariants.{Left, Both, Right}

-- ---- faults

-- the fault of bytes that are rejected
abbrev pub BytesFaults : List ℕ → List ℕ → List Finding → Type 0
BytesFaults name bytes list =
    (IsAccepted bytes × (list ≡ []))
    ⊎ ((fault : Fault) × CanonicalRefuses bytes fault × TellsPlace bytes fault × FindsFault name bytes fault list)

-- the same of what reading a file gave: a long file is rejected, and of another one that is not read nothing is found
abbrev pub AnswerFaults : List ℕ → Result (Vec ℕ Global) Unread → List Finding → Type 0
AnswerFaults name (Ok bytes) list = BytesFaults name bytes.items list
AnswerFaults name (Err (unread.Fault TooLong)) list = FindsFault name [] TooLong list
AnswerFaults name (Err _) list = list ≡ []

abbrev pub FileFaults : Named → List Finding → Type 0
FileFaults file list = AnswerFaults file.name.now file.answer.now list

-- ---- a file that one folder alone has

abbrev pub alone_rule : Sign → List ℕ
alone_rule signs.Left = codes "deleted-file"
alone_rule _ = codes "new-file"

-- a page of HTML may show the text of the file
abbrev pub ShowsSign : Page → Sign → Option Sides → Type 0
ShowsSign Html sign sides = IfSome sides (λ both. both.sign ≡ sign)
ShowsSign Markdown sign sides = sides ≡ None
ShowsSign Sarif sign sides = sides ≡ None
ShowsSign Github sign sides = sides ≡ None

pub record IsAlone (page : Page) (sign : Sign) (path : List ℕ) (one : Finding) : Type 0 where
  pub rule : one.rule.now ≡ alone_rule sign
  pub level : one.level ≡ levels.Note
  pub file : string_bytes one.file ≡ path
  pub place : one.place ≡ None
  pub node : one.path ≡ None
  pub message : string_bytes one.message ≡ sign_says sign
  pub line : one.line ≡ None
  pub sides : ShowsSign page sign one.sides

-- a whole list, without lines of files
pub record IsList (list : List Finding) (part : Part) : Type 0 where
  pub listed : part.list.items ≡ list
  pub unshown : part.shown ≡ None
  pub whole : part.left_out ≡ no_left_out

-- ---- one file

module _ (holds : List ℕ → Option (List ℕ)) where
  -- the differences of two files that are compared
  pub record ListsFound (asked : Diff) (ignored : List Pattern) (page : Page) (left right : List ℕ) (part : Part) (status : ℕ) : Type 0 where
    pub compared : AreCompared holds asked ignored left right status
    pub list : ListsAll left right compared.listed part.list.items
    pub shown : ShowsLines page left compared.first right compared.second part.shown
    pub left_out : part.left_out ≡ compared.listed.left_out

  -- the faults of two files that are not
  pub record RejectedFound (form : Form) (left right : List ℕ) (part : Part) (err : List ℕ) (status : ℕ) : Type 0 where
    pub rejected : AreRejected holds form left right err status
    pub first : List Finding
    pub second : List Finding
    pub of_left : FileFaults rejected.one first
    pub of_right : FileFaults rejected.other second
    pub list : IsList (first ++ second) part

  abbrev pub BothFound : Diff → List Pattern → Page → List ℕ → Part → List ℕ → ℕ → Type 0
  BothFound asked ignored page name part err status =
      (left : List ℕ) × (right : List ℕ) × IsPath asked.left.now name left × IsPath asked.right.now name right
      × ((AreEqual holds left right status × IsList [] part × (err ≡ []))
      ⊎ ((ListsFound asked ignored page left right part status × (err ≡ [])) ⊎ RejectedFound asked.form left right part err status))

  -- a file that the left folder alone has
  pub record DeletedFound (asked : Diff) (page : Page) (name : List ℕ) (part : Part) (err : List ℕ) (status : ℕ) : Type 0 where
    pub path : List ℕ
    pub is_path : IsPath asked.left.now name path
    pub one : Finding
    pub alone : IsAlone page signs.Left path one
    pub list : IsList (one ∷ []) part
    pub untold : err ≡ []
    pub differs : status ≡ 1

  -- one that the right folder alone has, and its fault if it is rejected
  pub record NewFound (asked : Diff) (page : Page) (name : List ℕ) (part : Part) (err : List ℕ) (status : ℕ) : Type 0 where
    pub told : NewTold holds asked name err status
    pub one : Finding
    pub alone : IsAlone page signs.Right told.file.name.now one
    pub faults : List Finding
    pub of : FileFaults told.file faults
    pub list : IsList (one ∷ faults) part

  abbrev pub HasFound : Has → Diff → List Pattern → Page → List ℕ → Part → List ℕ → ℕ → Type 0
  HasFound Left asked ignored page name part err status = DeletedFound asked page name part err status
  HasFound Both asked ignored page name part err status = BothFound asked ignored page name part err status
  HasFound Right asked ignored page name part err status = NewFound asked page name part err status

-- ---- files in turn

-- a part of this name
pub record IsNamed (name : List ℕ) (found part : Part) : Type 0 where
  pub named : option_map string_bytes part.name ≡ Some name
  pub list : part.list ≡ found.list
  pub shown : part.shown ≡ found.shown
  pub left_out : part.left_out ≡ found.left_out

-- there is a part of a file if something is found in it
abbrev pub HasPart : List ℕ → Part → List Part → Type 0
HasPart name found parts = ((found.list.items ≡ []) × (parts ≡ [])) ⊎ ((part : Part) × (0 < length found.list.items) × IsNamed name found part × (parts ≡ part ∷ []))

module _ {E : Type 0} (holds : List ℕ → Option (List ℕ)) (told : E → Option (List ℕ)) where
  -- The parts are in the order of the names, and the status is the greatest of all. Standard error takes what is told of each file.
  abbrev pub FindsParts : Diff → List Pattern → Page → List Entry → List Part → E → E → ℕ → Type 0
  FindsParts asked ignored page [] parts before after status = (parts ≡ []) × (after ≡ before) × (status ≡ 0)
  FindsParts asked ignored page (entry ∷ entries) parts before after status =
      (found : Part) × (err : List ℕ) × (own : List Part) × (more : List Part) × (between : E) × (first : ℕ) × (rest : ℕ)
      × HasFound holds entry.has asked ignored page entry.name.now found err first × TakesLine told before between err × HasPart entry.name.now found own
      × FindsParts asked ignored page entries more between after rest × (parts ≡ own ++ more) × (status ≡ max first rest)

-- ---- what is written

module _ {W : Type 0} (contents : W → Option (List ℕ)) where
  -- The text of the parts, if any line is asked for. Or the output fails behind a beginning of it, or nothing is written because memory is refused.
  abbrev pub WritesParts : Diff → Page → List Part → Counted W → Counted W → ℕ → ℕ → Type 0
  WritesParts asked page parts old new found status =
      ((asked.lines ≡ 0) × (new ≡ old) × (status ≡ found))
      ⊎ (((text : List ℕ) × (0 < asked.lines) × IsPartsText asked.left.now asked.right.now page parts text × Printed contents old new text × (status ≡ found))
      ⊎ (((text : List ℕ) × IsPartsText asked.left.now asked.right.now page parts text × Broken contents old new text × (status ≡ max found 3))
      ⊎ ((new ≡ old) × (status ≡ max found 2))))

module _ {W E : Type 0} (holds : List ℕ → Option (List ℕ)) (contents : W → Option (List ℕ)) (told : E → Option (List ℕ)) where
  -- The page has the parts of all files. Or nothing is written because memory is refused.
  abbrev pub FolderShows : Diff → List Pattern → Page → List Entry → Counted W → Counted W → E → ℕ → Type 0
  FolderShows asked ignored page entries old new before status =
      ((parts : List Part) × (between : E) × (found : ℕ) × FindsParts holds told asked ignored page entries parts before between found × WritesParts contents asked page parts old new found status)
      ⊎ ((new ≡ old) × (status ≡ 2))
