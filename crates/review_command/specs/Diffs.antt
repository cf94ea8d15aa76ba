-- What `diff` promises.
use Rattle.std.specs.Prelude.{◌≡◌, ◌⊎◌, ◌<◌, ℕ, Bool, cond, List, [], ◌∷◌, Option, None}
use Rattle.yaml_text.specs.declared.counted.Counted.{Counted}
use Rattle.yaml_canon.specs.Comparing.{Compares}
use Rattle.yaml_text.specs.Writers.{Printed}
use Rattle.review_patterns.specs.declared.pattern.Pattern.{Pattern}
use Rattle.review_text.specs.declared.options.Diff.{Diff}
use Rattle.review_text.specs.declared.options.Page.{Page}
use Rattle.review_formats.specs.declared.finding.Part.{Part}
use Rattle.review_reports.specs.Parts.{ListsAll, ShowsLines, IsPartsText}
use Rattle.review_lines.specs.declared.listed.Listed.{Listed}
use Rattle.review_compare.specs.Compared.{DiffLines, DiffLists}
use Rattle.review_files.specs.Named.{AreNamed}

-- The two files of these names are accepted, the lines of their differences were written and nothing else. The status is 0 if no difference is left, and else 1; without patterns it is 0 if their streams are the same, and else 1.
pub record DiffTells {W : Type 0} (holds : List ℕ → Option (List ℕ)) (rest : Option (List ℕ)) (contents : W → Option (List ℕ)) (asked : Diff) (ignored : List Pattern) (old new : Counted W) (status : ℕ) : Type 0 where
  pub first : List ℕ
  pub second : List ℕ
  pub named : AreNamed holds rest asked.left.now asked.right.now first second
  pub answer : Bool
  pub compares : ignored ≡ [] → Compares first second answer
  pub told : status ≡ cond answer 0 1
  pub text : List ℕ
  pub lines : DiffLines first second asked ignored answer text
  pub printed : Printed contents old new text

-- what a page has of two files with these bytes: all that is listed and, if the page shows them, the lines of both
pub record IsFilePart (asked : Diff) (page : Page) (first second : List ℕ) (listed : Listed) (part : Part) : Type 0 where
  pub unnamed : part.name ≡ None
  pub list : ListsAll asked.left.now asked.right.now listed part.list.items
  pub shown : ShowsLines page asked.left.now first asked.right.now second part.shown
  pub left_out : part.left_out ≡ listed.left_out

-- The text is a page with that part alone; there is none where no line is asked for.
abbrev pub IsFilePage : Diff → Page → List ℕ → List ℕ → Listed → List ℕ → Type 0
IsFilePage asked page first second listed text =
    ((asked.lines ≡ 0) × (text ≡ []))
    ⊎ ((0 < asked.lines) × ((part : Part) × IsFilePart asked page first second listed part × IsPartsText asked.left.now asked.right.now page (part ∷ []) text))

-- The same of a page: the two files of these names are accepted, their differences were listed, and the page was written. The status is that of `DiffTells`.
pub record DiffShows {W : Type 0} (holds : List ℕ → Option (List ℕ)) (rest : Option (List ℕ)) (contents : W → Option (List ℕ)) (asked : Diff) (page : Page) (ignored : List Pattern) (old new : Counted W) (status : ℕ) : Type 0 where
  pub first : List ℕ
  pub second : List ℕ
  pub named : AreNamed holds rest asked.left.now asked.right.now first second
  pub listed : Listed
  pub lists : DiffLists first second asked ignored listed
  pub compares : ignored ≡ [] → Compares first second listed.same
  pub told : status ≡ cond listed.same 0 1
  pub text : List ℕ
  pub is : IsFilePage asked page first second listed text
  pub printed : Printed contents old new text
