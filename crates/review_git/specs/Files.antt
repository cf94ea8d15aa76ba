-- What is printed of the two files of a pair.
use Rattle.std.specs.Prelude.{◌≡◌, ◌⊎◌, ◌==◌, ℕ, Bool, true, false, cond, List, [], ◌++◌, Option, Result, Ok, IfOk, IfErr, Vec, codes, bytes_eq}
use Rattle.std.specs.Str.{IsUtf8}
use Rattle.std.specs.List.{before_first}
use Rattle.std.specs.declared.alloc.Global.{Global}
use Rattle.yaml_text.specs.declared.side.Side.{Side as Of}
use Rattle.yaml_canon.specs.Comparing.{Compares}
use Rattle.yaml_command.specs.Shelves.{IsOf}
use Rattle.review_text.specs.declared.options.Diff.{Diff}
use Rattle.review_text.specs.declared.options.Form.TheVariants.{Line}
use Rattle.review_text.specs.declared.options.Paths.TheVariants.{Plain}
use Rattle.review_text.specs.Terminal.{terminal}
use Rattle.review_compare.specs.Compared.{DiffLines}
use Rattle.review_files.specs.Named.{IsUnread, NotBothRead}
use Rattle.review_files.specs.Told.{TellsBoth, TellsNotCompared}
use Rattle.review_files.specs.declared.rejected.Named.{Named}
use Rattle.review_files.specs.declared.unread.Unread.{Unread}
use Rattle.review_git.specs.Shown.{TellsShown}
use Rattle.review_git.specs.declared.asked.Side.{Side}
use Rattle.review_git.specs.declared.asked.Style.{Style}
use Rattle.review_git.specs.declared.asked.Style.TheVariants.{Differences, Shown}

-- what reading a file gave
abbrev pub IsAnswer : Option (List ℕ) → Result (Vec ℕ Global) Unread → Type 0
IsAnswer held answer = IfOk answer (λ v. IsOf held v.items) × IfErr answer (IsUnread held)

-- the file of a side by the name that is printed, and what reading it gave
pub record IsFileOf (holds : List ℕ → Option (List ℕ)) (side : Side) (name : List ℕ) (file : Named) : Type 0 where
  pub named : file.name.now ≡ name
  pub is : IsAnswer (holds side.file.now) file.answer.now

-- both files are read
pub record AreRead (left right : Named) (first second : List ℕ) : Type 0 where
  pub one : Vec ℕ Global
  pub other : Vec ℕ Global
  pub left_is : left.answer.now ≡ Ok one
  pub right_is : right.answer.now ≡ Ok other
  pub first_is : first ≡ one.items
  pub second_is : second ≡ other.items

-- Not both are read, and of each it is told why it is not or is rejected.
abbrev pub TellsUnread : Named → Named → List ℕ → Type 0
TellsUnread left right text = NotBothRead left.answer.now right.answer.now × ((status : ℕ) × TellsBoth Line left right text status)

-- ---- differences

-- what is asked of `diff`: lines with their places, a thousand at most, in colour or not
pub record AsksLines (left right : List ℕ) (is_color : Bool) (asked : Diff) : Type 0 where
  pub left_is : asked.left.now ≡ left
  pub right_is : asked.right.now ≡ right
  pub places : asked.places ≡ true
  pub whole : asked.whole ≡ false
  pub lines : asked.lines ≡ 1000
  pub form : asked.form ≡ Line
  pub context : asked.context ≡ 0
  pub color : asked.color ≡ is_color
  pub stat : asked.stat ≡ false
  pub by_position : asked.by_position ≡ false
  pub by : asked.by.now ≡ []
  pub folds : asked.folds ≡ true
  pub plain_paths : asked.paths ≡ Plain

-- Both files are accepted, and the text is the lines of `diff`, none if the files mean the same.
pub record Differ (is_color : Bool) (left right : Named) (first second text : List ℕ) : Type 0 where
  pub asked : Diff
  pub asks : AsksLines left.name.now right.name.now is_color asked
  pub same : Bool
  pub compares : Compares first second same
  pub lines : DiffLines first second asked [] same text
  pub none : same ≡ true → text ≡ []

-- Or they are not compared: of each that is rejected it is told why, and of others that memory is refused.
abbrev pub TellsDifferences : Bool → Named → Named → List ℕ → List ℕ → List ℕ → Type 0
TellsDifferences is_color left right first second text = Differ is_color left right first second text ⊎ ((side : Of) × (status : ℕ) × TellsNotCompared Line left right side text status)

-- lines of what `show` writes, or differences
abbrev pub TellsRead : Style → Named → Named → List ℕ → List ℕ → List ℕ → Type 0
TellsRead Shown left right first second text = TellsShown left.name.now right.name.now first second text
TellsRead (Differences is_color) left right first second text = TellsDifferences is_color left right first second text

abbrev pub TellsFiles : Style → Named → Named → List ℕ → Type 0
TellsFiles style left right text = TellsUnread left right text ⊎ ((first : List ℕ) × (second : List ℕ) × AreRead left right first second × TellsRead style left right first second text)

-- ---- links and submodules

-- git puts this before the commit of a submodule
abbrev pub commit_words : List ℕ
commit_words = codes "Subproject commit "

abbrev pub IsBehind : List ℕ → List ℕ → Type 0
IsBehind line target = (line ≡ commit_words ++ target) ⊎ (((rest : List ℕ) → line ≡ commit_words ++ rest → ⊥) × (target ≡ line))

-- Where a link leads, or the commit of a submodule: the first line of a text. Bytes that are no text are not shown.
abbrev pub IsTarget : List ℕ → List ℕ → Type 0
IsTarget bytes target = (IsUtf8 bytes × IsBehind (before_first (λ b. b == 10) bytes) target) ⊎ ((IsUtf8 bytes → ⊥) × (target ≡ []))

-- what the old and the new one are, if they are different
abbrev pub targets_line : List ℕ → List ℕ → List ℕ → List ℕ
targets_line words old new = cond (bytes_eq old new) [] (words ++ (terminal old ++ (codes " -> " ++ (terminal new ++ codes "\n"))))

pub record TellsTargets (words first second text : List ℕ) : Type 0 where
  pub old : List ℕ
  pub new : List ℕ
  pub old_is : IsTarget first old
  pub new_is : IsTarget second new
  pub is : text ≡ targets_line words old new

abbrev pub TellsBothTargets : List ℕ → Named → Named → List ℕ → Type 0
TellsBothTargets words left right text = TellsUnread left right text ⊎ ((first : List ℕ) × (second : List ℕ) × AreRead left right first second × TellsTargets words first second text)
