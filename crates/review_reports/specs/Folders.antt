-- The files of two folders, and their status.
use Rattle.std.specs.Prelude.{◌≡◌, ◌⊎◌, ℕ, max, cond, List, [], ◌++◌, Option, IfOk, IfErr, Result, Vec, codes}
use Rattle.std.specs.declared.alloc.Global.{Global}
use Rattle.yaml_text.specs.declared.side.Side.{Side}
use Rattle.yaml_canon.specs.Comparing.{Compares}
use Rattle.yaml_command.specs.Shelves.{IsOf}
use Rattle.review_patterns.specs.declared.pattern.Pattern.{Pattern}
use Rattle.review_text.specs.declared.options.Diff.{Diff}
use Rattle.review_text.specs.declared.options.Form.{Form}
use Rattle.review_lines.specs.declared.listed.Listed.{Listed}
use Rattle.review_compare.specs.Compared.{DiffLists}
use Rattle.review_files.specs.Named.{IsUnread, NotBothRead}
use Rattle.review_files.specs.Told.{TellsFile, TellsBoth, TellsNotCompared}
use Rattle.review_files.specs.declared.rejected.Named.{Named}
use Rattle.review_files.specs.declared.unread.Unread.{Unread}

-- the path of a name in a folder, with a slash between them
abbrev pub IsPath : List ℕ → List ℕ → List ℕ → Type 0
IsPath folder name path = (path ≡ folder ++ name) ⊎ (path ≡ (folder ++ codes "/") ++ name)

module _ (holds : List ℕ → Option (List ℕ)) where
  -- Two files have the same bytes. Their status is 0, whether the bytes are accepted or not.
  pub record AreEqual (left right : List ℕ) (status : ℕ) : Type 0 where
    pub bytes : List ℕ
    pub one : IsOf (holds left) bytes
    pub other : IsOf (holds right) bytes
    pub told : status ≡ 0

  -- a file by the name that is printed, and what reading it gave
  pub record IsRead (file : Named) : Type 0 where
    pub read : IfOk file.answer.now (λ v. IsOf (holds file.name.now) v.items)
    pub unread : IfErr file.answer.now (IsUnread (holds file.name.now))

  -- Two files have other bytes and are accepted. The status is 0 if no difference of them is listed, and else 1; without patterns it is 0 if their streams are the same, and else 1.
  pub record AreCompared (asked : Diff) (ignored : List Pattern) (left right : List ℕ) (status : ℕ) : Type 0 where
    pub first : List ℕ
    pub second : List ℕ
    pub one : IsOf (holds left) first
    pub other : IsOf (holds right) second
    pub differ : first ≡ second → ⊥
    pub listed : Listed
    pub lists : DiffLists first second asked ignored listed
    pub compares : ignored ≡ [] → Compares first second listed.same
    pub told : status ≡ cond listed.same 0 1

  -- Two files are not both read, or they are read, have other bytes and are not compared. The text and the status are those of what is told of both.
  pub record AreRejected (form : Form) (left right text : List ℕ) (status : ℕ) : Type 0 where
    pub one : Named
    pub other : Named
    pub one_name : one.name.now ≡ left
    pub other_name : other.name.now ≡ right
    pub one_is : IsRead one
    pub other_is : IsRead other
    pub tells :
        (NotBothRead one.answer.now other.answer.now × TellsBoth form one other text status)
        ⊎ ((one.answer.now ≡ other.answer.now → ⊥) × (side : Side) × TellsNotCompared form one other side text status)

  -- What is told of a file that the right folder alone has. The status is 1 if it is accepted, and else that of `faults`.
  pub record NewTold (asked : Diff) (name text : List ℕ) (status : ℕ) : Type 0 where
    pub file : Named
    pub path : IsPath asked.right.now name file.name.now
    pub is : IsRead file
    pub own : ℕ
    pub tells : TellsFile asked.form file text own
    pub told : status ≡ max own 1
