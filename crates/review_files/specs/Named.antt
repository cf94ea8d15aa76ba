-- What the files are of which names are given, and why they are not read.
use Rattle.std.specs.Prelude.{◌≡◌, ℕ, List, Option, None, Result, IfOk, IfErr, Vec, codes}
use Rattle.std.specs.declared.alloc.Global.{Global}
use Rattle.yaml_definitions.specs.model.Limits.{text_limit}
use Rattle.yaml_command.specs.Shelves.{IsOf, FileFails}
use Rattle.review_files.specs.declared.files.NotBoth.{NotBoth}
use Rattle.review_files.specs.declared.files.NotBoth.TheVariants as unread_pair
use Rattle.review_files.specs.declared.unread.Unread.{Unread}
use Rattle.review_files.specs.declared.unread.Unread.TheVariants.{CannotOpen, Fault}

-- Where it is known what a file holds, or what the input has, the bytes are that. `-` names the input.
pub record IsNamed (holds : List ℕ → Option (List ℕ)) (rest : Option (List ℕ)) (name bytes : List ℕ) : Type 0 where
  pub input : name ≡ codes "-" → IsOf rest bytes
  pub file : (name ≡ codes "-" → ⊥) → IsOf (holds name) bytes

-- The same of two files, not both of which are the input.
pub record AreNamed (holds : List ℕ → Option (List ℕ)) (rest : Option (List ℕ)) (left right first second : List ℕ) : Type 0 where
  pub apart : left ≡ codes "-" → right ≡ codes "-" → ⊥
  pub one : IsNamed holds rest left first
  pub other : IsNamed holds rest right second

-- Why a file is not read: it cannot be opened, of which it is not known what it holds, or it is not read whole.
abbrev pub IsUnread : Option (List ℕ) → Unread → Type 0
IsUnread held (CannotOpen why) = held ≡ None
IsUnread held (Fault fault) = FileFails held text_limit fault

-- why the input is not read: it is not read whole
abbrev pub InputFails : Option (List ℕ) → Unread → Type 0
InputFails rest (CannotOpen why) = ⊥
InputFails rest (Fault fault) = FileFails rest text_limit fault

-- ---- one file

module _ {R : Type 0} (holds : List ℕ → Option (List ℕ)) (remaining : R → Option (List ℕ)) where
  -- the bytes of a file, or of the input; a file leaves the input as it was
  pub record ReadsNamed (name : List ℕ) (old new : R) (bytes : List ℕ) : Type 0 where
    pub named : IsNamed holds (remaining old) name bytes
    pub kept : (name ≡ codes "-" → ⊥) → new ≡ old

  -- why a file or the input is not
  pub record ReadsNot (name : List ℕ) (old new : R) (why : Unread) : Type 0 where
    pub input : name ≡ codes "-" → InputFails (remaining old) why
    pub file : (name ≡ codes "-" → ⊥) → IsUnread (holds name) why
    pub kept : (name ≡ codes "-" → ⊥) → new ≡ old

-- ---- two files

-- not both are read
abbrev pub NotBothRead : Result (Vec ℕ Global) Unread → Result (Vec ℕ Global) Unread → Type 0
NotBothRead left right = IfOk left (λ first. IfOk right (λ second. ⊥))

-- why a file or the input is not read
pub record IsNotRead (holds : List ℕ → Option (List ℕ)) (rest : Option (List ℕ)) (name : List ℕ) (why : Unread) : Type 0 where
  pub input : name ≡ codes "-" → InputFails rest why
  pub file : (name ≡ codes "-" → ⊥) → IsUnread (holds name) why

-- what reading the file of this name gave: its bytes, or why it is not read
pub record IsAnswer (holds : List ℕ → Option (List ℕ)) (rest : Option (List ℕ)) (name : List ℕ) (answer : Result (Vec ℕ Global) Unread) : Type 0 where
  pub read : IfOk answer (λ v. IsNamed holds rest name v.items)
  pub unread : IfErr answer (IsNotRead holds rest name)

-- why two files are not both read: both are the input, or one at least is not read
abbrev pub AreNotBoth : (List ℕ → Option (List ℕ)) → Option (List ℕ) → List ℕ → List ℕ → NotBoth → Type 0
AreNotBoth holds rest left right unread_pair.OneInput = (left ≡ codes "-") × (right ≡ codes "-")
AreNotBoth holds rest left right (unread_pair.Unread first second) = IsAnswer holds rest left first × IsAnswer holds rest right second × NotBothRead first second
