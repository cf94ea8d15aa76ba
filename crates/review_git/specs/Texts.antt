-- What is printed of what git asks for.
use Rattle.std.specs.Prelude.{◌≡◌, ℕ, List, [], ◌∷◌, ◌++◌, Option, codes}
use Rattle.review_text.specs.declared.options.Form.TheVariants.{Line}
use Rattle.review_text.specs.Terminal.{terminal}
use Rattle.review_files.specs.Told.{TellsFile}
use Rattle.review_files.specs.declared.rejected.Named.{Named}
use Rattle.review_git.specs.Files.{IsFileOf, TellsFiles, TellsBothTargets}
use Rattle.review_git.specs.Heads.{name_line, right_path, IsRenamedLine}
use Rattle.review_git.specs.Sides.{kind_of, alone_line, modes_line, AreEqual}
use Rattle.review_git.specs.declared.asked.GitAsked.{GitAsked}
use Rattle.review_git.specs.declared.asked.GitAsked.TheVariants.{Unmerged, Changed}
use Rattle.review_git.specs.declared.asked.Kind.{Kind}
use Rattle.review_git.specs.declared.asked.Kind.TheVariants as kind
use Rattle.review_git.specs.declared.asked.Pair.{Pair}

-- where nothing is printed, it is said so
abbrev pub or_same : List ℕ → List ℕ
or_same [] = codes "same\n"
or_same (c ∷ text) = c ∷ text

abbrev pub unmerged_text : List ℕ → List ℕ
unmerged_text path = codes "diff " ++ (terminal path ++ codes "\nnot merged\n")

module _ (holds : List ℕ → Option (List ℕ)) where
  -- two files by their paths, as git names them on either side
  pub record OfFiles (pair : Pair) (text : List ℕ) : Type 0 where
    pub left : Named
    pub right : Named
    pub left_is : IsFileOf holds pair.left (codes "a/" ++ pair.path.now) left
    pub right_is : IsFileOf holds pair.right (codes "b/" ++ right_path pair) right
    pub tells : TellsFiles pair.style left right text

  -- what two links or submodules hold
  pub record OfTargets (words : List ℕ) (pair : Pair) (text : List ℕ) : Type 0 where
    pub left : Named
    pub right : Named
    pub left_is : IsFileOf holds pair.left pair.left.file.now left
    pub right_is : IsFileOf holds pair.right pair.right.file.now right
    pub tells : TellsBothTargets words left right text

  -- nothing is printed of two sides of different kinds
  abbrev pub OfKinds : Kind → Kind → Pair → List ℕ → Type 0
  OfKinds kind.File kind.File pair text = OfFiles pair text
  OfKinds kind.Link kind.Link pair text = OfTargets (codes "symbolic link ") pair text
  OfKinds kind.Submodule kind.Submodule pair text = OfTargets (codes "submodule ") pair text
  OfKinds _ _ pair text = text ≡ []

  -- Of two sides: which modes were changed, from which path the file was renamed or copied, and what is different, unless git knows that nothing is.
  pub record OfBoth (pair : Pair) (text : List ℕ) : Type 0 where
    pub renamed : List ℕ
    pub changes : List ℕ
    pub renamed_is : IsRenamedLine pair renamed
    pub equal : AreEqual pair.left pair.right → changes ≡ []
    pub different : (AreEqual pair.left pair.right → ⊥) → OfKinds (kind_of pair.left.mode.now) (kind_of pair.right.mode.now) pair changes
    pub is : text ≡ modes_line pair.left.mode.now pair.right.mode.now ++ (renamed ++ changes)

  -- of a new file: why it is rejected, if it is
  pub record OfNewFile (pair : Pair) (text : List ℕ) : Type 0 where
    pub file : Named
    pub file_is : IsFileOf holds pair.right (codes "b/" ++ right_path pair) file
    pub status : ℕ
    pub tells : TellsFile Line file text status

  abbrev pub OfNew : Kind → Pair → List ℕ → Type 0
  OfNew kind.File pair text = OfNewFile pair text
  OfNew _ pair text = text ≡ []

  abbrev pub IsNew : Pair → List ℕ → Type 0
  IsNew pair text = (more : List ℕ) × OfNew (kind_of pair.right.mode.now) pair more × (text ≡ alone_line (codes "new file") pair.right.mode.now ++ more)

  -- what is printed by what the sides are
  abbrev pub OfSides : Kind → Kind → Pair → List ℕ → Type 0
  OfSides kind.None _ pair text = IsNew pair text
  OfSides _ kind.None pair text = text ≡ alone_line (codes "deleted file") pair.left.mode.now
  OfSides _ _ pair text = OfBoth pair text

  abbrev pub OfPair : Pair → List ℕ → Type 0
  OfPair pair text = (told : List ℕ) × OfSides (kind_of pair.left.mode.now) (kind_of pair.right.mode.now) pair told × (text ≡ or_same told)

  -- the name of the file, and what is printed of it
  abbrev pub WritesPair : Pair → List ℕ → Type 0
  WritesPair pair text = (told : List ℕ) × OfPair pair told × (text ≡ name_line pair ++ told)

  abbrev pub GitWrites : GitAsked → List ℕ → Type 0
  GitWrites (Unmerged path) text = text ≡ unmerged_text path.now
  GitWrites (Changed pair) text = WritesPair pair text
