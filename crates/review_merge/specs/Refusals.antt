-- Why nothing is said of a merge.
use Rattle.std.specs.Prelude.{◌≡◌, ◌⊎◌, ◌<◌, ◌+◌, ℕ, max, cond, List, [], ◌∷◌, ◌++◌, Option, Some, None, codes, bytes_eq, string_bytes}
use Rattle.std.specs.Option.{is_some, option_map, unwrap_or}
use Rattle.yaml_text.specs.declared.counted.Counted.{Counted}
use Rattle.yaml_text.specs.declared.fault.Fault.TheVariants.{OutOfMemory, WriteFault}
use Rattle.yaml_text.specs.Writers.{Broken}
use Rattle.review_text.specs.declared.options.Form.TheVariants.{Line}
use Rattle.review_files.specs.Named.{ReadsNamed, ReadsNot}
use Rattle.review_files.specs.Told.{TellsFaults, TellsUnread}
use Rattle.review_files.specs.declared.unread.Unread.{Unread}
use Rattle.review_merge.specs.Merges.{HaveBytes, TellsMerge}
use Rattle.review_merge.specs.declared.merge.Names.{Names}
use Rattle.review_merge.specs.declared.merge.Bytes.{Bytes}
use Rattle.review_merge.specs.declared.merge.NoMerge.{NoMerge}
use Rattle.review_merge.specs.declared.merge.NoMerge.TheVariants as no

-- ---- names

abbrev pub result_name : Names → Option (List ℕ)
result_name names = option_map (λ name. name.now) names.result

abbrev pub or_none : Option (List ℕ) → List (List ℕ)
or_none None = []
or_none (Some name) = name ∷ []

-- the names in order
abbrev pub all_names : Names → List (List ℕ)
all_names names = names.base.now ∷ names.ours.now ∷ names.theirs.now ∷ or_none (result_name names)

-- how many of them are that of standard input
abbrev pub input_count : List (List ℕ) → ℕ
input_count [] = 0
input_count (name ∷ names) = cond (bytes_eq name (codes "-")) 1 0 + input_count names

-- ---- a file that is not read

-- what is told of a file that is not read, or there is no memory for it
abbrev pub TellsWhy : List ℕ → Unread → NoMerge → Type 0
TellsWhy name why no.OneInput = ⊥
TellsWhy name why (no.Told text status) = (told : ℕ) × TellsUnread Line name why (string_bytes text) told × (status ≡ max told 2)
TellsWhy name why (no.Fault fault) = fault ≡ OutOfMemory

module _ {R : Type 0} (holds : List ℕ → Option (List ℕ)) (remaining : R → Option (List ℕ)) where
  -- one file is not read
  abbrev pub NotRead : List ℕ → R → R → NoMerge → Type 0
  NotRead name old new none = (why : Unread) × ReadsNot holds remaining name old new why × TellsWhy name why none

  -- the first of some files that is not, behind those that are
  abbrev pub OneNotRead : List (List ℕ) → R → R → NoMerge → Type 0
  OneNotRead [] old new none = ⊥
  OneNotRead (name ∷ names) old new none =
      NotRead name old new none ⊎ ((next : R) × (bytes : List ℕ) × ReadsNamed holds remaining name old next bytes × OneNotRead names next new none)

  -- two of the files are standard input, or one is not read
  abbrev pub FilesNotRead : Names → R → R → NoMerge → Type 0
  FilesNotRead names old new none =
      ((none ≡ no.OneInput) × (1 < input_count (all_names names)) × (new ≡ old)) ⊎ OneNotRead (all_names names) old new none

-- ---- a file that is rejected

-- What is told of each file in turn; the status is the greatest.
pub record TellsEach (names : Names) (bytes : Bytes) (text : List ℕ) (status : ℕ) : Type 0 where
  pub base : List ℕ
  pub ours : List ℕ
  pub theirs : List ℕ
  pub result : List ℕ
  pub one : ℕ
  pub two : ℕ
  pub three : ℕ
  pub four : ℕ
  pub of_base : TellsFaults Line names.base.now bytes.base.items base one
  pub of_ours : TellsFaults Line names.ours.now bytes.ours.items ours two
  pub of_theirs : TellsFaults Line names.theirs.now bytes.theirs.items theirs three
  pub of_result : TellsFaults Line (unwrap_or (result_name names) []) bytes.result.items result four
  pub is : text ≡ ((base ++ ours) ++ theirs) ++ result
  pub status_is : status ≡ max (max one two) (max three four)

-- It is told which are rejected; or memory is refused, as where none is.
abbrev pub TellsRejected : Names → Bytes → NoMerge → Type 0
TellsRejected names bytes no.OneInput = ⊥
TellsRejected names bytes (no.Told text status) = (told : ℕ) × TellsEach names bytes (string_bytes text) told × (0 < told) × (status ≡ max told 2)
TellsRejected names bytes (no.Fault fault) = fault ≡ OutOfMemory

-- ---- a merge of which it is not known whether there is one

abbrev pub too_many : List ℕ
too_many = codes "yamlreview: merge3: unknown: both sides changed more than 1,000,000 places, counted once for each path that aliases make\n"

abbrev pub TellsTooMany : NoMerge → Type 0
TellsTooMany no.OneInput = ⊥
TellsTooMany (no.Told text status) = (string_bytes text ≡ too_many) × (status ≡ 2)
TellsTooMany (no.Fault fault) = fault ≡ OutOfMemory

-- ---- all of them

module _ {R W : Type 0} (holds : List ℕ → Option (List ℕ)) (remaining : R → Option (List ℕ)) (contents : W → Option (List ℕ)) where
  -- All files are read. One is rejected, or not all places were looked at, or the output fails behind a beginning of some text.
  pub record ReadInVain (names : Names) (input end : R) (old new : Counted W) (none : NoMerge) : Type 0 where
    pub bytes : Bytes
    pub read : HaveBytes holds remaining names input end bytes
    pub why :
        (TellsRejected names bytes none × (new ≡ old))
        ⊎ ((TellsMerge (is_some names.result) bytes.base.items bytes.ours.items bytes.theirs.items bytes.result.items None × TellsTooMany none × (new ≡ old))
        ⊎ ((none ≡ no.Fault WriteFault) × ((text : List ℕ) × Broken contents old new text)))

  -- Nothing is printed on the output, unless it fails.
  abbrev pub MergeRefuses : Names → R → R → Counted W → Counted W → NoMerge → Type 0
  MergeRefuses names input end old new none = (FilesNotRead holds remaining names input end none × (new ≡ old)) ⊎ ReadInVain names input end old new none
