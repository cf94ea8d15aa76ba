-- What `merge3` promises.
use Rattle.std.specs.Prelude.{◌≡◌, ℕ, zero, suc, Bool, true, false, cond, List, [], ◌∷◌, Option, Some, None}
use Rattle.std.specs.Option.{is_some, option_map}
use Rattle.yaml_definitions.specs.model.Tree.{Tree, Trees}
use Rattle.yaml_definitions.specs.model.Same.{keyed_trees}
use Rattle.yaml_definitions.specs.model.Means.{Means}
use Rattle.yaml_text.specs.declared.counted.Counted.{Counted}
use Rattle.yaml_text.specs.Writers.{Printed}
use Rattle.yaml_tree.specs.TreeLists.{trees}
use Rattle.yaml_store_rank.specs.Forests.{Forests, IsRanked}
use Rattle.yaml_canon.specs.Written.{ShowsStreams}
use Rattle.yaml_conflicts.specs.MergedStreams.{IsStreamMerge}
use Rattle.review_files.specs.Named.{ReadsNamed}
use Rattle.review_files.specs.Statuses.{fault_status}
use Rattle.yaml_conflicts.specs.Streams.{FindsStreams}
use Rattle.yaml_conflicts.specs.declared.streams.Roots.{Roots}
use Rattle.yaml_conflicts.specs.declared.streams.Outcome.{Outcome}
use Rattle.review_merge.specs.Judged.{verdict, RootsAre}
use Rattle.review_merge.specs.Lines.{sides_of, IsOutcomeText}
use Rattle.review_merge.specs.declared.print.Print.{Print}
use Rattle.review_merge.specs.declared.lines.Sources.{Sources}
use Rattle.review_merge.specs.declared.merge.Names.{Names}
use Rattle.review_merge.specs.declared.merge.Bytes.{Bytes}
use Rattle.review_merge.specs.declared.merge.NoMerge.{NoMerge}
use Rattle.review_merge.specs.declared.merge.NoMerge.TheVariants as no

-- ---- streams

-- what is asked: whether there is a merge of the three streams, or whether the fourth one is it
abbrev pub Asks : Bool → (b o t m : List Tree) → Type 0
Asks false b o t m = (n : Trees) × (keyed_trees n ≡ true) × IsStreamMerge (trees b) (trees o) (trees t) n
Asks true b o t m = IsStreamMerge (trees b) (trees o) (trees t) (trees m)

-- that is so, or not; nothing is said where it is not known
abbrev pub Says : Bool → (b o t m : List Tree) → Option Bool → Type 0
Says given b o t m (Some true) = Asks given b o t m
Says given b o t m (Some false) = Asks given b o t m → ⊥
Says given b o t m None = Unit {0}

-- The bytes of the base, of ours, of theirs and of the result mean documents, and what is asked of these is answered.
pub record TellsMerge (given : Bool) (base ours theirs result : List ℕ) (answer : Option Bool) : Type 0 where
  pub b : List Tree
  pub o : List Tree
  pub t : List Tree
  pub m : List Tree
  pub base_means : Means base b
  pub ours_mean : Means ours o
  pub theirs_mean : Means theirs t
  pub result_means : Means result m
  pub says : Says given b o t m answer

-- no text where no line is asked for, and else that of the outcome
abbrev pub IsAskedText : ℕ → Type 0 → List ℕ → Type 0
IsAskedText zero is text = text ≡ []
IsAskedText (suc lines) is text = is

-- The text is that of what is found in the streams of these bytes, and the answer says whether something is.
pub record IsMergeText (given : Bool) (print : Print) (base ours theirs result : List ℕ) (answer : Option Bool) (text : List ℕ) : Type 0 where
  pub forests : Forests
  pub roots : Roots
  pub outcome : Outcome
  pub show : ShowsStreams (base ∷ ours ∷ theirs ∷ result ∷ []) forests
  pub ranked : IsRanked forests
  pub roots_are : RootsAre forests given roots
  pub finds : FindsStreams forests given roots outcome
  pub judged : answer ≡ verdict outcome
  pub is : IsAskedText print.lines (IsOutcomeText forests print given roots (sides_of roots base ours theirs (cond given (Some result) None)) outcome text) text

-- ---- files

module _ {R : Type 0} (holds : List ℕ → Option (List ℕ)) (remaining : R → Option (List ℕ)) where
  -- the bytes of the result, or none where no name is given
  abbrev pub ReadsResult : Option (List ℕ) → R → R → List ℕ → Type 0
  ReadsResult (Some name) old new bytes = ReadsNamed holds remaining name old new bytes
  ReadsResult None old new bytes = (new ≡ old) × (bytes ≡ [])

  -- The files were read one after another.
  pub record HaveBytes (names : Names) (old new : R) (bytes : Bytes) : Type 0 where
    pub one : R
    pub two : R
    pub three : R
    pub base : ReadsNamed holds remaining names.base.now old one bytes.base.items
    pub ours : ReadsNamed holds remaining names.ours.now one two bytes.ours.items
    pub theirs : ReadsNamed holds remaining names.theirs.now two three bytes.theirs.items
    pub result : ReadsResult (option_map (λ name. name.now) names.result) three new bytes.result.items

  -- The files of these names were read, and the status is 0 if there is a merge of them, or the result is it, and else 1. What was found is written.
  pub record MergeTells {W : Type 0} (contents : W → Option (List ℕ)) (names : Names) (print : Print) (input end : R) (old new : Counted W) (status : ℕ) : Type 0 where
    pub bytes : Bytes
    pub read : HaveBytes names input end bytes
    pub answer : Bool
    pub tells : TellsMerge (is_some names.result) bytes.base.items bytes.ours.items bytes.theirs.items bytes.result.items (Some answer)
    pub told : status ≡ cond answer 0 1
    pub text : List ℕ
    pub shows : IsMergeText (is_some names.result) print bytes.base.items bytes.ours.items bytes.theirs.items bytes.result.items (Some answer) text
    pub printed : Printed contents old new text

-- the status of each reason why nothing is said
abbrev pub no_merge_status : NoMerge → ℕ
no_merge_status no.OneInput = 3
no_merge_status (no.Told text status) = status
no_merge_status (no.Fault fault) = fault_status fault

-- the bytes whose nodes have places
pub record HasSources (bytes : Bytes) (given : Bool) (sources : Sources) : Type 0 where
  pub base : sources.base.now ≡ bytes.base.items
  pub ours : sources.ours.now ≡ bytes.ours.items
  pub theirs : sources.theirs.now ≡ bytes.theirs.items
  pub result : option_map (λ it. it.now) sources.result ≡ cond given (Some bytes.result.items) None
