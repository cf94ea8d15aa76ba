-- Two streams in one store.
use Rattle.std.specs.Prelude.{◌≡◌, ℕ, List, ◌++◌, length}
use Rattle.yaml_definitions.specs.model.Tree.{Tree}
use Rattle.yaml_definitions.specs.model.Means.{Means}
use Rattle.yaml_definitions.specs.model.Serial.{Document}
use Rattle.yaml_tree.specs.TreeLists.{AreLow}
use Rattle.yaml_tree_builder.specs.Reached.{UnfoldTo}
use Rattle.yaml_tree_builder.specs.BuilderModel.{AreForests}
use Rattle.yaml_canon.specs.Claims.{IsRead}
use Rattle.yaml_canon.specs.Read.{HasRoots}
use Rattle.yaml_canon.specs.Ranks.{RanksOf}
use Rattle.yaml_canon.specs.declared.both.BothForests.{BothForests}
use Rattle.yaml_canon.specs.declared.both.RankedBoth.{RankedBoth}

-- The bytes of both sides mean trees, so many on the left, none of which is too high.
pub record MeanBoth (left right : List ℕ) (middle : ℕ) : Type 0 where
  pub lefts : List Tree
  pub rights : List Tree
  pub left_means : Means left lefts
  pub right_means : Means right rights
  pub low : AreLow (lefts ++ rights)
  pub middle_is : middle ≡ length lefts

-- The bytes of both sides are read as documents, those of the left side so many of so many nodes, and this is their forest.
pub record ReadBoth (left right : List ℕ) (b : BothForests) : Type 0 where
  pub first : List Document
  pub second : List Document
  pub first_read : IsRead left first
  pub second_read : IsRead right second
  pub size : UnfoldTo first b.left
  pub forests : AreForests first second b.forest

-- The roots stand for the trees of the left side, and then for those of the right side.
pub record HasBoth (left right : List ℕ) (b : BothForests) : Type 0 where
  pub mean : MeanBoth left right b.left.documents
  pub roots : HasRoots (mean.lefts ++ mean.rights) b.forest
  pub read : ReadBoth left right b

-- And they are ranks.
pub record HaveRanks (left right : List ℕ) (b : RankedBoth) : Type 0 where
  pub mean : MeanBoth left right b.middle
  pub ranks : RanksOf (mean.lefts ++ mean.rights) b.forest
