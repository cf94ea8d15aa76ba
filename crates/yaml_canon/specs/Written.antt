-- What ranked forests show of streams.
use Rattle.std.specs.Prelude.{◌≡◌, ℕ, List, [], ◌∷◌, map}
use Rattle.yaml_definitions.specs.model.Means.{Means}
use Rattle.yaml_store_rank.specs.Forests.{Forests, tree}

-- They have one stream, whose roots stand for what the bytes mean.
pub record ShowsStream (bytes : List ℕ) (f : Forests) : Type 0 where
  pub roots : List ℕ
  pub streams : f.streams ≡ roots ∷ []
  pub means : Means bytes (map (tree f) roots)

-- the roots of each stream stand for what its bytes mean
abbrev pub AllMean : Forests → List (List ℕ) → List (List ℕ) → Type 0
AllMean f [] [] = Unit {0}
AllMean f (bytes ∷ sources) (roots ∷ streams) = Means bytes (map (tree f) roots) × AllMean f sources streams
AllMean f _ _ = ⊥

-- they have as many streams as there are of these bytes, and so have these
abbrev pub ShowsStreams : List (List ℕ) → Forests → Type 0
ShowsStreams sources f = AllMean f sources f.streams
