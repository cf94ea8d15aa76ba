-- What it is that two texts mean the same.
use Rattle.std.specs.Prelude.{ℕ, List}
use Rattle.yaml_definitions.specs.model.Tree.{Tree}
use Rattle.yaml_definitions.specs.model.Same.{Alike}
use Rattle.yaml_canon.specs.Claims.{MeansAlone}

-- Both are accepted streams, and they have equally many documents, pairwise the same.
pub record MeanAlike (bytes text : List ℕ) : Type 0 where
  pub meant : List Tree
  pub shown : List Tree
  pub bytes_mean : MeansAlone bytes meant
  pub text_means : MeansAlone text shown
  pub alike : Alike meant shown
