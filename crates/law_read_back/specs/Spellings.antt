-- What is spelled is read.
use Rattle.std.specs.Prelude.{◌≡◌, ◌≤◌, ℕ, List, [], length, Some}
use Rattle.yaml_definitions.specs.model.Limits.{text_limit}
use Rattle.yaml_definitions.specs.model.Tree.{Tree}
use Rattle.yaml_definitions.specs.model.Event.{full}
use Rattle.yaml_definitions.specs.model.Tag.{IsTag}
use Rattle.yaml_definitions.specs.canonical.TagText.{encoded}
use Rattle.yaml_definitions.specs.model.Same.{Alike}
use Rattle.yaml_definitions.specs.canonical.Spell.{spell_bytes, spelled}
use Rattle.yaml_definitions.specs.canonical.Block.{block_bytes, blocked, AllKeysFit}
use Rattle.yaml_definitions.specs.model.Proper.{Admitted}
use Rattle.yaml_definitions.specs.model.Means.{Means}
use Rattle.yaml_definitions.specs.grammar.Tags.{decoded}
use Rattle.yaml_definitions.specs.grammar.Reading.{Reads}

-- A tag's bytes, percent-encoded, are decoded to that tag.
abbrev pub TagsComeBack : Type 0
TagsComeBack = (g : List ℕ) → IsTag g → decoded (encoded g []) ≡ Some (full g)

-- The canonical text of an admitted forest is a stream of the profile, whose events are those spelled.
abbrev pub SpellingsAreRead : Type 0
SpellingsAreRead = (f : List Tree) → Admitted f → Reads (spell_bytes f) (spelled f)

-- So is a block spelling that is not too long and whose keys fit.
abbrev pub BlocksAreRead : Type 0
BlocksAreRead = (f : List Tree) → Admitted f → length (block_bytes f) ≤ text_limit → AllKeysFit f → Reads (block_bytes f) (blocked f)

-- The bytes mean an admitted forest that is the same as f, tree by tree, and has its text.
pub record MeansLike (bytes : List ℕ) (f : List Tree) : Type 0 where
  pub forest : List Tree
  pub means : Means bytes forest
  pub admitted : Admitted forest
  pub alike : Alike forest f
  pub text : spell_bytes forest ≡ spell_bytes f

abbrev pub SpellingsMean : Type 0
SpellingsMean = (f : List Tree) → Admitted f → MeansLike (spell_bytes f) f

abbrev pub BlocksMean : Type 0
BlocksMean = (f : List Tree) → Admitted f → length (block_bytes f) ≤ text_limit → AllKeysFit f → MeansLike (block_bytes f) f
