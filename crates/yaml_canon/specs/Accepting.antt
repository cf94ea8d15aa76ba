-- Which bytes are accepted.
use Rattle.std.specs.Prelude.{◌≡◌, ◌⊎◌, ◌↔◌, ◌≤◌, ℕ, List, Bool, true, length}
use Rattle.yaml_definitions.specs.model.Limits.{text_limit}
use Rattle.yaml_definitions.specs.model.Tree.{Tree}
use Rattle.yaml_definitions.specs.canonical.Spell.{spell_bytes}
use Rattle.yaml_definitions.specs.canonical.Block.{block_bytes, AllKeysFit}
use Rattle.yaml_definitions.specs.model.Proper.{Admitted}
use Rattle.yaml_definitions.specs.model.Means.{Means}
use Rattle.yaml_text.specs.declared.fault.Fault.{Fault}
use Rattle.yaml_text.specs.declared.fault.Fault.TheVariants.{OutOfMemory}
use Rattle.yaml_canon.specs.Claims.{IsCanonicalText, CanonicalRefuses}

-- The bytes are one of the two spellings of these trees: the canonical text, or the block spelling where that is not too long and its keys fit.
abbrev pub IsSpelling : List ℕ → List Tree → Type 0
IsSpelling bytes f = (bytes ≡ spell_bytes f) ⊎ ((bytes ≡ block_bytes f) × (length bytes ≤ text_limit) × AllKeysFit f)

-- want of memory is all that is wrong
abbrev pub IsMemory : Fault → Type 0
IsMemory fault = fault ≡ OutOfMemory

-- where both sides have a canonical text, the answer is whether these are the same bytes
abbrev pub TellsTexts : List ℕ → List ℕ → Bool → Type 0
TellsTexts left right answer = (text other : List ℕ) → IsCanonicalText left text → IsCanonicalText right other → (answer ≡ true) ↔ (text ≡ other)

-- What may be refused of bytes that mean an admitted forest is want of memory alone, and so of its spellings.
abbrev pub MeaningsAreAccepted : Type 0
MeaningsAreAccepted = (bytes : List ℕ) (f : List Tree) (fault : Fault) → Admitted f → Means bytes f → CanonicalRefuses bytes fault → IsMemory fault

abbrev pub SpellingsAreAccepted : Type 0
SpellingsAreAccepted = (bytes : List ℕ) (f : List Tree) (fault : Fault) → Admitted f → IsSpelling bytes f → CanonicalRefuses bytes fault → IsMemory fault

-- Their canonical text is the forest's.
abbrev pub MeaningsHaveTheText : Type 0
MeaningsHaveTheText = (bytes text : List ℕ) (f : List Tree) → Admitted f → Means bytes f → IsCanonicalText bytes text → text ≡ spell_bytes f

abbrev pub SpellingsHaveTheText : Type 0
SpellingsHaveTheText = (bytes text : List ℕ) (f : List Tree) → Admitted f → IsSpelling bytes f → IsCanonicalText bytes text → text ≡ spell_bytes f
