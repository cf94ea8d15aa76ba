-- What is shown of a stream.
use Rattle.std.specs.Prelude.{◌≡◌, ◌⊎◌, ℕ, Bool, true, false, List, map}
use Rattle.yaml_definitions.specs.model.Tree.{Tree}
use Rattle.yaml_definitions.specs.model.Order.{arranged}
use Rattle.yaml_definitions.specs.model.Same.{Alike}
use Rattle.yaml_definitions.specs.canonical.Spell.{spell_bytes}
use Rattle.yaml_canon.specs.Claims.{MeansAlone}
use Rattle.yaml_show.specs.Layout.{shown_text}
use Rattle.yaml_show.specs.Sharing.{sharing_shown}
use Rattle.yaml_show.specs.Alike.{MeanAlike}
use Rattle.yaml_show.specs.declared.manner.Manner.{Manner}
use Rattle.yaml_show.specs.declared.manner.Manner.TheVariants.{ByKey, AsRead, Sharing}

-- the readable text of documents
abbrev pub readable : List Tree → List ℕ
readable f = shown_text (map arranged f)

-- the same with the anchors and aliases of their canonical text
abbrev pub readable_sharing : List Tree → List ℕ
readable_sharing f = sharing_shown (map arranged f)

-- what is written of documents that are arranged, with anchors and aliases or without
abbrev pub arranged_by : Bool → List Tree → List ℕ
arranged_by false = shown_text
arranged_by true = sharing_shown

-- the same of documents, with entries in the order of their keys
abbrev pub written_by : Bool → List Tree → List ℕ
written_by shares f = arranged_by shares (map arranged f)

-- what is written of documents: their readable text; the same with entries in the order of the source; or with anchors and aliases
abbrev pub written_in : Manner → List Tree → List ℕ
written_in ByKey = readable
written_in AsRead = shown_text
written_in Sharing = readable_sharing

module _ (write : List Tree → List ℕ) where
  -- What is written is a stream that means the same documents.
  abbrev pub ReadsBack : List Tree → Type 0
  ReadsBack f = (g : List Tree) × MeansAlone (write f) g × Alike f g

  -- what is written of these documents, where it means the same, else their canonical text
  abbrev pub IsShownText : List Tree → List ℕ → Type 0
  IsShownText f text = (ReadsBack f × (text ≡ write f)) ⊎ ((¬ (ReadsBack f)) × (text ≡ spell_bytes f))

  -- The bytes mean these documents alone, and the text is what is shown of them.
  pub record ShowsBy (bytes text : List ℕ) : Type 0 where
    pub forest : List Tree
    pub means : MeansAlone bytes forest
    pub shown : IsShownText forest text

-- what `show` answers
abbrev pub Shows : List ℕ → List ℕ → Type 0
Shows = ShowsBy readable

-- what `show_as_read` answers
abbrev pub ShowsAsRead : List ℕ → List ℕ → Type 0
ShowsAsRead = ShowsBy shown_text

-- what `show_sharing` answers
abbrev pub ShowsSharing : List ℕ → List ℕ → Type 0
ShowsSharing = ShowsBy readable_sharing

-- Streams that mean the same are shown as the same bytes.
abbrev pub SameIsShownAlike : Type 0
SameIsShownAlike = (left right text other : List ℕ) → MeanAlike left right → Shows left text → Shows right other → text ≡ other

-- So are they with anchors and aliases.
abbrev pub SameIsSharedAlike : Type 0
SameIsSharedAlike = (left right text other : List ℕ) → MeanAlike left right → ShowsSharing left text → ShowsSharing right other → text ≡ other
