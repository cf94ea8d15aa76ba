-- The forest that bytes are read as.
use Rattle.std.specs.Prelude.{◌≡◌, ℕ, List, drop}
use Rattle.yaml_definitions.specs.model.Tree.{Tree}
use Rattle.yaml_definitions.specs.model.Event.{Event}
use Rattle.yaml_definitions.specs.model.Text.{Text, mark_len}
use Rattle.yaml_definitions.specs.model.Serial.{Document, stream_events}
use Rattle.yaml_definitions.specs.grammar.Reading.{Reads}
use Rattle.yaml_text.specs.Source.{text_of, bytes_of, mark_of}
use Rattle.yaml_text.specs.declared.chars.Chars.{Chars}
use Rattle.yaml_sink.specs.Held.{Puts}
use Rattle.yaml_store.specs.StoreModel.{parts_at}
use Rattle.yaml_store.specs.StoreGrows.{Good, IsLow, trees_of}
use Rattle.yaml_tree_builder.specs.BuilderModel.{AllAt, IsForest}
use Rattle.yaml_tree_builder.specs.declared.builder.Forest.{Forest}

-- The bytes are this text, perhaps behind a byte order mark.
pub record IsSource (bytes : List ℕ) (source : Chars) : Type 0 where
  pub read : Text bytes (text_of source)
  pub behind_mark : bytes_of source ≡ drop (mark_len bytes) bytes
  pub mark : mark_of source ≡ mark_len bytes

-- The bytes are read as documents, whose events were put behind those that were held.
pub record Takes {K : Type 0} (holds : K → List Event → Type 0) (bytes : List ℕ) (before after : K) : Type 0 where
  pub documents : List Document
  pub read : Reads bytes (stream_events documents)
  pub puts : Puts holds before (stream_events documents) after

-- The bytes are read as these documents, which unfold, with no tree too high; and the roots stand for their trees.
pub record HasForest (bytes : List ℕ) (f : Forest) : Type 0 where
  pub documents : List Document
  pub read : Reads bytes (stream_events documents)
  pub forest : IsForest documents f

-- the trees of the roots
abbrev pub root_trees : Forest → List Tree
root_trees f = parts_at (trees_of f.store) f.roots.items

-- The roots stand for these trees, and no tree of the store is too high.
pub record HasRoots (ts : List Tree) (f : Forest) : Type 0 where
  pub good : Good f.store
  pub level : IsLow f.store
  pub roots : AllAt (trees_of f.store) f.roots.items ts
