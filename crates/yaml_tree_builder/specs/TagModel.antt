-- Kinds of collections, and tags by number.
use Rattle.std.specs.Prelude.{◌≡◌, ℕ, List, Some, Ok}
use Rattle.std.specs.List.{slice_get}
use Rattle.yaml_definitions.specs.model.Tag.{default_tag}
use Rattle.yaml_definitions.specs.model.Event.{WrittenTag, full, Style}
use Rattle.yaml_definitions.specs.model.Core.{resolve}
use Rattle.yaml_core.specs.Kind.{kind_tag}
use Rattle.yaml_core.specs.declared.kind.PlainKind.{PlainKind}
use Rattle.yaml_core.specs.declared.kind.PlainKind.TheVariants as plain
use Rattle.yaml_store.specs.declared.nodes.Collection.{Collection}
use Rattle.yaml_store.specs.declared.nodes.Collection.TheVariants as kinds
use Rattle.yaml_sink.specs.declared.sink.Collection as sink
use Rattle.yaml_sink.specs.declared.sink.Collection.TheVariants as read
use Rattle.yaml_tree_builder.specs.declared.core_tags.CoreTags.{CoreTags}

-- a tag that is written out, under which each text stands for itself
abbrev pub KeepsTexts : WrittenTag → Type 0
KeepsTexts (full g) = (y : Style) (x : List ℕ) → resolve (full g) y x ≡ Ok (g, x)
KeepsTexts _ = ⊥

-- the place of the kind
abbrev pub collection_number : Collection → ℕ
collection_number kinds.Sequence = 1
collection_number kinds.Mapping = 2

-- a reader's kind, as nodes have it
abbrev pub kind_in : sink.Collection → Collection
kind_in read.Sequence = kinds.Sequence
kind_in read.Mapping = kinds.Mapping

-- the number of the tag of a kind of scalar
abbrev pub scalar_number : CoreTags → PlainKind → ℕ
scalar_number c plain.Null = c.nulls
scalar_number c plain.Bool = c.bools
scalar_number c plain.Int = c.ints
scalar_number c plain.Float = c.floats
scalar_number c plain.Str = c.strings

-- the number of the tag of a kind of collection
abbrev pub tag_number : CoreTags → Collection → ℕ
tag_number c kinds.Sequence = c.sequences
tag_number c kinds.Mapping = c.mappings

-- Among these tags those of the core schema have these numbers.
pub record AreCore (tags : List (List ℕ)) (c : CoreTags) : Type 0 where
  pub scalars : (k : PlainKind) → slice_get tags (scalar_number c k) ≡ Some (kind_tag k)
  pub collections : (k : Collection) → slice_get tags (tag_number c k) ≡ Some (default_tag (collection_number k))
