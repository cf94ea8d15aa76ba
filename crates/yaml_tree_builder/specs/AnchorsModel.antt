-- The names of anchors, as plain values.
use Rattle.std.specs.Prelude.{◌≡◌, ℕ, ◌≤◌, ◌+◌, ◌*◌, ◌%◌, ◌/◌, ◌^◌, List, [], ◌∷◌, length, take, drop, ◌-◌, Option, Some}
use Rattle.std.specs.List.{slice_get, slice_range}
use Rattle.std.specs.BTreeMap.{get_by_text}
use Rattle.yaml_tree.specs.Anchors.{last_place}
use Rattle.yaml_store.specs.StoreModel.{SpanWithin}
use Rattle.yaml_store.specs.TextModel.{text_of}
use Rattle.yaml_store.specs.declared.nodes.Span.{Span}
use Rattle.yaml_tree_builder.specs.declared.anchors.Anchors.{Anchors}

-- A hash of bytes, behind those of which one is known. All that is asked of it is that it is a function.
abbrev pub hashed : ℕ → List ℕ → ℕ
hashed h [] = h
hashed h (b ∷ bs) = hashed ((h + b) % 2 ^ 32 * 16777619 % 2 ^ 32) bs

abbrev pub table_place : List ℕ → ℕ
table_place name = hashed 0 (drop (length name - 32) name) / 1048576

-- each name stands in the text where its span says
abbrev pub StandIn : List ℕ → List Span → List (List ℕ) → Type 0
StandIn text [] [] = Unit {0}
StandIn text (s ∷ spans) (x ∷ names) = SpanWithin (length text) s × (slice_range text s.start s.end ≡ x) × StandIn text spans names
StandIn text _ _ = ⊥

-- no name has its last place behind what the table has for it
abbrev pub SeesLast : List ℕ → List (List ℕ) → Type 0
SeesLast table names = (name : List ℕ) (place seen : ℕ) → last_place name names ≡ Some place → slice_get table (table_place name) ≡ Some seen → place ≤ seen

-- `named` is the last place of a name among the first so many
pub record Maps (named : List ℕ → Option ℕ) (count : ℕ) (names : List (List ℕ)) : Type 0 where
  pub few : count ≤ length names
  pub is : (name : List ℕ) → named name ≡ last_place name (take count names)

-- These are the names, in order.
pub record Names (a : Anchors) (names : List (List ℕ)) : Type 0 where
  pub texts : StandIn (text_of a.text) a.spans.items names
  pub sees : SeesLast a.recent.items names
  pub maps : Maps (get_by_text a.places) a.mapped names
