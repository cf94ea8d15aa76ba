-- A text that is lent, and behind it one's own.
use Rattle.std.specs.Prelude.{◌≡◌, ◌⊎◌, ℕ, ◌≤◌, List, ◌++◌, length, Some}
use Rattle.std.specs.List.{slice_get, slice_range}
use Rattle.std.specs.String.{string_bytes}
use Rattle.yaml_store.specs.declared.nodes.Span.{Span}
use Rattle.yaml_store.specs.declared.nodes.Node.{Node}
use Rattle.yaml_store.specs.declared.nodes.Place.{Place}
use Rattle.yaml_store.specs.declared.nodes.Place.TheVariants.{Scalar, Sequence, Mapping}
use Rattle.yaml_store.specs.declared.text.Text.{Text}
use Rattle.yaml_store.specs.StoreModel.{SpanWithin, place_of}

-- both together
abbrev pub text_of : Text → List ℕ
text_of t = t.lent.now ++ string_bytes t.own

-- where one's own begins
abbrev pub border : Text → ℕ
border t = length t.lent.now

-- the places stand before the border, or behind it
abbrev pub IsWhole : ℕ → Span → Type 0
IsWhole n s = (s.end ≤ n) ⊎ (n ≤ s.start)

-- a content does
abbrev pub PlaceWhole : ℕ → Place → Type 0
PlaceWhole n (Scalar s) = IsWhole n s
PlaceWhole n (Sequence s) = Unit {0}
PlaceWhole n (Mapping s) = Unit {0}

-- the content of each node does
abbrev pub AllWhole : ℕ → List Node → Type 0
AllWhole n nodes = (i : ℕ) (s : Node) → slice_get nodes i ≡ Some s → PlaceWhole n (place_of s)

-- A content stands in the text, which grew at its end.
pub record PutsText (before after : Text) (x : List ℕ) (s : Span) : Type 0 where
  pub more : List ℕ
  pub grows : text_of after ≡ text_of before ++ more
  pub within : SpanWithin (length (text_of after)) s
  pub is : slice_range (text_of after) s.start s.end ≡ x

-- These places of a part of the text are those of the whole.
pub record IsHome (t : Text) (s : Span) (part : List ℕ) (p : Span) : Type 0 where
  pub same : slice_range part p.start p.end ≡ slice_range (text_of t) s.start s.end
  pub within : SpanWithin (length (text_of t)) s → SpanWithin (length part) p
