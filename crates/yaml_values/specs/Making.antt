-- What putting a value behind others makes of the lists.
use Rattle.std.specs.Prelude.{ℕ, List, length, ◌≡◌, Some}
use Rattle.std.specs.List.{slice_get}
use Rattle.yaml_tree.specs.View.{Inside, InsideBelow}
use Rattle.yaml_store_rank.specs.declared.ranking.Ranked.{Ranked}
use Rattle.yaml_store_rank.specs.Walked.{walked_tree}
use Rattle.yaml_values.specs.Ranges.{Grows}
use Rattle.yaml_values.specs.Denotes.{ShowsInside, Shows, IsValue}
use Rattle.yaml_values.specs.declared.value.Value.{Value}
use Rattle.yaml_values.specs.declared.value.Span.{Span}

pub record MakesInside (texts new_texts parts new_parts : List ℕ) (number : ℕ) (tag : List ℕ) (inside : Inside) (kind : ℕ) (s : Span) : Type 0 where
  pub texts_grow : Grows texts new_texts
  pub parts_grow : Grows parts new_parts
  pub shows : ShowsInside new_parts new_texts tag kind s.start s.end inside
  pub below : InsideBelow number inside

pub record MakesValue (texts new_texts parts new_parts : List ℕ) (number : ℕ) (tag : List ℕ) (inside : Inside) (v : Value) : Type 0 where
  pub texts_grow : Grows texts new_texts
  pub parts_grow : Grows parts new_parts
  pub shows : Shows new_parts new_texts v (tag, inside)
  pub below : InsideBelow number inside

-- So many values of ranks were made, and the parts begin with the roots.
pub record AreMade (c : Ranked) (roots parts texts : List ℕ) (values : List Value) (count : ℕ) : Type 0 where
  pub each : (i : ℕ) (v : Value) → slice_get values i ≡ Some v → IsValue (walked_tree c) parts texts i v
  pub long : length values ≡ count
  pub rooted : Grows roots parts
