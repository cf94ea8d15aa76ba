-- Names of anchors, and the places where they stand.
use Rattle.std.specs.Prelude.{◌≡◌, ℕ, suc, List, [], ◌∷◌, Option, Some, None, cond, bytes_eq, map}
use Rattle.std.specs.Global.{Global}
use Rattle.std.specs.List.{slice_get}
use Rattle.std.specs.Cow.{cow_str_bytes}
use Rattle.std.specs.declared.borrow.CowStr.{CowStr}
use Rattle.std.specs.Option.{option_map}
use Rattle.std.specs.BTreeMap.{BTreeMap, get_by}
use Rattle.std.specs.Cmp.Lexicographic.{slice_cmp}
use Rattle.std.specs.Ordering.{nat_cmp}
use Rattle.yaml_definitions.specs.model.Event.{Anchor}
use Rattle.yaml_definitions.specs.model.Unfold.{Table, or_else}

-- places by names
abbrev pub Names : Type 0
Names = BTreeMap (CowStr Global) ℕ

-- where the map has this name
abbrev pub place_named : Names → List ℕ → Option ℕ
place_named names name = get_by (λ k. slice_cmp nat_cmp name (cow_str_bytes k)) names

-- the last place of this name
unfoldable pub last_place : List ℕ → List (List ℕ) → Option ℕ
last_place name [] = None
last_place name (x ∷ xs) = or_else (option_map suc (last_place name xs)) (cond (bytes_eq x name) (Some 0) None)

-- the names of the anchors, in order
abbrev pub names_of : Table → List (List ℕ)
names_of table = map (λ o. o.0) table

-- a node with this anchor has this place, where its name stands
abbrev pub Placed : List (List ℕ) → Option ℕ → Anchor → ℕ → Type 0
Placed names None None slot = Unit {0}
Placed names (Some place) (Some name) slot = (place ≡ slot) × (slice_get names slot ≡ Some name)
Placed names _ _ slot = ⊥
