-- The laws of pasted paths.
use Rattle.std.specs.Prelude.{◌≡◌, Bool, true, false, Option, Some}
use Rattle.std.specs.List.{list_all}
use Rattle.yaml_definitions.specs.model.Tree.{Tree}
use Rattle.yaml_path.specs.Ways.{Way, left_end, right_end}
use Rattle.review_paths.specs.Pasted.{fits_step, kept_steps, side_text}
use Rattle.review_paths.specs.Reading.{Pointer, Filter}

-- the tree to which a way leads on one side
abbrev pub end_on : Bool → Option Tree → Way → Option Tree
end_on true t w = left_end t w
end_on false t w = right_end t w

-- what is written for a side leads to the node, if each step fits
abbrev pub PointersLead : Type 0
PointersLead =
    (is_left numbered : Bool) (t : Tree) (w : Way) (x : Tree) → list_all fits_step (kept_steps numbered w) ≡ true → end_on is_left (Some t) (kept_steps numbered w) ≡ Some x
    → Pointer x (side_text false numbered is_left w) t

abbrev pub FiltersLead : Type 0
FiltersLead =
    (is_left numbered : Bool) (t : Tree) (w : Way) (x : Tree) → list_all fits_step (kept_steps numbered w) ≡ true → end_on is_left (Some t) (kept_steps numbered w) ≡ Some x
    → Filter x (side_text true numbered is_left w) t
