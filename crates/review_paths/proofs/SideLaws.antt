-- The steps of a way on one side lead to the tree to which the way leads there.
use Rattle.std.proofs.Common.{◌≡◌, Bool, true, false, [], ◌∷◌, map, refl, sym, ◌∙◌}
use Rattle.std.specs.Prelude.{Option, Some, None}
use Rattle.yaml_definitions.specs.model.Tree.{Tree}
use Rattle.yaml_path.specs.Path as plain
use Rattle.yaml_path.specs.Ways.{Way, Step, at_places, at_key, left_end, right_end}
use Rattle.yaml_path.specs.declared.places.Places.TheVariants.{Both, Left, Right}
use Rattle.review_paths.specs.Pasted.{side_place}
use Rattle.review_paths.specs.Laws.{end_on}

-- a step on one side
abbrev pub side_step : Bool → Step → plain.Step
side_step is_left (at_places p) = plain.at_item (side_place is_left p)
side_step is_left (at_key x) = plain.at_key x

-- nothing is below what is missing
left_none : (w : Way) → left_end None w ≡ None
left_none [] = refl
left_none (at_places (Both j k) ∷ w) = left_none w
left_none (at_places (Left j) ∷ w) = left_none w
left_none (at_places (Right k) ∷ w) = left_none w
left_none (at_key x ∷ w) = left_none w

right_none : (w : Way) → right_end None w ≡ None
right_none [] = refl
right_none (at_places (Both j k) ∷ w) = right_none w
right_none (at_places (Left j) ∷ w) = right_none w
right_none (at_places (Right k) ∷ w) = right_none w
right_none (at_key x ∷ w) = right_none w

pub not_some : {X : Type 0} (x : X) → None ≡ Some x → ⊥
not_some x e = absurd cc

leads_left : (t : Option Tree) (w : Way) (x : Tree) → left_end t w ≡ Some x → plain.reach t (map (side_step true) w) ≡ Some x
leads_left t [] x e = e
leads_left t (at_places (Both j k) ∷ w) x e = leads_left (plain.part_of t (plain.at_item j)) w x e
leads_left t (at_places (Left j) ∷ w) x e = leads_left (plain.part_of t (plain.at_item j)) w x e
leads_left t (at_places (Right k) ∷ w) x e = absurd (not_some x (sym (left_none w) ∙ e))
leads_left t (at_key y ∷ w) x e = leads_left (plain.part_of t (plain.at_key y)) w x e

leads_right : (t : Option Tree) (w : Way) (x : Tree) → right_end t w ≡ Some x → plain.reach t (map (side_step false) w) ≡ Some x
leads_right t [] x e = e
leads_right t (at_places (Both j k) ∷ w) x e = leads_right (plain.part_of t (plain.at_item k)) w x e
leads_right t (at_places (Left j) ∷ w) x e = absurd (not_some x (sym (right_none w) ∙ e))
leads_right t (at_places (Right k) ∷ w) x e = leads_right (plain.part_of t (plain.at_item k)) w x e
leads_right t (at_key y ∷ w) x e = leads_right (plain.part_of t (plain.at_key y)) w x e

pub leads : (is_left : Bool) (t : Option Tree) (w : Way) (x : Tree) → end_on is_left t w ≡ Some x → plain.reach t (map (side_step is_left) w) ≡ Some x
leads true t w x e = leads_left t w x e
leads false t w x e = leads_right t w x e
