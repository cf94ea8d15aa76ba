-- Edit scripts of two texts.
use Rattle.std.specs.Prelude.{◌≡◌, ℕ, Bool, true, false, cond, List, [], ◌∷◌, ◌++◌}
use Rattle.std.specs.List.{flat_map}
use Rattle.yaml_unified.specs.declared.lines.Piece.{Piece}
use Rattle.yaml_unified.specs.declared.script.Edit.{Edit}
use Rattle.yaml_unified.specs.declared.script.Edit.TheVariants.{Kept, Removed, Added}

-- the bytes of a line, with the line feed at its end
abbrev pub content : Piece → List ℕ
content p = p.line.now ++ (p.spaces.now ++ cond p.has_end (10 ∷ []) [])

-- the lines agree in each of their parts
pub record AreSame (p q : Piece) : Type 0 where
  pub line : p.line.now ≡ q.line.now
  pub spaces : p.spaces.now ≡ q.spaces.now
  pub has_end : p.has_end ≡ q.has_end

-- what the left text has of an edit, and what the right one has
abbrev pub left_part : Edit → List ℕ
left_part (Kept p) = content p
left_part (Removed p) = content p
left_part (Added p) = []

abbrev pub right_part : Edit → List ℕ
right_part (Kept p) = content p
right_part (Removed p) = []
right_part (Added p) = content p

-- one of the texts alone has the line
abbrev pub is_change : Edit → Bool
is_change (Kept p) = false
is_change (Removed p) = true
is_change (Added p) = true

-- What is kept and removed is the left text, and what is kept and added is the right one, each in its order.
pub record IsScript (left right : List ℕ) (edits : List Edit) : Type 0 where
  pub lefts : flat_map left_part edits ≡ left
  pub rights : flat_map right_part edits ≡ right
