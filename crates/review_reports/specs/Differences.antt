-- What a page says of a difference.
use Rattle.std.specs.Prelude.{◌≡◌, ◌-◌, ℕ, List, [], ◌∷◌, ◌++◌, Option, Some, None, codes, option_map, string_bytes}
use Rattle.review_formats.specs.Findings.{sign_word, sides_says}
use Rattle.review_formats.specs.declared.finding.Finding.{Finding}
use Rattle.review_formats.specs.declared.finding.Level.TheVariants as levels
use Rattle.review_formats.specs.declared.finding.Sides.{Sides}
use Rattle.review_formats.specs.declared.finding.Sign.{Sign}
use Rattle.review_formats.specs.declared.finding.Sign.TheVariants.{Changed, Left, Right, Moved}
use Rattle.yaml_path.specs.declared.place.Place.{Place}
use Rattle.review_lines.specs.declared.lines.Line.{Line}
use Rattle.review_text.specs.Hidden.{visible}

-- what both sides of a line have
abbrev pub sign_of : {X Y : Type 0} → Option X → Option Y → Sign
sign_of (Some left) (Some right) = Changed
sign_of (Some left) None = Left
sign_of None (Some right) = Right
sign_of None None = Moved

-- the file that a difference is told of, and the place in it: the right one unless that has nothing there
abbrev pub file_of : Sign → List ℕ → List ℕ → List ℕ
file_of Left left right = left
file_of Changed left right = right
file_of Right left right = right
file_of Moved left right = right

abbrev pub place_of : Sign → Line → Option Place
place_of Left line = line.left_place
place_of Changed line = line.right_place
place_of Right line = line.right_place
place_of Moved line = line.right_place

-- the texts of both sides behind a colon, with an arrow between them
abbrev pub sides_text : Option (List ℕ) → Option (List ℕ) → List ℕ
sides_text (Some left) (Some right) = codes ": " ++ (left ++ (codes " -> " ++ right))
sides_text (Some left) None = codes ": " ++ left
sides_text None (Some right) = codes ": " ++ right
sides_text None None = []

abbrev pub message_text : List ℕ → Option (List ℕ) → Option (List ℕ) → List ℕ
message_text says left right = says ++ sides_text left right

-- Both sides as the line has them, and how many other differences it tells, with escapes for the characters that would not be seen.
pub record AreSides (line : Line) (sides : Sides) : Type 0 where
  pub sign : sides.sign ≡ sign_of line.left line.right
  pub others : sides.others ≡ line.count - 1
  pub left : option_map string_bytes sides.left ≡ option_map (λ text. visible (string_bytes text)) line.left
  pub right : option_map string_bytes sides.right ≡ option_map (λ text. visible (string_bytes text)) line.right
  pub left_place : sides.left_place ≡ line.left_place
  pub right_place : sides.right_place ≡ line.right_place
  pub changes : option_map string_bytes sides.changes ≡ option_map (λ changes. visible (string_bytes changes.text)) line.changes

-- It is this difference of two files of these names: a note at its file and place, with its path and what both sides have.
pub record IsDifference (left right : List ℕ) (line : Line) (one : Finding) : Type 0 where
  pub sides : Sides
  pub has : one.sides ≡ Some sides
  pub are : AreSides line sides
  pub rule : one.rule.now ≡ sign_word sides.sign
  pub level : one.level ≡ levels.Note
  pub file : string_bytes one.file ≡ file_of sides.sign left right
  pub place : one.place ≡ place_of sides.sign line
  pub path : option_map string_bytes one.path ≡ Some (visible (string_bytes line.path))
  pub message : string_bytes one.message ≡ message_text (sides_says sides) (option_map string_bytes sides.left) (option_map string_bytes sides.right)

-- these differences, one by one
abbrev pub AreDifferences : List ℕ → List ℕ → List Line → List Finding → Type 0
AreDifferences left right [] list = list ≡ []
AreDifferences left right (line ∷ lines) list = (one : Finding) × (rest : List Finding) × IsDifference left right line one × AreDifferences left right lines rest × (list ≡ one ∷ rest)
