-- What the words of git ask for (git(1), GIT_EXTERNAL_DIFF).
use Rattle.std.specs.Prelude.{◌≡◌, ◌⊎◌, ℕ, Bool, true, false, List, [], ◌∷◌, Option, Some, None, codes, bytes_eq, if◌then◌else◌}
use Rattle.std.specs.Borrow.{Bor}
use Rattle.review_git.specs.declared.asked.Side.{Side}
use Rattle.review_git.specs.declared.asked.GitAsked.{GitAsked}
use Rattle.review_git.specs.declared.asked.GitAsked.TheVariants.{Unmerged, Changed}
use Rattle.review_git.specs.declared.asked.Style.{Style}
use Rattle.review_git.specs.declared.asked.Style.TheVariants.{Differences, Shown}

-- of a side its file, hash and mode, and then other words
abbrev pub side_words : Side → List (List ℕ) → List (List ℕ)
side_words side more = side.file.now ∷ side.hash.now ∷ side.mode.now ∷ more

-- of a file that was renamed or copied, its new path and git's lines on it
abbrev pub renamed_words : Option (Bor (List ℕ) × Bor (List ℕ)) → List (List ℕ)
renamed_words None = []
renamed_words (Some r) = r.0.now ∷ r.1.now ∷ []

-- The words that git passes: the path of a file that is not merged; or that of a changed one, then the old side and the new one.
abbrev pub git_words : GitAsked → List (List ℕ)
git_words (Unmerged path) = path.now ∷ []
git_words (Changed pair) = pair.path.now ∷ side_words pair.left (side_words pair.right (renamed_words pair.renamed))

-- what is to be printed of two files
abbrev pub HasStyle : Style → GitAsked → Type 0
HasStyle style (Unmerged path) = Unit {0}
HasStyle style (Changed pair) = pair.style ≡ style

abbrev pub AsksPlainly : Style → List (List ℕ) → GitAsked → Type 0
AsksPlainly style words asked = (words ≡ git_words asked) × HasStyle style asked

-- What an option before the words of git asks for. With `auto` it depends on the output, as without an option.
abbrev pub style_of : Bool → List ℕ → Option Style
style_of is_color option = if bytes_eq option (codes "--lines=show") then Some Shown
    else (if bytes_eq option (codes "--color=always") then Some (Differences true)
    else (if bytes_eq option (codes "--color=never") then Some (Differences false)
    else (if bytes_eq option (codes "--color=auto") then Some (Differences is_color)
    else None)))

-- The words ask for this: they are those of git, or an option and those of git.
abbrev pub IsGitAsked : List (List ℕ) → Bool → GitAsked → Type 0
IsGitAsked words is_color asked = AsksPlainly (Differences is_color) words asked
    ⊎ ((option : List ℕ) × (rest : List (List ℕ)) × (style : Style) × (words ≡ option ∷ rest) × (style_of is_color option ≡ Some style) × AsksPlainly style rest asked)
