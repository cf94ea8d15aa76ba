-- The sides of a file, by what git passes of them.
use Rattle.std.specs.Prelude.{◌≡◌, ◌⊎◌, ◌==◌, ℕ, Bool, true, not, cond, List, [], ◌∷◌, ◌++◌, codes, bytes_eq, eqb}
use Rattle.std.specs.List.{list_any, starts_with}
use Rattle.std.specs.Str.Iter.{HasSubslice}
use Rattle.review_text.specs.Terminal.{terminal}
use Rattle.review_git.specs.declared.asked.Kind.{Kind}
use Rattle.review_git.specs.declared.asked.Kind.TheVariants as kind
use Rattle.review_git.specs.declared.asked.Side.{Side}

-- what a side is: `.` is the mode of one that does not exist
abbrev pub kind_of : List ℕ → Kind
kind_of mode = cond (bytes_eq mode (codes ".")) kind.None (cond (bytes_eq mode (codes "120000")) kind.Link (cond (bytes_eq mode (codes "160000")) kind.Submodule kind.File))

abbrev pub kind_note : Kind → List ℕ
kind_note kind.Link = codes " (symbolic link)"
kind_note kind.Submodule = codes " (submodule)"
kind_note _ = []

-- a mode, and what it stands for where that is no file
abbrev pub mode_text : List ℕ → List ℕ
mode_text mode = terminal mode ++ kind_note (kind_of mode)

-- what is printed of a side that is the only one: its mode, unless it is that of most files
abbrev pub alone_line : List ℕ → List ℕ → List ℕ
alone_line words mode = words ++ (cond (bytes_eq mode (codes "100644")) [] (codes ", mode " ++ mode_text mode) ++ codes "\n")

-- two modes, if they are different
abbrev pub modes_line : List ℕ → List ℕ → List ℕ
modes_line old new = cond (bytes_eq old new) [] (codes "mode " ++ (mode_text old ++ (codes " -> " ++ (mode_text new ++ codes "\n"))))

-- Two sides are known to have the same bytes: they have the same hash. That of a file that is not in git's store is zeros.
abbrev pub is_hash : List ℕ → Bool
is_hash hash = list_any (λ c. not (c == 48)) hash

abbrev pub AreEqual : Side → Side → Type 0
AreEqual left right = (left.hash.now ≡ right.hash.now) × (is_hash left.hash.now ≡ true)

-- ---- paths

-- one of git's lines begins with this text
abbrev pub HasLine : List ℕ → List ℕ → Type 0
HasLine start lines = (starts_with eqb lines start ≡ true) ⊎ HasSubslice lines (10 ∷ start)

-- The text is `copied` if one of git's lines says so, and `renamed` if none does.
abbrev pub IsChange : List ℕ → List ℕ → Type 0
IsChange lines text = (HasLine (codes "copy from ") lines × (text ≡ codes "copied from ")) ⊎ ((HasLine (codes "copy from ") lines → ⊥) × (text ≡ codes "renamed from "))
