-- Words in the order in which `kubectl diff` passes them.
use Rattle.std.specs.Prelude.{ℕ, ◌==◌, ◌&&◌, Bool, false, cond, codes, List, [], ◌∷◌, ◌++◌, drop, take}
use Rattle.std.specs.Str.{bytes_eq}

-- the text begins with `/`
abbrev pub is_absolute : List ℕ → Bool
is_absolute [] = false
is_absolute (byte ∷ bytes) = byte == 47

-- kubectl passes the absolute paths of two folders, and behind them the command `diff` and its options
abbrev pub are_kubectls : List (List ℕ) → Bool
are_kubectls (left ∷ right ∷ command ∷ options) = is_absolute left && (is_absolute right && bytes_eq command (codes "diff"))
are_kubectls _ = false

-- The command is first, and the folders are last, of which all files are compared.
abbrev pub in_order : List (List ℕ) → List (List ℕ)
in_order words = cond (are_kubectls words) ((drop 2 words ++ (codes "--include=*" ∷ [])) ++ take 2 words) words
