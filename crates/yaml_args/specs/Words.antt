-- What the words ask for.
use Rattle.std.specs.Prelude.{◌≡◌, ◌==◌, ℕ, Bool, false, List, [], ◌∷◌, Option, Some, None, option_map, if◌then◌else◌, codes}
use Rattle.std.specs.Str.{bytes_eq}
use Rattle.yaml_args.specs.declared.words.Asked.{Asked}
use Rattle.yaml_args.specs.declared.words.Asked.TheVariants.{Canon, Same, Events, Check}
use Rattle.yaml_args.specs.declared.words.WordsFault.{WordsFault}
use Rattle.yaml_args.specs.declared.words.WordsFault.TheVariants.{Usage, OutOfMemory}

-- the word has two bytes or more and begins with `-`
abbrev pub is_dashed : List ℕ → Bool
is_dashed (first ∷ second ∷ more) = first == 45
is_dashed _ = false

-- The names of files among the words behind a command: each word, but for the first `--`. Up to that none may be dashed.
abbrev pub files_of : List (List ℕ) → Option (List (List ℕ))
files_of [] = Some []
files_of (word ∷ words) =
    if bytes_eq word (codes "--") then Some words
    else (if is_dashed word then None else option_map (λ files. word ∷ files) (files_of words))

-- a command's word, and the names of its files
abbrev pub call_of : Asked → List ℕ × List (List ℕ)
call_of (Canon None) = (codes "canon", [])
call_of (Canon (Some file)) = (codes "canon", file.now ∷ [])
call_of (Same left right) = (codes "same", left.now ∷ right.now ∷ [])
call_of (Events None) = (codes "events", [])
call_of (Events (Some file)) = (codes "events", file.now ∷ [])
call_of (Check file lines) = (codes "check", file.now ∷ lines.now ∷ [])

-- the first word is this command's, and the words behind it name these files
abbrev pub Says : List (List ℕ) → List ℕ × List (List ℕ) → Type 0
Says words call = (behind : List (List ℕ)) × (words ≡ call.0 ∷ behind) × (files_of behind ≡ Some call.1)

-- the words ask for this; there is one call at most that they say
abbrev pub Asks : List (List ℕ) → Asked → Type 0
Asks words asked = Says words (call_of asked)

-- why it is not told what words ask for: they ask for nothing, or memory was refused
abbrev pub RefusesWords : List (List ℕ) → WordsFault → Type 0
RefusesWords words Usage = (asked : Asked) → Asks words asked → ⊥
RefusesWords words OutOfMemory = Unit {0}
