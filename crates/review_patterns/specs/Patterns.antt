-- Patterns of paths. A path is the list of its steps' texts, of which the first one is the document's.
use Rattle.std.specs.Prelude.{◌≡◌, ◌⊎◌, ℕ, ◌<◌, Bool, true, false, ◌&&◌, ◌||◌, bytes_eq, List, [], ◌∷◌, ◌++◌, map, length, codes}
use Rattle.std.specs.List.{list_any, flat_map}
use Rattle.review_patterns.specs.Grammar.{is_document, AreSteps}
use Rattle.review_patterns.specs.Places.{inside, has_place}
use Rattle.review_patterns.specs.declared.pattern.Pattern.{Pattern}

abbrev pub steps_of : Pattern → List (List ℕ)
steps_of p = map (λ step. step.now) p.steps.items

-- what stands for any step: of the document also no text
abbrev pub is_any : List ℕ → Bool
is_any step = list_any (λ word. bytes_eq step word) ([] ∷ codes "*" ∷ codes ".*" ∷ codes "[*]" ∷ [])

-- a step of a pattern stands for any step, for that of its text, or for the items at its places
abbrev pub fits : List ℕ → List ℕ → Bool
fits step text = is_any step || (bytes_eq step text || has_place (inside step) (inside text))

-- A path is at or below one that a pattern matches: each step of the pattern fits the step at its place.
abbrev pub covers : List (List ℕ) → List (List ℕ) → Bool
covers [] texts = true
covers (step ∷ steps) [] = false
covers (step ∷ steps) (text ∷ texts) = fits step text && covers steps texts

-- the same of one of several patterns
abbrev pub is_covered : List Pattern → List (List ℕ) → Bool
is_covered patterns texts = list_any (λ pattern. covers (steps_of pattern) texts) patterns

-- the step for the document, and the steps of a text behind it
abbrev pub Begins : List ℕ → List ℕ → List (List ℕ) → Type 0
Begins document text steps = (more : List (List ℕ)) × AreSteps more × (steps ≡ document ∷ more) × (text ≡ flat_map (λ step. step) more)

-- A pattern has the step for the document and then one step after another. `.` is any document.
abbrev pub IsPattern : List ℕ → List (List ℕ) → Type 0
IsPattern text steps =
    ((text ≡ codes ".") × (steps ≡ [] ∷ []))
    ⊎ ((0 < length text) × (document : List ℕ) × (rest : List ℕ) × (is_document document ≡ true) × Begins document rest steps × (text ≡ document ++ rest))
