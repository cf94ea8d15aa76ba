-- Paths that are written step by step.
use Rattle.std.proofs.Common.{◌≡◌, ◌==◌, ℕ, Bool, length, List, [], ◌∷◌, ◌++◌, map, reverse, refl, sym, ◌∙◌, ap}
use Rattle.std.specs.List.{flat_map}
use Rattle.std.proofs.lemmas.List.{append-nil, map-append, reverse-append, length-map, length-reverse}
use Rattle.std.proofs.lemmas.List.Concat.{flat_map-append}
use Rattle.yaml_store_rank.specs.Forests.{Forests}
use Rattle.yaml_diff.specs.Lines.{step_of, way_of}
use Rattle.yaml_diff.specs.declared.difference.Step as code
use Rattle.review_text.proofs.Pieces.{then_more}
use Rattle.review_text.specs.PathText.{step_text, start_text, path_text}

-- one step more
pub step_more : {X : Type 0} (f : X → List ℕ) (o a n : List ℕ) (xs : List X) (x : X) → a ≡ o ++ flat_map f xs → n ≡ a ++ f x → n ≡ o ++ flat_map f (xs ++ (x ∷ []))
step_more f o a n xs x h k = then_more o a n (flat_map f xs) (f x) h k ∙ ap (λ z. o ++ z) (ap (λ z. flat_map f xs ++ z) (sym (append-nil (f x))) ∙ sym (flat_map-append f xs (x ∷ [])))

map_reverse : {X Y : Type 0} (f : X → Y) (xs : List X) → map f (reverse xs) ≡ reverse (map f xs)
map_reverse f [] = refl
map_reverse f (x ∷ xs) = ap (map f) (reverse-append (x ∷ []) xs) ∙ map-append f (reverse xs) (x ∷ []) ∙ ap (λ z. z ++ (f x ∷ [])) (map_reverse f xs) ∙ sym (reverse-append (f x ∷ []) (map f xs))

-- a path begins with its last step
pub way_split : (g : Forests) (steps : List code.Step) (s : code.Step) → way_of g (steps ++ (s ∷ [])) ≡ step_of g s ∷ map (step_of g) (reverse steps)
way_split g steps s = ap reverse (map-append (step_of g) steps (s ∷ [])) ∙ reverse-append (map (step_of g) steps) (step_of g s ∷ []) ∙ ap (λ z. step_of g s ∷ z) (sym (map_reverse (step_of g) steps))

same_count : (g : Forests) (steps : List code.Step) → length (map (step_of g) (reverse steps)) ≡ length steps
same_count g steps = length-map (reverse steps) (step_of g) ∙ length-reverse steps

pub path_written : (g : Forests) (path steps seen : List code.Step) (s : code.Step) (numbered : Bool) (o a : List ℕ) → path ≡ steps ++ (s ∷ []) → seen ≡ reverse steps → o ≡ start_text numbered (length steps == 0) (step_of g s) → a ≡ o ++ flat_map (λ z. step_text (step_of g z)) seen
    → a ≡ path_text numbered (way_of g path)
path_written g path steps seen s numbered o a e q h k =
    k ∙ ap (λ z. z ++ flat_map (λ z. step_text (step_of g z)) seen) h
    ∙ ap (λ z. start_text numbered (length steps == 0) (step_of g s) ++ z) (by_map seen ∙ ap (λ z. flat_map step_text (map (step_of g) z)) q)
    ∙ ap (λ n. start_text numbered (n == 0) (step_of g s) ++ flat_map step_text (map (step_of g) (reverse steps))) (sym (same_count g steps))
    ∙ ap (path_text numbered) (sym (way_split g steps s)) ∙ ap (λ z. path_text numbered (way_of g z)) (sym e)
  where
    by_map : (xs : List code.Step) → flat_map (λ z. step_text (step_of g z)) xs ≡ flat_map step_text (map (step_of g) xs)
    by_map [] = refl
    by_map (x ∷ xs) = ap (λ z. step_text (step_of g x) ++ z) (by_map xs)
