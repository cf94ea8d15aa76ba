-- The steps of paths as texts.
use Rattle.std.proofs.Common.{◌≡◌, List, [], ◌∷◌, ◌++◌, ℕ, map, reverse, true, refl, sym, ◌∙◌, ap}
use Rattle.std.proofs.lemmas.List.{append-nil, append_assoc, map-append, reverse-append}
use Rattle.yaml_store_rank.specs.Forests.{Forests}
use Rattle.yaml_diff.specs.Lines.{step_of, way_of}
use Rattle.yaml_diff.specs.declared.difference.Step as code
use Rattle.review_text.specs.Hidden.{visible}
use Rattle.review_text.specs.PathText.{first_text, step_text, path_text}
use Rattle.review_folds.specs.Ignored.{texts_of}

map_reverse : {X Y : Type 0} (f : X → Y) (xs : List X) → map f (reverse xs) ≡ reverse (map f xs)
map_reverse f [] = refl
map_reverse f (x ∷ xs) = ap (map f) (reverse-append (x ∷ []) xs) ∙ map-append f (reverse xs) (x ∷ []) ∙ ap (λ z. z ++ (f x ∷ [])) (map_reverse f xs) ∙ sym (reverse-append (f x ∷ []) (map f xs))

-- a path begins with its last step
way_split : (g : Forests) (steps : List code.Step) (s : code.Step) → way_of g (steps ++ (s ∷ [])) ≡ step_of g s ∷ map (step_of g) (reverse steps)
way_split g steps s = ap reverse (map-append (step_of g) steps (s ∷ [])) ∙ reverse-append (map (step_of g) steps) (step_of g s ∷ []) ∙ ap (λ z. step_of g s ∷ z) (sym (map_reverse (step_of g) steps))

-- a path of one step
pub one_step : (g : Forests) (s : code.Step) → path_text true (way_of g (s ∷ [])) ≡ first_text (step_of g s)
one_step g s = append-nil (first_text (step_of g s))

abbrev pub written : Forests → code.Step → List ℕ
written g s = visible (step_text (step_of g s))

by_map : (g : Forests) (xs : List code.Step) → map (written g) xs ≡ map (λ t. visible (step_text t)) (map (step_of g) xs)
by_map g [] = refl
by_map g (x ∷ xs) = ap (λ z. written g x ∷ z) (by_map g xs)

-- all steps of a path are written
pub all_written : (g : Forests) (path steps seen : List code.Step) (s : code.Step) (first texts : List (List ℕ)) → path ≡ steps ++ (s ∷ []) → seen ≡ reverse steps → first ≡ visible (first_text (step_of g s)) ∷ [] → texts ≡ first ++ map (written g) seen
    → texts ≡ texts_of (way_of g path)
all_written g path steps seen s first texts e q h k =
    k ∙ ap (λ z. z ++ map (written g) seen) h ∙ ap (λ z. visible (first_text (step_of g s)) ∷ z) (by_map g seen ∙ ap (λ z. map (λ t. visible (step_text t)) (map (step_of g) z)) q)
    ∙ ap texts_of (sym (way_split g steps s)) ∙ ap (λ z. texts_of (way_of g z)) (sym e)

-- one step more
pub one_written : {X : Type 0} (f : X → List ℕ) (first texts new : List (List ℕ)) (seen : List X) (x : X) (t : List ℕ) → texts ≡ first ++ map f seen → new ≡ texts ++ (t ∷ []) → t ≡ f x → new ≡ first ++ map f (seen ++ (x ∷ []))
one_written f first texts new seen x t h n e =
    n ∙ ap (λ z. z ++ (t ∷ [])) h ∙ append_assoc first (map f seen) (t ∷ []) ∙ ap (λ z. first ++ (map f seen ++ (z ∷ []))) e ∙ ap (λ z. first ++ z) (sym (map-append f seen (x ∷ [])))
