-- Steps and paths as JSON.
use Rattle.std.proofs.Common.{◌≡◌, ◌&&◌, ℕ, Bool, true, false, cond, List, [], ◌∷◌, ◌++◌, map, reverse, refl, sym, ◌∙◌, ap, ap₂, subst}
use Rattle.std.specs.Prelude.{Some, None, bytes_eq}
use Rattle.std.specs.List.{flat_map}
use Rattle.std.proofs.lemmas.List.{append_assoc, append-nil, map-append, reverse-append}
use Rattle.std.proofs.lemmas.List.Concat.{flat_map-append}
use Rattle.yaml_definitions.specs.model.Tree.{Tree, scalar, sequence, mapping}
use Rattle.yaml_definitions.specs.model.Tag.{str_tag}
use Rattle.yaml_store_rank.specs.Forests.{Forests}
use Rattle.yaml_diff.specs.Lines.{step_of, way_of}
use Rattle.yaml_diff.specs.declared.difference.Step as code
use Rattle.review_text.proofs.Pieces.{then_more}
use Rattle.review_paths.specs.Json.{string_json, unnamed_json, key_json, step_json, next_json, inner_json}
use Rattle.review_paths.specs.Pasted.{str_content, is_short}

pub told : (t : Tree) (x : List ℕ) → Some x ≡ str_content t → is_short x ≡ true → key_json t ≡ string_json x
unfolding key_json
told (scalar g y) x e h = by (bytes_eq g str_tag) refl e
  where
    by : (b : Bool) → bytes_eq g str_tag ≡ b → Some x ≡ cond b (Some y) None → key_json (scalar g y) ≡ string_json x
    by true q k = let p : x ≡ y = cc in ap (λ z. cond (z && is_short y) (string_json y) (unnamed_json (scalar g y))) q ∙ subst (λ z. cond (is_short z) (string_json z) (unnamed_json (scalar g z)) ≡ string_json x) p (ap (λ z. cond z (string_json x) (unnamed_json (scalar g x))) h)
    by false q k = absurd cc
told (sequence g ts) x e h = absurd cc
told (mapping g ps) x e h = absurd cc

pub told_by_text : (t : Tree) (x : List ℕ) → Some x ≡ str_content t → is_short x ≡ false → key_json t ≡ unnamed_json t
unfolding key_json
told_by_text (scalar g y) x e h = by (bytes_eq g str_tag) refl e
  where
    by : (b : Bool) → bytes_eq g str_tag ≡ b → Some x ≡ cond b (Some y) None → key_json (scalar g y) ≡ unnamed_json (scalar g y)
    by true q k = let p : x ≡ y = cc in ap (λ z. cond z (string_json y) (unnamed_json (scalar g y))) (ap₂ ◌&&◌ q (ap is_short (sym p) ∙ h))
    by false q k = absurd cc
told_by_text (sequence g ts) x e h = refl
told_by_text (mapping g ps) x e h = refl

pub other_told : (t : Tree) → None ≡ str_content t → key_json t ≡ unnamed_json t
unfolding key_json
other_told (scalar g y) e = by (bytes_eq g str_tag) refl e
  where
    by : (b : Bool) → bytes_eq g str_tag ≡ b → None ≡ cond b (Some y) None → key_json (scalar g y) ≡ unnamed_json (scalar g y)
    by true q k = absurd cc
    by false q k = ap (λ z. cond (z && is_short y) (string_json y) (unnamed_json (scalar g y))) q
other_told (sequence g ts) e = refl
other_told (mapping g ps) e = refl

-- ---- one step behind another

pub step_more : {X : Type 0} (f : X → List ℕ) (o a n : List ℕ) (xs : List X) (x : X) → a ≡ o ++ flat_map f xs → n ≡ a ++ f x → n ≡ o ++ flat_map f (xs ++ (x ∷ []))
step_more f o a n xs x h k = then_more o a n (flat_map f xs) (f x) h k ∙ ap (λ z. o ++ z) (ap (λ z. flat_map f xs ++ z) (sym (append-nil (f x))) ∙ sym (flat_map-append f xs (x ∷ [])))

map_reverse : {X Y : Type 0} (f : X → Y) (xs : List X) → map f (reverse xs) ≡ reverse (map f xs)
map_reverse f [] = refl
map_reverse f (x ∷ xs) = ap (map f) (reverse-append (x ∷ []) xs) ∙ map-append f (reverse xs) (x ∷ []) ∙ ap (λ z. z ++ (f x ∷ [])) (map_reverse f xs) ∙ sym (reverse-append (f x ∷ []) (map f xs))

-- a path begins with its last step
way_split : (g : Forests) (steps : List code.Step) (s : code.Step) → way_of g (steps ++ (s ∷ [])) ≡ step_of g s ∷ map (step_of g) (reverse steps)
way_split g steps s = ap reverse (map-append (step_of g) steps (s ∷ [])) ∙ reverse-append (map (step_of g) steps) (step_of g s ∷ []) ∙ ap (λ z. step_of g s ∷ z) (sym (map_reverse (step_of g) steps))

pub steps_written : (g : Forests) (path steps seen : List code.Step) (s : code.Step) (b o a : List ℕ) → path ≡ steps ++ (s ∷ []) → seen ≡ reverse steps → o ≡ b ++ step_json (step_of g s) → a ≡ o ++ flat_map (λ z. next_json (step_of g z)) seen
    → a ≡ b ++ inner_json (way_of g path)
steps_written g path steps seen s b o a e q h k =
    let first = step_json (step_of g s) in
    k ∙ ap (λ z. z ++ flat_map (λ z. next_json (step_of g z)) seen) h
    ∙ append_assoc b first (flat_map (λ z. next_json (step_of g z)) seen)
    ∙ ap (λ z. b ++ (first ++ z)) (by_map seen ∙ ap (λ z. flat_map next_json (map (step_of g) z)) q)
    ∙ ap (λ z. b ++ inner_json z) (sym (way_split g steps s)) ∙ ap (λ z. b ++ inner_json (way_of g z)) (sym e)
  where
    by_map : (xs : List code.Step) → flat_map (λ z. next_json (step_of g z)) xs ≡ flat_map next_json (map (step_of g) xs)
    by_map [] = refl
    by_map (x ∷ xs) = ap (λ z. next_json (step_of g x) ++ z) (by_map xs)
