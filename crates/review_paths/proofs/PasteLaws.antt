-- Paths that are written step by step.
use Rattle.std.proofs.Common.{◌≡◌, ◌&&◌, ℕ, Bool, true, false, List, [], ◌∷◌, ◌++◌, cond, map, reverse, refl, sym, ◌∙◌, ap}
use Rattle.std.specs.List.{list_all, flat_map}
use Rattle.std.specs.Char.{encode_utf8}
use Rattle.std.specs.Str.{encode_utf8_all}
use Rattle.std.proofs.lemmas.List.{append-nil, append_assoc, map-append, reverse-append}
use Rattle.std.proofs.lemmas.List.Concat.{flat_map-append}
use Rattle.std.proofs.lemmas.List.Folds.{list_all-append}
use Rattle.yaml_store_rank.specs.Forests.{Forests}
use Rattle.yaml_diff.specs.Lines.{step_of, way_of}
use Rattle.yaml_diff.specs.declared.difference.Step as code
use Rattle.yaml_path.specs.Ways.{Way}
use Rattle.review_text.proofs.Pieces.{then_more}
use Rattle.review_paths.specs.Pasted.{escaped_char, escaped, kept_steps, fits_step, pasted_step, begun, unfit, side_text}
use Rattle.review_paths.proofs.HighLaws.{char_same}

-- ---- steps

-- one step more
pub step_more : {X : Type 0} (f : X → List ℕ) (o a n : List ℕ) (xs : List X) (x : X) → a ≡ o ++ flat_map f xs → n ≡ a ++ f x → n ≡ o ++ flat_map f (xs ++ (x ∷ []))
step_more f o a n xs x h k = then_more o a n (flat_map f xs) (f x) h k ∙ ap (λ z. o ++ z) (ap (λ z. flat_map f xs ++ z) (sym (append-nil (f x))) ∙ sym (flat_map-append f xs (x ∷ [])))

map_reverse : {X Y : Type 0} (f : X → Y) (xs : List X) → map f (reverse xs) ≡ reverse (map f xs)
map_reverse f [] = refl
map_reverse f (x ∷ xs) = ap (map f) (reverse-append (x ∷ []) xs) ∙ map-append f (reverse xs) (x ∷ []) ∙ ap (λ z. z ++ (f x ∷ [])) (map_reverse f xs) ∙ sym (reverse-append (f x ∷ []) (map f xs))

-- a path begins with its last step
way_split : (g : Forests) (steps : List code.Step) (s : code.Step) → way_of g (steps ++ (s ∷ [])) ≡ step_of g s ∷ map (step_of g) (reverse steps)
way_split g steps s = ap reverse (map-append (step_of g) steps (s ∷ [])) ∙ reverse-append (map (step_of g) steps) (step_of g s ∷ []) ∙ ap (λ z. step_of g s ∷ z) (sym (map_reverse (step_of g) steps))

all_kept : (w : Way) → w ≡ kept_steps true w
all_kept [] = refl
all_kept (s ∷ w) = refl

pub kept_all : (g : Forests) (path : List code.Step) (numbered : Bool) → numbered ≡ true → map (step_of g) (reverse path) ≡ kept_steps numbered (way_of g path)
kept_all g path numbered e = map_reverse (step_of g) path ∙ all_kept (way_of g path) ∙ ap (λ b. kept_steps b (way_of g path)) (sym e)

pub kept_rest : (g : Forests) (path steps : List code.Step) (s : code.Step) (numbered : Bool) → numbered ≡ false → path ≡ steps ++ (s ∷ []) → map (step_of g) (reverse steps) ≡ kept_steps numbered (way_of g path)
kept_rest g path steps s numbered e h =
    ap (kept_steps false) (sym (way_split g steps s)) ∙ ap (λ z. kept_steps false (way_of g z)) (sym h) ∙ ap (λ b. kept_steps b (way_of g path)) (sym e)

pub kept_none : (g : Forests) (path : List code.Step) (numbered : Bool) → path ≡ [] → map (step_of g) (reverse path) ≡ kept_steps numbered (way_of g path)
kept_none g path numbered h = ap (λ z. map (step_of g) (reverse z)) h ∙ ap (λ z. kept_steps numbered (way_of g z)) (sym h)

-- ---- whether each fits

-- one step more
pub fits_more : {X : Type 0} (p : X → Bool) (b c : Bool) (xs : List X) (x : X) → b ≡ list_all p xs → c ≡ p x → (b && c) ≡ list_all p (xs ++ (x ∷ []))
fits_more p b c xs x h k = ap (λ z. z && c) h ∙ ap (λ z. list_all p xs && z) (k ∙ sym (and_true (p x))) ∙ sym (list_all-append p xs (x ∷ []))
  where
    and_true : (b : Bool) → (b && true) ≡ b
    and_true true = refl
    and_true false = refl

pub all_by_map : {X Y : Type 0} (p : Y → Bool) (f : X → Y) (xs : List X) → list_all (λ x. p (f x)) xs ≡ list_all p (map f xs)
all_by_map p f [] = refl
all_by_map p f (x ∷ xs) = ap (λ z. p (f x) && z) (all_by_map p f xs)

pub flat_by_map : {X Y : Type 0} (q : Y → List ℕ) (f : X → Y) (xs : List X) → flat_map (λ x. q (f x)) xs ≡ flat_map q (map f xs)
flat_by_map q f [] = refl
flat_by_map q f (x ∷ xs) = ap (λ z. q (f x) ++ z) (flat_by_map q f xs)

module _ (g : Forests) (f n l : Bool) (path steps : List code.Step) (b : Bool) (e : map (step_of g) (reverse steps) ≡ kept_steps n (way_of g path)) (h : b ≡ list_all (λ s. fits_step (step_of g s)) (reverse steps)) where
  all_fit : b ≡ list_all fits_step (kept_steps n (way_of g path))
  all_fit = h ∙ all_by_map fits_step (step_of g) (reverse steps) ∙ ap (list_all fits_step) e

  side : Bool → List ℕ
  side c = cond c (begun f (flat_map (pasted_step f l) (kept_steps n (way_of g path)))) (unfit n (way_of g path))

  pub side_fits : (new t s : List ℕ) → b ≡ true → new ≡ [] → t ≡ new ++ flat_map (λ s. pasted_step f l (step_of g s)) (reverse steps) → s ≡ begun f t → s ≡ side_text f n l (way_of g path)
  unfolding side
  side_fits new t s k i j m =
      let r = flat_map (λ s. pasted_step f l (step_of g s)) (reverse steps) in
      let same : t ≡ flat_map (pasted_step f l) (kept_steps n (way_of g path)) = j ∙ ap (λ z. z ++ r) i ∙ flat_by_map (pasted_step f l) (step_of g) (reverse steps) ∙ ap (flat_map (pasted_step f l)) e in
      m ∙ ap (begun f) same ∙ ap side (sym k ∙ all_fit)

  pub side_unfit : (s : List ℕ) → b ≡ false → s ≡ unfit n (way_of g path) → s ≡ side_text f n l (way_of g path)
  unfolding side
  side_unfit s k m = m ∙ ap side (sym k ∙ all_fit)

-- ---- a text that is written character by character

module _ (b : Bool) where
  past : (bs rest : List ℕ) (c : ℕ) → bs ≡ encode_utf8 c ++ rest → escaped b bs ≡ encode_utf8_all (escaped_char b c) ++ escaped b rest
  past bs rest c e = ap (flat_map (escaped_char b)) e ∙ flat_map-append (escaped_char b) (encode_utf8 c) rest ∙ ap (λ z. z ++ flat_map (escaped_char b) rest) (char_same b c)

  pub escaped_next : (bs rest : List ℕ) (c : ℕ) (o a whole : List ℕ) → bs ≡ encode_utf8 c ++ rest → o ++ escaped b bs ≡ whole → a ≡ o ++ encode_utf8_all (escaped_char b c) → a ++ escaped b rest ≡ whole
  escaped_next bs rest c o a whole e h k =
      ap (λ z. z ++ escaped b rest) k ∙ append_assoc o (encode_utf8_all (escaped_char b c)) (escaped b rest) ∙ ap (λ z. o ++ z) (sym (past bs rest c e)) ∙ h

  pub escaped_all : (bs o whole : List ℕ) → bs ≡ [] → o ++ escaped b bs ≡ whole → o ≡ whole
  escaped_all bs o whole e h = sym (append-nil o) ∙ ap (λ z. o ++ escaped b z) (sym e) ∙ h
