-- What is written for a side is read as its steps.
use Rattle.std.proofs.Common.{◌≡◌, ◌==◌, ℕ, Bool, true, false, List, [], ◌∷◌, ◌++◌, cond, map, refl, sym, ◌∙◌, ap, subst, append_assoc}
use Rattle.std.specs.Prelude.{Option, Some, None, codes, bytes_eq, unwrap_or}
use Rattle.std.specs.List.{list_all, flat_map}
use Rattle.std.specs.Fmt.{decimal}
use Rattle.std.proofs.lemmas.Bool.{eqb-true, and_parts}
use Rattle.std.proofs.lemmas.Slice.Eq.{bytes_eq-Decides}
use Rattle.yaml_definitions.specs.model.Tree.{Tree, scalar, sequence, mapping}
use Rattle.yaml_definitions.specs.model.Tag.{str_tag}
use Rattle.yaml_path.specs.Path.{part, reach, at_item}
use Rattle.yaml_path.specs.Path as plain
use Rattle.yaml_path.specs.Ways.{Way, at_places, at_key}
use Rattle.review_paths.specs.Pasted.{str_content, fits_step, fits_content, escaped, side_place, pasted_step, filter_key, pointer_key, is_filter_name, kept_steps, dotted, has_dot, unfit}
use Rattle.review_paths.specs.Reading.{member, Token, token_end, tilde, slash, token_char, Pointer, whole, item, value, Chars, string_end, quote, backslash, string_char, Suffixes, no_suffix, index, field, quoted, Filter, by_field, by_dot}
use Rattle.review_paths.specs.Laws.{PointersLead, FiltersLead}
use Rattle.review_paths.proofs.SideLaws.{side_step, not_some, leads}

-- ---- keys

token : (x : List ℕ) → Token (escaped false x) x
token [] = token_end
token (c ∷ x) = by (token x) (c == 126) (c == 47) refl refl
  where
    by : Token (escaped false x) x → (a b : Bool) → (c == 126) ≡ a → (c == 47) ≡ b → Token (cond a (126 ∷ 48 ∷ []) (cond b (126 ∷ 49 ∷ []) (c ∷ [])) ++ escaped false x) (c ∷ x)
    by r true b e f = subst (λ z. Token (126 ∷ 48 ∷ escaped false x) (z ∷ x)) (sym (eqb-true c 126 e)) (tilde r)
    by r false true e f = subst (λ z. Token (126 ∷ 49 ∷ escaped false x) (z ∷ x)) (sym (eqb-true c 47 f)) (slash r)
    by r false false e f = token_char e f r

chars : (x : List ℕ) → Chars (escaped true x) x
chars [] = string_end
chars (c ∷ x) = by (chars x) (c == 34) (c == 92) refl refl
  where
    by : Chars (escaped true x) x → (a b : Bool) → (c == 34) ≡ a → (c == 92) ≡ b → Chars (cond a (92 ∷ 34 ∷ []) (cond b (92 ∷ 92 ∷ []) (c ∷ [])) ++ escaped true x) (c ∷ x)
    by r true b e f = subst (λ z. Chars (92 ∷ 34 ∷ escaped true x) (z ∷ x)) (sym (eqb-true c 34 e)) (quote r)
    by r false true e f = subst (λ z. Chars (92 ∷ 92 ∷ escaped true x) (z ∷ x)) (sym (eqb-true c 92 f)) (backslash r)
    by r false false e f = string_char e f r

false_not : false ≡ true → ⊥
false_not e = absurd cc

-- a key that fits is a string
key_of : (y : Tree) → fits_step (at_key y) ≡ true → (key : List ℕ) × (y ≡ scalar str_tag key) × (unwrap_or (str_content y) [] ≡ key)
key_of (scalar g z) f = by (bytes_eq g str_tag) refl
  where
    by : (b : Bool) → bytes_eq g str_tag ≡ b → (key : List ℕ) × (scalar g z ≡ scalar str_tag key) × (unwrap_or (cond b (Some z) None) [] ≡ key)
    by true e = (z, ap (λ h. scalar h z) ((bytes_eq-Decides g str_tag).0 e), refl)
    by false e = absurd (false_not (ap (λ b. fits_content (cond b (Some z) None)) (sym e) ∙ f))
key_of (sequence g ts) f = absurd cc
key_of (mapping g ps) f = absurd cc

nothing : (p : plain.Path) → reach None p ≡ None
nothing [] = refl
nothing (s ∷ p) = nothing p

-- the first step leads to a tree
first : (t : Tree) (s : plain.Step) (p : plain.Path) (x : Tree) → reach (Some t) (s ∷ p) ≡ Some x → (u : Tree) × (part t s ≡ Some u) × (reach (Some u) p ≡ Some x)
first t s p x e = by (part t s) refl e
  where
    by : (o : Option Tree) → part t s ≡ o → reach o p ≡ Some x → (u : Tree) × (part t s ≡ Some u) × (reach (Some u) p ≡ Some x)
    by None h e = absurd (not_some x (sym (nothing p) ∙ e))
    by (Some u) h e = (u, h, e)

some_is : (t x : Tree) → Some t ≡ Some x → t ≡ x
some_is t x e = cc

-- ---- pointers

pointer : (l : Bool) (w : Way) (t x : Tree) → list_all fits_step w ≡ true → reach (Some t) (map (side_step l) w) ≡ Some x → Pointer x (flat_map (pasted_step false l) w) t
pointer l [] t x f e = subst (λ z. Pointer x [] z) (sym (some_is t x e)) whole
pointer l (at_places p ∷ w) t x f e =
    let h = first t (at_item (side_place l p)) (map (side_step l) w) x e in
    item (side_place l p) h.1 (pointer l w h.0 x f h.2)
pointer l (at_key y ∷ w) t x f e =
    let k = key_of y (and_parts (fits_step (at_key y)) (list_all fits_step w) f).0 in
    let h = first t (plain.at_key y) (map (side_step l) w) x e in
    let there : member t k.0 ≡ Some h.0 = ap (λ z. part t (plain.at_key z)) (sym k.1) ∙ h.1 in
    let rest = pointer l w h.0 x (and_parts (fits_step (at_key y)) (list_all fits_step w) f).1 h.2 in
    subst (λ z. Pointer x ((pointer_key z) ++ flat_map (pasted_step false l) w) t) (sym k.2) (value (token k.0) there rest)

pub pointers_lead : PointersLead
pointers_lead l n t w x f e =
    subst (λ b. Pointer x (cond b (flat_map (pasted_step false l) (kept_steps n w)) (unfit n w)) t) (sym f) (pointer l (kept_steps n w) t x f (leads l (Some t) (kept_steps n w) x e))

-- ---- filters

key_suffix : (key r : List ℕ) (t u x : Tree) → member t key ≡ Some u → Suffixes x r u → Suffixes x (filter_key key ++ r) t
key_suffix key r t u x e s = by (is_filter_name key) refl
  where
    by : (b : Bool) → is_filter_name key ≡ b → Suffixes x (cond b (codes "." ++ key) (codes "[\"" ++ (escaped true key ++ codes "\"]")) ++ r) t
    by true h = field key h e s
    by false h = subst (λ z. Suffixes x (codes "[\"" ++ z) t) (sym (append_assoc (escaped true key) (codes "\"]") r)) (quoted (chars key) e s)

suffixes : (l : Bool) (w : Way) (t x : Tree) → list_all fits_step w ≡ true → reach (Some t) (map (side_step l) w) ≡ Some x → Suffixes x (flat_map (pasted_step true l) w) t
suffixes l [] t x f e = subst (λ z. Suffixes x [] z) (sym (some_is t x e)) no_suffix
suffixes l (at_places p ∷ w) t x f e =
    let h = first t (at_item (side_place l p)) (map (side_step l) w) x e in
    let r = flat_map (pasted_step true l) w in
    subst (λ z. Suffixes x (codes "[" ++ z) t) (sym (append_assoc (decimal (side_place l p)) (codes "]") r)) (index (side_place l p) h.1 (suffixes l w h.0 x f h.2))
suffixes l (at_key y ∷ w) t x f e =
    let k = key_of y (and_parts (fits_step (at_key y)) (list_all fits_step w) f).0 in
    let h = first t (plain.at_key y) (map (side_step l) w) x e in
    let there : member t k.0 ≡ Some h.0 = ap (λ z. part t (plain.at_key z)) (sym k.1) ∙ h.1 in
    let rest = suffixes l w h.0 x (and_parts (fits_step (at_key y)) (list_all fits_step w) f).1 h.2 in
    subst (λ z. Suffixes x ((filter_key z) ++ flat_map (pasted_step true l) w) t) (sym k.2) (key_suffix k.0 (flat_map (pasted_step true l) w) t h.0 x there rest)

filter : (s : List ℕ) (t x : Tree) → Suffixes x s t → Filter x (dotted s) t
filter s t x h = by (has_dot s) refl
  where
    by : (b : Bool) → has_dot s ≡ b → Filter x (cond b s (codes "." ++ s)) t
    by true e = by_field e h
    by false e = by_dot e h

pub filters_lead : FiltersLead
filters_lead l n t w x f e =
    subst (λ b. Filter x (cond b (dotted (flat_map (pasted_step true l) (kept_steps n w))) (unfit n w)) t) (sym f) (filter (flat_map (pasted_step true l) (kept_steps n w)) t x (suffixes l (kept_steps n w) t x f (leads l (Some t) (kept_steps n w) x e)))
