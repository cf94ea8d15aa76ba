-- Values of JSON that are written piece by piece.
use Rattle.std.proofs.Common.{◌≡◌, ◌&&◌, ℕ, Bool, ◌+◌, ◌<◌, ◌≤◌, true, false, cond, List, ◌++◌, length, map, drop, get_or, refl, sym, ◌∙◌, ap, ap₂, subst, add-one}
use Rattle.std.specs.Prelude.{Some, None, bytes_eq, codes}
use Rattle.std.specs.List.{slice_get}
use Rattle.std.proofs.Math.ListN.{drop_of_length-le}
use Rattle.std.proofs.lemmas.List.{append_assoc}
use Rattle.yaml_definitions.specs.model.Tree.{Tree, Trees, Pairs, scalar, sequence, mapping}
use Rattle.yaml_definitions.specs.model.Tag.{str_tag, seq_tag, map_tag}
use Rattle.yaml_definitions.specs.model.Order.{arranged}
use Rattle.yaml_tree.specs.TreeLists.{trees, pairs}
use Rattle.yaml_show_scalar.specs.Escapes.{quoted}
use Rattle.yaml_show_scalar.specs.declared.escapes.Language.TheVariants.{Json}
use Rattle.review_text.proofs.Pieces.{drop_next, drop_at}
use Rattle.review_paths.specs.Pasted.{str_content}
use Rattle.review_paths.specs.Values.{comma, is_string, name_json, value_json, items_json, entries_json, items_have_json, entries_have_json, IsName, Says, SaysKey, SaysItems, SaysEntries}

-- ---- items, from a place on

module _ {X : Type 0} (f : X → Tree) (xs : List X) where
  abbrev pub items_left : ℕ → List ℕ
  items_left i = items_json i (trees (map f (drop i xs)))

  -- what is left of the items, and the bracket, is still to be written
  abbrev pub ItemsAt : ℕ → List ℕ → List ℕ → Type 0
  ItemsAt i old o =
      (o ++ (items_left i ++ codes "]") ≡ old ++ (codes "[" ++ (items_left 0 ++ codes "]")))
      × (items_have_json (trees (map f (drop i xs))) ≡ true → items_have_json (trees (map f xs)) ≡ true)

  pub items_split : (i : ℕ) (d : X) → i < length xs → items_left i ≡ comma i ++ (value_json (f (get_or xs i d)) ++ items_left (i + 1))
  items_split i d l =
      ap (λ z. items_json i (trees (map f z))) (drop_next xs i d l)
      ∙ ap (λ z. comma i ++ (value_json (f (get_or xs i d)) ++ items_json z (trees (map f (drop (i + 1) xs))))) (sym (add-one i))

  pub items_first : (old a : List ℕ) → a ≡ old ++ codes "[" → ItemsAt 0 old a
  items_first old a e = (ap (λ z. z ++ (items_left 0 ++ codes "]")) e ∙ append_assoc old (codes "[") (items_left 0 ++ codes "]"), λ h. h)

  pub items_step : (i : ℕ) (d : X) (old o a b : List ℕ) → i < length xs → ItemsAt i old o → a ≡ o ++ comma i → Says (f (get_or xs i d)) a b → ItemsAt (i + 1) old b
  items_step i d old o a b l h e k =
      let C = comma i in
      let V = value_json (f (get_or xs i d)) in
      let L = items_left (i + 1) in
      let R = codes "]" in (
        ap (λ z. z ++ (L ++ R)) (k.0 ∙ ap (λ z. z ++ V) e)
            ∙ append_assoc (o ++ C) V (L ++ R) ∙ append_assoc o C (V ++ (L ++ R))
            ∙ ap (λ z. o ++ z) (sym (ap (λ z. z ++ R) (items_split i d l) ∙ append_assoc C (V ++ L) R ∙ ap (λ z. C ++ z) (append_assoc V L R)))
            ∙ h.0,
        λ m. h.1 (ap (λ z. items_have_json (trees (map f z))) (drop_next xs i d l) ∙ ap₂ ◌&&◌ k.1 m),
      )

  pub items_end : (i : ℕ) (old o a : List ℕ) → length xs ≤ i → ItemsAt i old o → a ≡ o ++ codes "]" → SaysItems (trees (map f xs)) old a
  items_end i old o a l h e =
      (e ∙ ap (λ z. o ++ (items_json i (trees (map f z)) ++ codes "]")) (sym (drop_of_length-le xs l)) ∙ h.0, h.1 (ap (λ z. items_have_json (trees (map f z))) (drop_of_length-le xs l)))

-- ---- entries, from a place on

module _ {X : Type 0} (f : X → Tree × Tree) (xs : List X) where
  abbrev pub entries_left : ℕ → List ℕ
  entries_left i = entries_json i (pairs (map f (drop i xs)))

  -- what is left of the entries, and the brace, is still to be written
  abbrev pub EntriesAt : ℕ → List ℕ → List ℕ → Type 0
  EntriesAt i old o =
      (o ++ (entries_left i ++ codes "}") ≡ old ++ (codes "{" ++ (entries_left 0 ++ codes "}")))
      × (entries_have_json (pairs (map f (drop i xs))) ≡ true → entries_have_json (pairs (map f xs)) ≡ true)

  pub entries_split : (i : ℕ) (d : X) → slice_get xs i ≡ Some d → entries_left i ≡ comma i ++ (name_json (f d).0 ++ (codes ":" ++ (value_json (f d).1 ++ entries_left (i + 1))))
  entries_split i d l =
      ap (λ z. entries_json i (pairs (map f z))) (drop_at xs i d l)
      ∙ ap (λ z. comma i ++ (name_json (f d).0 ++ (codes ":" ++ (value_json (f d).1 ++ entries_json z (pairs (map f (drop (i + 1) xs))))))) (sym (add-one i))

  pub entries_first : (old a : List ℕ) → a ≡ old ++ codes "{" → EntriesAt 0 old a
  entries_first old a e = (ap (λ z. z ++ (entries_left 0 ++ codes "}")) e ∙ append_assoc old (codes "{") (entries_left 0 ++ codes "}"), λ h. h)

  pub entries_step : (i : ℕ) (d : X) (old o a b c : List ℕ) → slice_get xs i ≡ Some d → EntriesAt i old o → a ≡ o ++ comma i → SaysKey (f d).0 a b → Says (f d).1 b c → EntriesAt (i + 1) old c
  entries_step i d old o a b c l h e n k =
      let C = comma i in
      let K = name_json (f d).0 in
      let S = codes ":" in
      let V = value_json (f d).1 in
      let L = entries_left (i + 1) in
      let R = codes "}" in (
        ap (λ z. z ++ (L ++ R)) (k.0 ∙ ap (λ z. z ++ V) (n.0 ∙ ap (λ z. z ++ (K ++ S)) e))
            ∙ append_assoc ((o ++ C) ++ (K ++ S)) V (L ++ R) ∙ append_assoc (o ++ C) (K ++ S) (V ++ (L ++ R)) ∙ append_assoc o C ((K ++ S) ++ (V ++ (L ++ R)))
            ∙ ap (λ z. o ++ (C ++ z)) (append_assoc K S (V ++ (L ++ R)))
            ∙ ap (λ z. o ++ z) (sym (ap (λ z. z ++ R) (entries_split i d l) ∙ append_assoc C (K ++ (S ++ (V ++ L))) R ∙ ap (λ z. C ++ z) (append_assoc K (S ++ (V ++ L)) R ∙ ap (λ z. K ++ (S ++ z)) (append_assoc V L R))))
            ∙ h.0,
        λ m. h.1 (ap (λ z. entries_have_json (pairs (map f z))) (drop_at xs i d l) ∙ ap₂ ◌&&◌ n.1 (ap₂ ◌&&◌ k.1 m)),
      )

  pub entries_end : (i : ℕ) (old o a : List ℕ) → length xs ≤ i → EntriesAt i old o → a ≡ o ++ codes "}" → SaysEntries (pairs (map f xs)) old a
  entries_end i old o a l h e =
      (e ∙ ap (λ z. o ++ (entries_json i (pairs (map f z)) ++ codes "}")) (sym (drop_of_length-le xs l)) ∙ h.0, h.1 (ap (λ z. entries_have_json (pairs (map f z))) (drop_of_length-le xs l)))

-- ---- whole nodes

pub scalar_says : (g x old new : List ℕ) (t : Tree) → t ≡ scalar g x → Says (scalar g x) old new → Says t old new
scalar_says g x old new t e k = subst (λ z. Says z old new) (sym e) k

pub sequence_says : (g old new : List ℕ) (ts : Trees) (t : Tree) → t ≡ sequence g ts → bytes_eq g seq_tag ≡ true → SaysItems ts old new → Says t old new
sequence_says g old new ts t e b k = subst (λ z. Says z old new) (sym e) (k.0, ap₂ ◌&&◌ b k.1)

pub mapping_says : (g old new : List ℕ) (ps : Pairs) (t : Tree) → t ≡ mapping g ps → bytes_eq g map_tag ≡ true → SaysEntries ps old new → Says t old new
mapping_says g old new ps t e b k = subst (λ z. Says z old new) (sym e) (k.0, ap₂ ◌&&◌ b k.1)

-- ---- keys

pub name_is : (t : Tree) (x : List ℕ) → Some x ≡ str_content t → IsName (arranged t) x
unfolding arranged
name_is (scalar g y) x e = by (bytes_eq g str_tag) refl e
  where
    by : (b : Bool) → bytes_eq g str_tag ≡ b → Some x ≡ cond b (Some y) None → IsName (scalar g y) x
    by true q h = let p : y ≡ x = cc in (ap (quoted Json) p, q)
    by false q h = absurd cc
name_is (sequence g ts) x e = absurd cc
name_is (mapping g ps) x e = absurd cc

pub other_string : (t : Tree) → None ≡ str_content t → is_string (arranged t) ≡ false
unfolding arranged
other_string (scalar g y) e = by (bytes_eq g str_tag) e
  where
    by : (b : Bool) → None ≡ cond b (Some y) None → b ≡ false
    by true h = absurd cc
    by false h = refl
other_string (sequence g ts) e = refl
other_string (mapping g ps) e = refl

pub key_says : (t : Tree) (x old a new : List ℕ) → IsName t x → a ≡ old ++ quoted Json x → new ≡ a ++ codes ":" → SaysKey t old new
key_says t x old a new n e h = (h ∙ ap (λ z. z ++ codes ":") (e ∙ ap (λ z. old ++ z) (sym n.0)) ∙ append_assoc old (name_json t) (codes ":"), n.1)
