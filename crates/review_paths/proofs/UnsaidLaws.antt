-- What an error says of JSON that was to be written piece by piece.
use Rattle.std.proofs.Common.{◌≡◌, inl, inr, ℕ, zero, suc, ◌+◌, ◌≤◌, ◌<◌, Bool, true, false, ◌&&◌, List, [], ◌∷◌, ◌++◌, length, map, get_or, refl, sym, ◌∙◌, ap, subst, arith}
use Rattle.std.specs.Prelude.{Some, bytes_eq, codes}
use Rattle.std.specs.List.{slice_get}
use Rattle.std.proofs.lemmas.List.{append_assoc, append-nil}
use Rattle.std.proofs.Math.ListN.{drop_of_length-le}
use Rattle.yaml_definitions.specs.model.Tree.{Tree, Trees, Pairs, scalar, sequence, mapping, height, heights, heights_of_pairs}
use Rattle.yaml_definitions.specs.model.Tag.{core_tag, seq_tag, map_tag}
use Rattle.yaml_definitions.specs.model.Order.{arranged}
use Rattle.yaml_tree.specs.TreeLists.{trees, pairs}
use Rattle.yaml_tree.proofs.Lists.{get-some}
use Rattle.yaml_show_scalar.specs.Stops.{Stops}
use Rattle.yaml_show_scalar.specs.Escapes.{quoted}
use Rattle.yaml_show_scalar.specs.Tags.{is_resolved}
use Rattle.yaml_show_scalar.specs.declared.escapes.Language.TheVariants.{Json}
use Rattle.yaml_show_scalar.specs.declared.stop.Stop.{Stop}
use Rattle.yaml_show_scalar.proofs.StopLaws.{stops_longer, stops_same}
use Rattle.review_paths.specs.Values.{comma, scalar_json, scalar_has_json, is_string, name_json, value_json, items_json, entries_json, has_json, items_have_json, entries_have_json, IsName, Unsays}
use Rattle.review_paths.specs.declared.unsaid.Unsaid.{Unsaid}
use Rattle.review_paths.specs.declared.unsaid.Unsaid.TheVariants.{Stopped, NoValue}
use Rattle.review_paths.proofs.ValueLaws.{items_left, ItemsAt, items_split, entries_left, EntriesAt, entries_split}

-- ---- errors

pub unsays_stop : (has : Bool) (high left limit : ℕ) (text : List ℕ) (stop : Stop) (why : Unsaid) → why ≡ Stopped stop → Stops limit text stop → Unsays has high left limit text why
unsays_stop has high left limit text stop why e h = subst (Unsays has high left limit text) (sym e) h

-- what an error says of a part, it says of the whole
pub unsays_more : (has has' : Bool) (high high' left left' limit limit' : ℕ) (text rest whole : List ℕ) (why : Unsaid) → (has ≡ false → has' ≡ false) → (left ≤ high → left' ≤ high') → limit' ≡ limit → whole ≡ text ++ rest
    → Unsays has high left limit' text why → Unsays has' high' left' limit whole why
unsays_more has has' high high' left left' limit limit' text rest whole (Stopped stop) f g l e h = stops_longer limit limit' text rest whole stop l e h
unsays_more has has' high high' left left' limit limit' text rest whole NoValue f g l e (inl h) = inl (f h)
unsays_more has has' high high' left left' limit limit' text rest whole NoValue f g l e (inr h) = inr (g h)

-- ---- items

and_lacks : (b c : Bool) → c ≡ false → (b && c) ≡ false
and_lacks true c e = e
and_lacks false c e = refl

-- a list that has a place has an item
first_of : {X : Type 0} (xs : List X) (i : ℕ) → i < length xs → X
first_of [] i l = absurd (omega arith)
first_of (x ∷ xs) i l = x

item_of : (o c v l r : List ℕ) → o ++ ((c ++ (v ++ l)) ++ r) ≡ ((o ++ c) ++ v) ++ (l ++ r)
item_of o c v l r = simp append_assoc

module _ {X : Type 0} (f : X → Tree) where
  item_lower : (xs : List X) (i : ℕ) (d : X) → i < length xs → height (f (get_or xs i d)) < heights (trees (map f xs))
  item_lower [] i d l = absurd (omega arith)
  item_lower (x ∷ xs) zero d l = omega arith
  item_lower (x ∷ xs) (suc i) d l = let h = item_lower xs i d (omega arith) in omega (arith, h)

  item_lacks : (xs : List X) (i : ℕ) (d : X) → i < length xs → has_json (f (get_or xs i d)) ≡ false → items_have_json (trees (map f xs)) ≡ false
  item_lacks [] i d l e = absurd (omega arith)
  item_lacks (x ∷ xs) zero d l e = ap (λ z. z && items_have_json (trees (map f xs))) e
  item_lacks (x ∷ xs) (suc i) d l e = and_lacks (has_json (f x)) (items_have_json (trees (map f xs))) (item_lacks xs i d (omega arith) e)

module _ {X : Type 0} (f : X → Tree) (xs : List X) (left limit limit' : ℕ) (old o : List ℕ) (why : Unsaid) (same : limit' ≡ limit) where
  -- what an error says of the array
  abbrev ItemsFail : Type 0
  ItemsFail = Unsays (items_have_json (trees (map f xs))) (heights (trees (map f xs))) (left + 1) limit (old ++ (codes "[" ++ (items_json 0 (trees (map f xs)) ++ codes "]"))) why

  pub bracket_fails : (stop : Stop) → why ≡ Stopped stop → Stops limit' (old ++ codes "[") stop → ItemsFail
  bracket_fails stop e h =
      let R : List ℕ = items_json 0 (trees (map f xs)) ++ codes "]" in
      unsays_stop _ _ _ _ _ stop why e (stops_longer limit limit' (old ++ codes "[") R _ stop same (sym (append_assoc old (codes "[") R)) h)

  pub items_end_fails : (i : ℕ) (stop : Stop) → length xs ≤ i → ItemsAt f xs i old o → why ≡ Stopped stop → Stops limit' (o ++ codes "]") stop → ItemsFail
  items_end_fails i stop l at e h =
      let whole = sym at.0 ∙ ap (λ z. o ++ (items_json i (trees (map f z)) ++ codes "]")) (drop_of_length-le xs l) in
      unsays_stop _ _ _ _ _ stop why e (stops_same limit limit' (o ++ codes "]") _ stop same whole h)

  module _ (i : ℕ) (d : X) (l : i < length xs) (at : ItemsAt f xs i old o) where
    abbrev item_end : List ℕ
    item_end = items_left f xs (i + 1) ++ codes "]"

    item_whole : old ++ (codes "[" ++ (items_json 0 (trees (map f xs)) ++ codes "]")) ≡ ((o ++ comma i) ++ value_json (f (get_or xs i d))) ++ item_end
    item_whole =
        sym at.0 ∙ ap (λ z. o ++ (z ++ codes "]")) (items_split f xs i d l)
        ∙ item_of o (comma i) (value_json (f (get_or xs i d))) (items_left f xs (i + 1)) (codes "]")

    pub item_fails : (a : List ℕ) → a ≡ o ++ comma i → Unsays (has_json (f (get_or xs i d))) (height (f (get_or xs i d))) left limit' (a ++ value_json (f (get_or xs i d))) why → ItemsFail
    item_fails a e =
        let low = item_lower f xs i d l in
        unsays_more _ _ _ _ left (left + 1) limit limit' _ item_end _ why (item_lacks f xs i d l) (λ h. omega (arith, h, low)) same
        (item_whole ∙ ap (λ z. (z ++ value_json (f (get_or xs i d))) ++ item_end) (sym e))

  pub comma_fails : (i : ℕ) (stop : Stop) → i < length xs → ItemsAt f xs i old o → why ≡ Stopped stop → Stops limit' (o ++ comma i) stop → ItemsFail
  comma_fails i stop l at e h =
      let d : X = first_of xs i l in
      let V : List ℕ = value_json (f (get_or xs i d)) in
      let R : List ℕ = item_end i d l at in
      unsays_stop _ _ _ _ _ stop why e (stops_longer limit limit' (o ++ comma i) (V ++ R) _ stop same (item_whole i d l at ∙ append_assoc (o ++ comma i) V R) h)

-- ---- entries

entry_of : (o c k s v l r : List ℕ) → o ++ ((c ++ (k ++ (s ++ (v ++ l)))) ++ r) ≡ (((o ++ c) ++ (k ++ s)) ++ v) ++ (l ++ r)
entry_of o c k s v l r = simp append_assoc

module _ {X : Type 0} (f : X → Tree × Tree) where
  value_lower : (xs : List X) (i : ℕ) (y : X) → slice_get xs i ≡ Some y → height (f y).1 < heights_of_pairs (pairs (map f xs))
  value_lower [] i y h = absurd cc
  value_lower (x ∷ xs) zero y h = let e : x ≡ y = cc in subst (λ z. height (f z).1 < heights_of_pairs (pairs (map f (x ∷ xs)))) e (omega arith)
  value_lower (x ∷ xs) (suc i) y h = let l = value_lower xs i y h in omega (arith, l)

  key_lacks : (xs : List X) (i : ℕ) (y : X) → slice_get xs i ≡ Some y → is_string (f y).0 ≡ false → entries_have_json (pairs (map f xs)) ≡ false
  key_lacks [] i y h e = absurd cc
  key_lacks (x ∷ xs) zero y h e = let q : x ≡ y = cc in ap (λ z. z && (has_json (f x).1 && entries_have_json (pairs (map f xs)))) (ap (λ z. is_string (f z).0) q ∙ e)
  key_lacks (x ∷ xs) (suc i) y h e =
      let more : Bool = entries_have_json (pairs (map f xs)) in
      and_lacks (is_string (f x).0) (has_json (f x).1 && more) (and_lacks (has_json (f x).1) more (key_lacks xs i y h e))

  value_lacks : (xs : List X) (i : ℕ) (y : X) → slice_get xs i ≡ Some y → has_json (f y).1 ≡ false → entries_have_json (pairs (map f xs)) ≡ false
  value_lacks [] i y h e = absurd cc
  value_lacks (x ∷ xs) zero y h e =
      let q : x ≡ y = cc in
      let more : Bool = entries_have_json (pairs (map f xs)) in
      and_lacks (is_string (f x).0) (has_json (f x).1 && more) (ap (λ z. z && more) (ap (λ z. has_json (f z).1) q ∙ e))
  value_lacks (x ∷ xs) (suc i) y h e =
      let more : Bool = entries_have_json (pairs (map f xs)) in
      and_lacks (is_string (f x).0) (has_json (f x).1 && more) (and_lacks (has_json (f x).1) more (value_lacks xs i y h e))

module _ {X : Type 0} (f : X → Tree × Tree) (xs : List X) (left limit limit' : ℕ) (old o : List ℕ) (why : Unsaid) (same : limit' ≡ limit) where
  -- what an error says of the object
  abbrev EntriesFail : Type 0
  EntriesFail = Unsays (entries_have_json (pairs (map f xs))) (heights_of_pairs (pairs (map f xs))) (left + 1) limit (old ++ (codes "{" ++ (entries_json 0 (pairs (map f xs)) ++ codes "}"))) why

  pub brace_fails : (stop : Stop) → why ≡ Stopped stop → Stops limit' (old ++ codes "{") stop → EntriesFail
  brace_fails stop e h =
      let R : List ℕ = entries_json 0 (pairs (map f xs)) ++ codes "}" in
      unsays_stop _ _ _ _ _ stop why e (stops_longer limit limit' (old ++ codes "{") R _ stop same (sym (append_assoc old (codes "{") R)) h)

  pub entries_end_fails : (i : ℕ) (stop : Stop) → length xs ≤ i → EntriesAt f xs i old o → why ≡ Stopped stop → Stops limit' (o ++ codes "}") stop → EntriesFail
  entries_end_fails i stop l at e h =
      let whole = sym at.0 ∙ ap (λ z. o ++ (entries_json i (pairs (map f z)) ++ codes "}")) (drop_of_length-le xs l) in
      unsays_stop _ _ _ _ _ stop why e (stops_same limit limit' (o ++ codes "}") _ stop same whole h)

  module _ (i : ℕ) (d : X) (l : slice_get xs i ≡ Some d) (at : EntriesAt f xs i old o) where
    abbrev key_text : List ℕ
    key_text = name_json (f d).0 ++ codes ":"

    abbrev value_text : List ℕ
    value_text = value_json (f d).1

    abbrev entry_end : List ℕ
    entry_end = entries_left f xs (i + 1) ++ codes "}"

    entry_whole : old ++ (codes "{" ++ (entries_json 0 (pairs (map f xs)) ++ codes "}")) ≡ (((o ++ comma i) ++ key_text) ++ value_text) ++ entry_end
    entry_whole =
        sym at.0 ∙ ap (λ z. o ++ (z ++ codes "}")) (entries_split f xs i d l)
        ∙ entry_of o (comma i) (name_json (f d).0) (codes ":") value_text (entries_left f xs (i + 1)) (codes "}")

    key_whole : old ++ (codes "{" ++ (entries_json 0 (pairs (map f xs)) ++ codes "}")) ≡ ((o ++ comma i) ++ key_text) ++ (value_text ++ entry_end)
    key_whole = entry_whole ∙ append_assoc ((o ++ comma i) ++ key_text) value_text entry_end

    pub key_fails : (a : List ℕ) → a ≡ o ++ comma i → Unsays (is_string (f d).0) 0 1 limit' (a ++ key_text) why → EntriesFail
    key_fails a e =
        unsays_more _ _ 0 _ 1 (left + 1) limit limit' _ (value_text ++ entry_end) _ why (key_lacks f xs i d l) (λ h. absurd (omega (arith, h))) same
        (key_whole ∙ ap (λ z. (z ++ key_text) ++ (value_text ++ entry_end)) (sym e))

    pub value_fails : (a b : List ℕ) → a ≡ o ++ comma i → b ≡ a ++ key_text → Unsays (has_json (f d).1) (height (f d).1) left limit' (b ++ value_text) why → EntriesFail
    value_fails a b e k =
        let low = value_lower f xs i d l in
        unsays_more _ _ _ _ left (left + 1) limit limit' _ entry_end _ why (value_lacks f xs i d l) (λ h. omega (arith, h, low)) same
        (entry_whole ∙ ap (λ z. (z ++ value_text) ++ entry_end) (sym (k ∙ ap (λ z. z ++ key_text) e)))

  pub entry_comma_fails : (i : ℕ) (stop : Stop) → i < length xs → EntriesAt f xs i old o → why ≡ Stopped stop → Stops limit' (o ++ comma i) stop → EntriesFail
  entry_comma_fails i stop l at e h =
      let d = get-some xs i l in
      let K : List ℕ = key_text i d.0 d.1 at in
      let R : List ℕ = value_text i d.0 d.1 at ++ entry_end i d.0 d.1 at in
      unsays_stop _ _ _ _ _ stop why e (stops_longer limit limit' (o ++ comma i) (K ++ R) _ stop same (key_whole i d.0 d.1 at ∙ append_assoc (o ++ comma i) K R) h)

-- ---- whole nodes

module _ (t : Tree) (left limit : ℕ) (old : List ℕ) (why : Unsaid) where
  -- what an error says of a node
  abbrev Fails : Tree → Type 0
  Fails z = Unsays (has_json z) (height z) left limit (old ++ value_json z) why

  pub scalar_unsays : (g x : List ℕ) → t ≡ scalar g x → Unsays (scalar_has_json g x) 0 1 limit (old ++ scalar_json g x) why → Fails t
  scalar_unsays g x e k = subst Fails (sym e) (unsays_more _ _ 0 0 1 left limit limit _ [] _ why (λ n. n) (λ n. absurd (omega (arith, n))) refl (sym (append-nil (old ++ scalar_json g x))) k)

  pub sequence_unsays : (g : List ℕ) (ts : Trees) (less : ℕ) → t ≡ sequence g ts → less + 1 ≡ left → Unsays (items_have_json ts) (heights ts) (less + 1) limit (old ++ (codes "[" ++ (items_json 0 ts ++ codes "]"))) why → Fails t
  sequence_unsays g ts less e n k =
      subst Fails (sym e) (unsays_more _ _ _ _ (less + 1) left limit limit _ [] _ why (and_lacks (bytes_eq g seq_tag) (items_have_json ts)) (λ m. subst (λ z. z ≤ heights ts) n m) refl (sym (append-nil _)) k)

  pub mapping_unsays : (g : List ℕ) (ps : Pairs) (less : ℕ) → t ≡ mapping g ps → less + 1 ≡ left → Unsays (entries_have_json ps) (heights_of_pairs ps) (less + 1) limit (old ++ (codes "{" ++ (entries_json 0 ps ++ codes "}"))) why → Fails t
  mapping_unsays g ps less e n k =
      subst Fails (sym e) (unsays_more _ _ _ _ (less + 1) left limit limit _ [] _ why (and_lacks (bytes_eq g map_tag) (entries_have_json ps)) (λ m. subst (λ z. z ≤ heights_of_pairs ps) n m) refl (sym (append-nil _)) k)

pub other_sequence : (t : Tree) (g : List ℕ) (ts : Trees) → t ≡ sequence g ts → bytes_eq g seq_tag ≡ false → has_json t ≡ false
other_sequence t g ts e b = ap has_json e ∙ ap (λ z. z && items_have_json ts) b

pub other_mapping : (t : Tree) (g : List ℕ) (ps : Pairs) → t ≡ mapping g ps → bytes_eq g map_tag ≡ false → has_json t ≡ false
other_mapping t g ps e b = ap has_json e ∙ ap (λ z. z && entries_have_json ps) b

-- a node that is not there
pub none_lacks : (t : Tree) → t ≡ scalar [] [] → has_json (arranged t) ≡ false
unfolding arranged scalar_has_json is_resolved core_tag
none_lacks t e = ap (λ z. has_json (arranged z)) e

-- ---- keys

module _ (t : Tree) (x old : List ℕ) (limit limit' : ℕ) (why : Unsaid) (stop : Stop) (n : IsName t x) (is : why ≡ Stopped stop) (same : limit' ≡ limit) where
  -- what an error says of a key
  abbrev KeyFails : Type 0
  KeyFails = Unsays (is_string t) 0 1 limit (old ++ (name_json t ++ codes ":")) why

  pub name_fails : Stops limit' (old ++ quoted Json x) stop → KeyFails
  name_fails h =
      unsays_stop _ 0 1 _ _ stop why is (stops_longer limit limit' (old ++ quoted Json x) (codes ":") _ stop same (ap (λ z. old ++ (z ++ codes ":")) n.0 ∙ sym (append_assoc old (quoted Json x) (codes ":"))) h)

  pub colon_fails : (a : List ℕ) → a ≡ old ++ quoted Json x → Stops limit' (a ++ codes ":") stop → KeyFails
  colon_fails a e h =
      unsays_stop _ 0 1 _ _ stop why is (stops_same limit limit' (a ++ codes ":") _ stop same (ap (λ z. old ++ (z ++ codes ":")) n.0 ∙ sym (ap (λ z. z ++ codes ":") e ∙ append_assoc old (quoted Json x) (codes ":"))) h)
