-- Block style, piece by piece.
use Rattle.std.proofs.Common.{◌≡◌, ℕ, suc, ◌+◌, ◌<◌, ◌≤◌, Bool, true, false, cond, List, [], ◌∷◌, ◌++◌, length, map, drop, refl, sym, ◌∙◌, ap, add-one, arith}
use Rattle.std.specs.Prelude.{nat_le, not, ◌||◌, ◌&&◌, ◌==◌, codes}
use Rattle.std.specs.Str.{chars}
use Rattle.std.proofs.Math.ListN.{drop_of_length-le}
use Rattle.std.proofs.lemmas.Bool.Decides.{nat_tests}
use Rattle.std.proofs.lemmas.List.{append_assoc, append-nil}
use Rattle.yaml_definitions.specs.model.Tag.{seq_tag, map_tag}
use Rattle.yaml_definitions.specs.model.Tree.{Tree, Trees, Pairs, scalar, sequence, mapping}
use Rattle.yaml_tree.specs.TreeLists.{trees, pairs}
use Rattle.yaml_show_scalar.specs.Scalars.{scalar_text, scalar_lines}
use Rattle.yaml_show_scalar.specs.declared.scalar.Quotes.TheVariants.{WhereNeeded}
use Rattle.yaml_show.specs.declared.place.Place.{Place}
use Rattle.yaml_show.specs.declared.place.Place.TheVariants.{Value, Item}
use Rattle.yaml_show.specs.Flow.{is_short, flow_text, key_text, fits, all_fit}
use Rattle.yaml_show.specs.Layout.{space, is_root, lines_at, goes_on, head, deepest, no_items, no_entries, empty_text, one_line, before_part, node_lines, item_lines, entry_lines, document_lines, shown_text}

-- ---- keys

pub scalar_key : (t : Tree) (g x : List ℕ) → t ≡ scalar g x → scalar_text WhereNeeded g x ≡ key_text t
unfolding key_text
scalar_key t g x e = ap key_text (sym e)

pub sequence_key : (t : Tree) (g : List ℕ) (ts : Trees) → t ≡ sequence g ts → flow_text true t ++ (32 ∷ []) ≡ key_text t
unfolding key_text
sequence_key t g ts e = ap (λ z. flow_text true z ++ (32 ∷ [])) e ∙ ap key_text (sym e)

pub mapping_key : (t : Tree) (g : List ℕ) (ps : Pairs) → t ≡ mapping g ps → flow_text true t ++ (32 ∷ []) ≡ key_text t
unfolding key_text
mapping_key t g ps e = ap (λ z. flow_text true z ++ (32 ∷ [])) e ∙ ap key_text (sym e)

pub short_scalar : (t : Tree) (g x : List ℕ) → t ≡ scalar g x → (nat_le (length x) 200 && nat_le (length g) 64) ≡ is_short t
unfolding is_short
short_scalar t g x e = ap is_short (sym e)

pub long_sequence : (t : Tree) (g : List ℕ) (ts : Trees) → t ≡ sequence g ts → false ≡ is_short t
unfolding is_short
long_sequence t g ts e = ap is_short (sym e)

pub long_mapping : (t : Tree) (g : List ℕ) (ps : Pairs) → t ≡ mapping g ps → false ≡ is_short t
unfolding is_short
long_mapping t g ps e = ap is_short (sym e)

-- a short key fits
pub short_fits : (t : Tree) → is_short t ≡ true → true ≡ fits t
unfolding fits
short_fits t h = ap (λ z. z || nat_le (length (chars (key_text t))) 1023) (sym h)

pub measured : (t : Tree) (text : List ℕ) → is_short t ≡ false → text ≡ key_text t → nat_le (length (chars text)) 1023 ≡ fits t
unfolding fits
measured t text h e = ap (λ z. nat_le (length (chars z)) 1023) e ∙ ap (λ z. z || nat_le (length (chars (key_text t))) 1023) (sym h)

module _ {X : Type 0} (f : X → Tree × Tree) (xs : List X) (i : ℕ) where
  pub fit_next : (d : X) (w : Bool) → drop i xs ≡ d ∷ drop (i + 1) xs → all_fit (pairs (map f (drop i xs))) ≡ w → fits (f d).0 ≡ true → all_fit (pairs (map f (drop (i + 1) xs))) ≡ w
  fit_next d w l h e = ap (λ z. z && all_fit (pairs (map f (drop (i + 1) xs)))) (sym e) ∙ ap (λ z. all_fit (pairs (map f z))) (sym l) ∙ h

  pub fit_stops : (d : X) (w : Bool) → drop i xs ≡ d ∷ drop (i + 1) xs → all_fit (pairs (map f (drop i xs))) ≡ w → fits (f d).0 ≡ false → false ≡ w
  fit_stops d w l h e = ap (λ z. z && all_fit (pairs (map f (drop (i + 1) xs)))) (sym e) ∙ ap (λ z. all_fit (pairs (map f z))) (sym l) ∙ h

  pub fit_end : (w : Bool) → length xs ≤ i → all_fit (pairs (map f (drop i xs))) ≡ w → true ≡ w
  fit_end w l h = ap (λ z. all_fit (pairs (map f z))) (sym (drop_of_length-le xs l)) ∙ h

-- ---- empty collections, and levels

positive : (n : ℕ) → (suc n == 0) ≡ false
positive n = grind (arith, nat_tests)

pub none_items : {X : Type 0} (f : X → Tree) (xs : List X) → (length xs == 0) ≡ true → no_items (trees (map f xs)) ≡ true
none_items f [] h = refl
none_items f (x ∷ xs) h = let q : true ≡ false = sym h ∙ positive (length xs) in absurd (cc)

pub some_items : {X : Type 0} (f : X → Tree) (xs : List X) → (length xs == 0) ≡ false → no_items (trees (map f xs)) ≡ false
some_items f [] h = absurd (cc)
some_items f (x ∷ xs) h = refl

pub none_entries : {X : Type 0} (f : X → Tree × Tree) (xs : List X) → (length xs == 0) ≡ true → no_entries (pairs (map f xs)) ≡ true
none_entries f [] h = refl
none_entries f (x ∷ xs) h = let q : true ≡ false = sym h ∙ positive (length xs) in absurd (cc)

pub some_entries : {X : Type 0} (f : X → Tree × Tree) (xs : List X) → (length xs == 0) ≡ false → no_entries (pairs (map f xs)) ≡ false
some_entries f [] h = absurd (cc)
some_entries f (x ∷ xs) h = refl

pub deep : (n : ℕ) → 64 ≤ n → nat_le deepest n ≡ true
deep n h = grind (arith, nat_tests)

pub shallow : (n : ℕ) → n < 64 → nat_le deepest n ≡ false
shallow n h = grind (arith, nat_tests)

-- ---- a node by its kind

module _ (p : Place) (n : ℕ) (t : Tree) (g : List ℕ) (w : List ℕ) where
  pub scalar_node : (x : List ℕ) → t ≡ scalar g x → space p ++ scalar_lines (lines_at p n) (is_root p) g x ≡ node_lines p n t
  unfolding node_lines
  scalar_node x e = ap (node_lines p n) (sym e)

  module _ (ts : Trees) (e : t ≡ sequence g ts) where
    abbrev list : Bool → Bool → List ℕ
    list none low = w ++ cond none (empty_text p g seq_tag (codes "[]\n")) (cond low (one_line p (sequence g ts)) (head p g seq_tag ++ item_lines (goes_on p g seq_tag) n ts))

    list_is : (a b : Bool) → no_items ts ≡ a → nat_le deepest n ≡ b → list a b ≡ w ++ node_lines p n t
    unfolding node_lines
    list_is a b h k = ap (λ z. list z b) (sym h) ∙ ap (list (no_items ts)) (sym k) ∙ ap (λ z. w ++ node_lines p n z) (sym e)

    pub sequence_empty : (own o : List ℕ) → own ≡ seq_tag → no_items ts ≡ true → o ≡ w ++ empty_text p g own (codes "[]\n") → o ≡ w ++ node_lines p n t
    sequence_empty own o f h k = k ∙ ap (λ z. w ++ empty_text p g z (codes "[]\n")) f ∙ list_is true (nat_le deepest n) h refl

    pub sequence_deep : (o : List ℕ) → no_items ts ≡ false → nat_le deepest n ≡ true → o ≡ w ++ one_line p t → o ≡ w ++ node_lines p n t
    sequence_deep o h l k = k ∙ ap (λ z. w ++ one_line p z) e ∙ list_is false true h l

    pub sequence_lines : (own a o : List ℕ) (begun : Bool) → own ≡ seq_tag → no_items ts ≡ false → nat_le deepest n ≡ false → begun ≡ goes_on p g own → a ≡ w ++ head p g own → o ≡ a ++ item_lines begun n ts → o ≡ w ++ node_lines p n t
    sequence_lines own a o begun f h l b k m =
        m ∙ ap (λ z. z ++ item_lines begun n ts) k ∙ append_assoc w (head p g own) (item_lines begun n ts)
        ∙ ap (λ z. w ++ (head p g own ++ item_lines z n ts)) b ∙ ap (λ z. w ++ (head p g z ++ item_lines (goes_on p g z) n ts)) f ∙ list_is false false h l

  module _ (ps : Pairs) (e : t ≡ mapping g ps) where
    abbrev table : Bool → Bool → List ℕ
    table none low = w ++ cond none (empty_text p g map_tag (codes "{}\n")) (cond low (one_line p (mapping g ps)) (head p g map_tag ++ entry_lines (goes_on p g map_tag) n ps))

    table_is : (a b : Bool) → no_entries ps ≡ a → (nat_le deepest n || not (all_fit ps)) ≡ b → table a b ≡ w ++ node_lines p n t
    unfolding node_lines
    table_is a b h k = ap (λ z. table z b) (sym h) ∙ ap (table (no_entries ps)) (sym k) ∙ ap (λ z. w ++ node_lines p n z) (sym e)

    pub mapping_empty : (own o : List ℕ) → own ≡ map_tag → no_entries ps ≡ true → o ≡ w ++ empty_text p g own (codes "{}\n") → o ≡ w ++ node_lines p n t
    mapping_empty own o f h k = k ∙ ap (λ z. w ++ empty_text p g z (codes "{}\n")) f ∙ table_is true (nat_le deepest n || not (all_fit ps)) h refl

    on_one : (o : List ℕ) → no_entries ps ≡ false → (nat_le deepest n || not (all_fit ps)) ≡ true → o ≡ w ++ one_line p t → o ≡ w ++ node_lines p n t
    on_one o h l k = k ∙ ap (λ z. w ++ one_line p z) e ∙ table_is false true h l

    pub mapping_deep : (o : List ℕ) → no_entries ps ≡ false → nat_le deepest n ≡ true → o ≡ w ++ one_line p t → o ≡ w ++ node_lines p n t
    mapping_deep o h l k = on_one o h (ap (λ z. z || not (all_fit ps)) l) k

    pub mapping_wide : (o : List ℕ) → no_entries ps ≡ false → nat_le deepest n ≡ false → all_fit ps ≡ false → o ≡ w ++ one_line p t → o ≡ w ++ node_lines p n t
    mapping_wide o h l m k = on_one o h (ap (λ z. z || not (all_fit ps)) l ∙ ap not m) k

    pub mapping_lines : (own a o : List ℕ) (begun : Bool) → own ≡ map_tag → no_entries ps ≡ false → nat_le deepest n ≡ false → all_fit ps ≡ true → begun ≡ goes_on p g own → a ≡ w ++ head p g own → o ≡ a ++ entry_lines begun n ps → o ≡ w ++ node_lines p n t
    mapping_lines own a o begun f h l q b k m =
        m ∙ ap (λ z. z ++ entry_lines begun n ps) k ∙ append_assoc w (head p g own) (entry_lines begun n ps)
        ∙ ap (λ z. w ++ (head p g own ++ entry_lines z n ps)) b ∙ ap (λ z. w ++ (head p g z ++ entry_lines (goes_on p g z) n ps)) f
        ∙ table_is false false h (ap (λ z. z || not (all_fit ps)) l ∙ ap not q)

-- ---- items and entries

item_text : (w a b c r : List ℕ) → (((w ++ a) ++ b) ++ c) ++ r ≡ w ++ (a ++ (b ++ (c ++ r)))
item_text w a b c r = simp append_assoc

entry_text : (w a b c d r : List ℕ) → ((((w ++ a) ++ b) ++ c) ++ d) ++ r ≡ w ++ (a ++ (b ++ (c ++ (d ++ r))))
entry_text w a b c d r = simp append_assoc

module _ {X : Type 0} (f : X → Tree) (xs : List X) (i n : ℕ) where
  pub part_step : (d : X) (b : Bool) (w a c o whole : List ℕ) → drop i xs ≡ d ∷ drop (i + 1) xs → w ++ item_lines b n (trees (map f (drop i xs))) ≡ whole → a ≡ w ++ before_part b n → c ≡ a ++ (45 ∷ 32 ∷ []) → o ≡ c ++ node_lines Item (n + 1) (f d)
      → o ++ item_lines false n (trees (map f (drop (i + 1) xs))) ≡ whole
  unfolding node_lines
  part_step d b w a c o whole l h e k m =
      let r : List ℕ = item_lines false n (trees (map f (drop (i + 1) xs))) in
      ap (λ z. z ++ r) (m ∙ ap (λ z. c ++ node_lines Item z (f d)) (add-one n) ∙ ap (λ z. z ++ node_lines Item (suc n) (f d)) (k ∙ ap (λ z. z ++ (45 ∷ 32 ∷ [])) e))
      ∙ item_text w (before_part b n) (45 ∷ 32 ∷ []) (node_lines Item (suc n) (f d)) r
      ∙ ap (λ z. w ++ item_lines b n (trees (map f z))) (sym l) ∙ h

  pub parts_end : (b : Bool) (w whole : List ℕ) → length xs ≤ i → w ++ item_lines b n (trees (map f (drop i xs))) ≡ whole → w ≡ whole
  unfolding node_lines
  parts_end b w whole l h = sym (append-nil w) ∙ ap (λ z. w ++ item_lines b n (trees (map f z))) (sym (drop_of_length-le xs l)) ∙ h

module _ {X : Type 0} (f : X → Tree × Tree) (xs : List X) (i n : ℕ) where
  pub entry_step : (d : X) (b : Bool) (w a k c o whole : List ℕ) → drop i xs ≡ d ∷ drop (i + 1) xs → w ++ entry_lines b n (pairs (map f (drop i xs))) ≡ whole → a ≡ w ++ before_part b n → k ≡ a ++ key_text (f d).0 → c ≡ k ++ (58 ∷ []) → o ≡ c ++ node_lines Value (n + 1) (f d).1
      → o ++ entry_lines false n (pairs (map f (drop (i + 1) xs))) ≡ whole
  unfolding node_lines
  entry_step d b w a k c o whole l h e j q m =
      let r : List ℕ = entry_lines false n (pairs (map f (drop (i + 1) xs))) in
      ap (λ z. z ++ r) (m ∙ ap (λ z. c ++ node_lines Value z (f d).1) (add-one n) ∙ ap (λ z. z ++ node_lines Value (suc n) (f d).1) (q ∙ ap (λ z. z ++ (58 ∷ [])) (j ∙ ap (λ z. z ++ key_text (f d).0) e)))
      ∙ entry_text w (before_part b n) (key_text (f d).0) (58 ∷ []) (node_lines Value (suc n) (f d).1) r
      ∙ ap (λ z. w ++ entry_lines b n (pairs (map f z))) (sym l) ∙ h

  pub entries_done : (b : Bool) (w whole : List ℕ) → length xs ≤ i → w ++ entry_lines b n (pairs (map f (drop i xs))) ≡ whole → w ≡ whole
  unfolding node_lines
  entries_done b w whole l h = sym (append-nil w) ∙ ap (λ z. w ++ entry_lines b n (pairs (map f z))) (sym (drop_of_length-le xs l)) ∙ h

-- ---- documents

module _ {X : Type 0} (f : X → Tree) (xs : List X) (i : ℕ) where
  pub document_step : (d : X) (w o whole : List ℕ) → drop i xs ≡ d ∷ drop (i + 1) xs → w ++ shown_text (map f (drop i xs)) ≡ whole → o ≡ w ++ document_lines (f d) → o ++ shown_text (map f (drop (i + 1) xs)) ≡ whole
  document_step d w o whole l h e =
      let r : List ℕ = shown_text (map f (drop (i + 1) xs)) in
      ap (λ z. z ++ r) e ∙ append_assoc w (document_lines (f d)) r ∙ ap (λ z. w ++ shown_text (map f z)) (sym l) ∙ h

  pub documents_end : (w whole : List ℕ) → length xs ≤ i → w ++ shown_text (map f (drop i xs)) ≡ whole → w ≡ whole
  documents_end w whole l h = sym (append-nil w) ∙ ap (λ z. w ++ shown_text (map f z)) (sym (drop_of_length-le xs l)) ∙ h
