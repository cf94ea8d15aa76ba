-- Block style with anchors and aliases, piece by piece.
use Rattle.std.proofs.Common.{◌≡◌, ℕ, ◌+◌, ◌<◌, ◌≤◌, ◌^◌, Bool, true, false, cond, List, [], ◌∷◌, ◌++◌, length, map, drop, refl, sym, ◌∙◌, ap, add-one}
use Rattle.std.specs.Prelude.{nat_le, not, ◌||◌, ◌&&◌, codes}
use Rattle.std.specs.Fmt.{decimal}
use Rattle.std.specs.Str.{chars}
use Rattle.std.proofs.Math.ListN.{drop_of_length-le}
use Rattle.std.proofs.lemmas.Fmt.{decimal-digits_of, decimal_digit}
use Rattle.std.proofs.lemmas.List.{append_assoc}
use Rattle.yaml_definitions.specs.canonical.Serialize.{anchor_name}
use Rattle.yaml_definitions.specs.model.Serial.{SerialNode, alias_at}
use Rattle.yaml_definitions.specs.model.Tag.{seq_tag, map_tag}
use Rattle.yaml_definitions.specs.model.Tree.{Tree, Trees, Pairs, scalar, sequence, mapping, end, item, done, entry}
use Rattle.yaml_tree.specs.TreeLists.{trees, pairs}
use Rattle.yaml_show_scalar.specs.Scalars.{scalar_text, scalar_lines}
use Rattle.yaml_show_scalar.specs.Tags.{tag_before}
use Rattle.yaml_show_scalar.specs.declared.scalar.Quotes.TheVariants.{WhereNeeded, Always}
use Rattle.yaml_spell.specs.declared.names.Opening.{Opening}
use Rattle.yaml_spell.specs.declared.names.Opening.TheVariants.{Plain, Anchored, Alias}
use Rattle.yaml_spell.specs.NamesView.{Given}
use Rattle.yaml_spell.specs.Walked.{separator, start, started, given, given_all, given_pairs, given_inside, written, written_all, written_pairs}
use Rattle.yaml_show.specs.declared.place.Place.{Place}
use Rattle.yaml_show.specs.declared.place.Place.TheVariants.{Value, Item}
use Rattle.yaml_show.specs.Flow.{is_short, is_simple, mark, colon, key_text}
use Rattle.yaml_show.specs.Layout.{space, is_root, lines_at, goes_on, head, deepest, no_items, no_entries, empty_text, before_part}
use Rattle.yaml_show.specs.Sharing.{is_alias, flow_inside, sharing_items, sharing_entries, sharing_flow, sharing_key, key_room, has_room, all_have_room, alias_line, behind_anchor, line_inside, inside_lines, sharing_item_lines, sharing_entry_lines, sharing_lines, sharing_document, sharing_shown, made}

-- ---- names

pub name_text : (mark n : ℕ) → 0 < n → n < 2 ^ 64 → (mark ∷ 97 ∷ []) ++ decimal n ≡ mark ∷ anchor_name n
unfolding anchor_name
name_text mark n h l = ap (λ z. mark ∷ 97 ∷ z) (decimal-digits_of n h l)

pub last_digit : (n : ℕ) → n < 10 → (48 + n) ∷ [] ≡ decimal n
last_digit n l = sym (decimal_digit n l)

module _ (rank : Tree → ℕ) where
  -- ---- a node by its opening

  written_made : (t : Tree) (p : Given) → made rank t (start rank t p) (started rank t p) ≡ written rank t p
  unfolding written
  written_made (scalar g x) p = refl
  written_made (sequence g ts) p = refl
  written_made (mapping g ps) p = refl

  pub opened : (t : Tree) (p q : Given) (o r : Opening) → o ≡ start rank t p → q ≡ started rank t p → o ≡ r → made rank t r q ≡ written rank t p
  opened t p q o r e f h = (λ i. made rank t ((sym h ∙ e) i) (f i)) ∙ written_made t p

  pub is_no_alias : (t : Tree) (q : Given) → is_alias (made rank t Plain q) ≡ false
  is_no_alias (scalar g x) q = refl
  is_no_alias (sequence g ts) q = refl
  is_no_alias (mapping g ps) q = refl

  pub anchored_no_alias : (t : Tree) (q : Given) (k : ℕ) → is_alias (made rank t (Anchored k) q) ≡ false
  anchored_no_alias (scalar g x) q k = refl
  anchored_no_alias (sequence g ts) q k = refl
  anchored_no_alias (mapping g ps) q k = refl

  pub alias_made : (t : Tree) (q : Given) (k : ℕ) → made rank t (Alias k) q ≡ alias_at (anchor_name k)
  alias_made (scalar g x) q k = refl
  alias_made (sequence g ts) q k = refl
  alias_made (mapping g ps) q k = refl

  alias_written : (t : Tree) (p : Given) (o : Opening) (k : ℕ) → o ≡ start rank t p → o ≡ Alias k → written rank t p ≡ alias_at (anchor_name k)
  alias_written t p o k e f = sym (opened t p (started rank t p) o (Alias k) e refl f) ∙ alias_made t (started rank t p) k

  pub is_one_alias : (t : Tree) (p : Given) (o : Opening) (k : ℕ) → o ≡ start rank t p → o ≡ Alias k → true ≡ is_alias (written rank t p)
  is_one_alias t p o k e f = sym (ap is_alias (alias_written t p o k e f))

  pub anchored_is_none : (t : Tree) (p : Given) (o : Opening) (k : ℕ) → o ≡ start rank t p → o ≡ Anchored k → false ≡ is_alias (written rank t p)
  anchored_is_none t p o k e f = sym (anchored_no_alias t (started rank t p) k) ∙ ap is_alias (opened t p (started rank t p) o (Anchored k) e refl f)

  pub plain_is_none : (t : Tree) (p : Given) (o : Opening) → o ≡ start rank t p → o ≡ Plain → false ≡ is_alias (written rank t p)
  plain_is_none t p o e f = sym (is_no_alias t (started rank t p)) ∙ ap is_alias (opened t p (started rank t p) o Plain e refl f)

  -- ---- on one line

  flow_anchored : (b : Bool) (t : Tree) (q : Given) (k : ℕ) → (38 ∷ anchor_name k) ++ ((32 ∷ []) ++ flow_inside b t (made rank t Plain q)) ≡ sharing_flow b t (made rank t (Anchored k) q)
  unfolding flow_inside
  flow_anchored b (scalar g x) q k = sym (append_assoc (38 ∷ anchor_name k) (32 ∷ []) (flow_inside b (scalar g x) (made rank (scalar g x) Plain q)))
  flow_anchored b (sequence g ts) q k = sym (append_assoc (38 ∷ anchor_name k) (32 ∷ []) (flow_inside b (sequence g ts) (made rank (sequence g ts) Plain q)))
  flow_anchored b (mapping g ps) q k = sym (append_assoc (38 ∷ anchor_name k) (32 ∷ []) (flow_inside b (mapping g ps) (made rank (mapping g ps) Plain q)))

  flow_plain : (b : Bool) (t : Tree) (q : Given) → flow_inside b t (made rank t Plain q) ≡ sharing_flow b t (made rank t Plain q)
  flow_plain b (scalar g x) q = refl
  flow_plain b (sequence g ts) q = refl
  flow_plain b (mapping g ps) q = refl

  pub flow_by_alias : (b : Bool) (t : Tree) (p : Given) (o : Opening) (k : ℕ) → o ≡ start rank t p → o ≡ Alias k → 42 ∷ anchor_name k ≡ sharing_flow b t (written rank t p)
  flow_by_alias b t p o k e f = ap (sharing_flow b t) (sym (alias_written t p o k e f))

  pub flow_by_anchor : (b : Bool) (t : Tree) (p q : Given) (o : Opening) (k : ℕ) → o ≡ start rank t p → q ≡ started rank t p → o ≡ Anchored k → (38 ∷ anchor_name k) ++ ((32 ∷ []) ++ flow_inside b t (made rank t Plain q)) ≡ sharing_flow b t (written rank t p)
  flow_by_anchor b t p q o k e g f = flow_anchored b t q k ∙ ap (sharing_flow b t) (opened t p q o (Anchored k) e g f)

  pub flow_by_plain : (b : Bool) (t : Tree) (p q : Given) (o : Opening) → o ≡ start rank t p → q ≡ started rank t p → o ≡ Plain → flow_inside b t (made rank t Plain q) ≡ sharing_flow b t (written rank t p)
  flow_by_plain b t p q o e g f = flow_plain b t q ∙ ap (sharing_flow b t) (opened t p q o Plain e g f)

  module _ (b : Bool) (t : Tree) (g : List ℕ) (q : Given) where
    pub flow_scalar : (x : List ℕ) → t ≡ scalar g x → scalar_text Always g x ≡ flow_inside b t (made rank t Plain q)
    unfolding flow_inside
    flow_scalar x e = ap (λ z. flow_inside b z (made rank z Plain q)) (sym e)

    pub flow_sequence : (own : List ℕ) (ts : Trees) → own ≡ seq_tag → t ≡ sequence g ts → tag_before g own ++ (91 ∷ sharing_items b [] ts (written_all rank ts q)) ≡ flow_inside b t (made rank t Plain q)
    unfolding flow_inside
    flow_sequence own ts f e = ap (λ z. tag_before g z ++ (91 ∷ sharing_items b [] ts (written_all rank ts q))) f ∙ ap (λ z. flow_inside b z (made rank z Plain q)) (sym e)

    pub flow_mapping : (own : List ℕ) (ps : Pairs) → own ≡ map_tag → t ≡ mapping g ps → tag_before g own ++ (123 ∷ sharing_entries b [] ps (written_pairs rank ps q)) ≡ flow_inside b t (made rank t Plain q)
    unfolding flow_inside
    flow_mapping own ps f e = ap (λ z. tag_before g z ++ (123 ∷ sharing_entries b [] ps (written_pairs rank ps q))) f ∙ ap (λ z. flow_inside b z (made rank z Plain q)) (sym e)

  module _ {X : Type 0} (b : Bool) (f : X → Tree) (xs : List X) (i : ℕ) where
    -- items from a place on
    pub flow_items_split : (d : X) (p q : Given) → drop i xs ≡ d ∷ drop (i + 1) xs → q ≡ given rank (f d) p
        → sharing_items b (separator i) (trees (map f (drop i xs))) (written_all rank (trees (map f (drop i xs))) p)
        ≡ separator i ++ (sharing_flow b (f d) (written rank (f d) p) ++ sharing_items b (separator (i + 1)) (trees (map f (drop (i + 1) xs))) (written_all rank (trees (map f (drop (i + 1) xs))) q))
    unfolding flow_inside written
    flow_items_split d p q l e =
        ap (λ z. sharing_items b (separator i) (trees (map f z)) (written_all rank (trees (map f z)) p)) l
        ∙ (λ j. separator i ++ (sharing_flow b (f d) (written rank (f d) p) ++ sharing_items b (separator (sym (add-one i) j)) (trees (map f (drop (i + 1) xs))) (written_all rank (trees (map f (drop (i + 1) xs))) (sym e j))))

    pub flow_items_end : (p : Given) → length xs ≤ i → sharing_items b (separator i) (trees (map f (drop i xs))) (written_all rank (trees (map f (drop i xs))) p) ≡ 93 ∷ []
    unfolding flow_inside written
    flow_items_end p l = ap (λ z. sharing_items b (separator i) (trees (map f z)) (written_all rank (trees (map f z)) p)) (drop_of_length-le xs l)

  module _ {X : Type 0} (b : Bool) (f : X → Tree × Tree) (xs : List X) (i : ℕ) where
    -- entries from a place on
    pub flow_entries_split : (d : X) (p q r : Given) → drop i xs ≡ d ∷ drop (i + 1) xs → q ≡ given rank (f d).0 p → r ≡ given rank (f d).1 q
        → sharing_entries b (separator i) (pairs (map f (drop i xs))) (written_pairs rank (pairs (map f (drop i xs))) p)
        ≡ separator i ++ (mark (is_simple b (f d).0) ++ (sharing_flow b (f d).0 (written rank (f d).0 p) ++ (colon (is_simple b (f d).0 && not (is_alias (written rank (f d).0 p)))
        ++ (sharing_flow b (f d).1 (written rank (f d).1 q) ++ sharing_entries b (separator (i + 1)) (pairs (map f (drop (i + 1) xs))) (written_pairs rank (pairs (map f (drop (i + 1) xs))) r)))))
    unfolding flow_inside written
    flow_entries_split d p q r l e k =
        ap (λ z. sharing_entries b (separator i) (pairs (map f z)) (written_pairs rank (pairs (map f z)) p)) l
        ∙ (λ j. separator i ++ (mark (is_simple b (f d).0) ++ (sharing_flow b (f d).0 (written rank (f d).0 p) ++ (colon (is_simple b (f d).0 && not (is_alias (written rank (f d).0 p)))
        ++ (sharing_flow b (f d).1 (written rank (f d).1 (sym e j)) ++ sharing_entries b (separator (sym (add-one i) j)) (pairs (map f (drop (i + 1) xs))) (written_pairs rank (pairs (map f (drop (i + 1) xs))) (sym (k ∙ ap (given rank (f d).1) e) j)))))))

    pub flow_entries_end : (p : Given) → length xs ≤ i → sharing_entries b (separator i) (pairs (map f (drop i xs))) (written_pairs rank (pairs (map f (drop i xs))) p) ≡ 125 ∷ []
    unfolding flow_inside written
    flow_entries_end p l = ap (λ z. sharing_entries b (separator i) (pairs (map f z)) (written_pairs rank (pairs (map f z)) p)) (drop_of_length-le xs l)

  -- ---- keys

  module _ (t : Tree) (g x : List ℕ) (h : t ≡ scalar g x) (p q : Given) (o : Opening) (e : o ≡ start rank t p) (l : q ≡ started rank t p) where
    pub key_by_alias : (k : ℕ) → o ≡ Alias k → (42 ∷ anchor_name k) ++ (32 ∷ []) ≡ sharing_key t (written rank t p)
    unfolding sharing_key
    key_by_alias k f = ap (λ z. sharing_key z (made rank z (Alias k) q)) (sym h) ∙ ap (sharing_key t) (opened t p q o (Alias k) e l f)

    pub key_by_anchor : (k : ℕ) → o ≡ Anchored k → (38 ∷ anchor_name k) ++ ((32 ∷ []) ++ scalar_text WhereNeeded g x) ≡ sharing_key t (written rank t p)
    unfolding sharing_key
    key_by_anchor k f = sym (append_assoc (38 ∷ anchor_name k) (32 ∷ []) (scalar_text WhereNeeded g x)) ∙ ap (λ z. sharing_key z (made rank z (Anchored k) q)) (sym h) ∙ ap (sharing_key t) (opened t p q o (Anchored k) e l f)

    pub key_by_plain : o ≡ Plain → scalar_text WhereNeeded g x ≡ sharing_key t (written rank t p)
    unfolding sharing_key
    key_by_plain f = ap (λ z. sharing_key z (made rank z Plain q)) (sym h) ∙ ap (sharing_key t) (opened t p q o Plain e l f)

  pub key_sequence : (t : Tree) (g : List ℕ) (ts : Trees) (m : SerialNode) → t ≡ sequence g ts → sharing_flow true t m ++ (32 ∷ []) ≡ sharing_key t m
  unfolding sharing_key
  key_sequence t g ts m e = ap (λ z. sharing_flow true z m ++ (32 ∷ [])) e ∙ ap (λ z. sharing_key z m) (sym e)

  pub key_mapping : (t : Tree) (g : List ℕ) (ps : Pairs) (m : SerialNode) → t ≡ mapping g ps → sharing_flow true t m ++ (32 ∷ []) ≡ sharing_key t m
  unfolding sharing_key
  key_mapping t g ps m e = ap (λ z. sharing_flow true z m ++ (32 ∷ [])) e ∙ ap (λ z. sharing_key z m) (sym e)

  -- ---- in block style

  lines_alias : (p : Place) (n : ℕ) (t : Tree) (q : Given) (k : ℕ) → alias_line p (anchor_name k) ≡ sharing_lines p n t (made rank t (Alias k) q)
  lines_alias p n (scalar g x) q k = refl
  lines_alias p n (sequence g ts) q k = refl
  lines_alias p n (mapping g ps) q k = refl

  lines_anchored : (p : Place) (n : ℕ) (t : Tree) (q : Given) (k : ℕ) → (space p ++ (38 ∷ anchor_name k)) ++ inside_lines (behind_anchor p) n t (made rank t Plain q) ≡ sharing_lines p n t (made rank t (Anchored k) q)
  unfolding inside_lines flow_inside
  lines_anchored p n (scalar g x) q k = refl
  lines_anchored p n (sequence g ts) q k = refl
  lines_anchored p n (mapping g ps) q k = refl

  lines_plain : (p : Place) (n : ℕ) (t : Tree) (q : Given) → inside_lines p n t (made rank t Plain q) ≡ sharing_lines p n t (made rank t Plain q)
  lines_plain p n (scalar g x) q = refl
  lines_plain p n (sequence g ts) q = refl
  lines_plain p n (mapping g ps) q = refl

  module _ (a : Place) (n : ℕ) (t : Tree) (p q : Given) (o : Opening) (e : o ≡ start rank t p) (l : q ≡ started rank t p) where
    pub lines_by_alias : (k : ℕ) → o ≡ Alias k → alias_line a (anchor_name k) ≡ sharing_lines a n t (written rank t p)
    lines_by_alias k f = lines_alias a n t q k ∙ ap (sharing_lines a n t) (opened t p q o (Alias k) e l f)

    pub lines_by_anchor : (k : ℕ) → o ≡ Anchored k → (space a ++ (38 ∷ anchor_name k)) ++ inside_lines (behind_anchor a) n t (made rank t Plain q) ≡ sharing_lines a n t (written rank t p)
    lines_by_anchor k f = lines_anchored a n t q k ∙ ap (sharing_lines a n t) (opened t p q o (Anchored k) e l f)

    pub lines_by_plain : o ≡ Plain → inside_lines a n t (made rank t Plain q) ≡ sharing_lines a n t (written rank t p)
    lines_by_plain f = lines_plain a n t q ∙ ap (sharing_lines a n t) (opened t p q o Plain e l f)

  module _ (p : Place) (n : ℕ) (t : Tree) (g : List ℕ) (q : Given) where
    pub scalar_inside : (x : List ℕ) → t ≡ scalar g x → space p ++ scalar_lines (lines_at p n) (is_root p) g x ≡ inside_lines p n t (made rank t Plain q)
    unfolding inside_lines
    scalar_inside x e = ap (λ z. inside_lines p n z (made rank z Plain q)) (sym e)

    module _ (ts : Trees) (e : t ≡ sequence g ts) where
      abbrev list : Bool → Bool → List ℕ
      list none low = cond none (empty_text p g seq_tag (codes "[]\n")) (cond low (line_inside p (sequence g ts) (made rank (sequence g ts) Plain q)) (head p g seq_tag ++ sharing_item_lines (goes_on p g seq_tag) n ts (written_all rank ts q)))

      list_is : (a b : Bool) → no_items ts ≡ a → nat_le deepest n ≡ b → list a b ≡ inside_lines p n t (made rank t Plain q)
      unfolding inside_lines
      list_is a b h k = ap (λ z. list z b) (sym h) ∙ ap (list (no_items ts)) (sym k) ∙ ap (λ z. inside_lines p n z (made rank z Plain q)) (sym e)

      pub no_items_inside : (own : List ℕ) → own ≡ seq_tag → no_items ts ≡ true → empty_text p g own (codes "[]\n") ≡ inside_lines p n t (made rank t Plain q)
      no_items_inside own f h = ap (λ z. empty_text p g z (codes "[]\n")) f ∙ list_is true (nat_le deepest n) h refl

      pub deep_items_inside : no_items ts ≡ false → nat_le deepest n ≡ true → line_inside p t (made rank t Plain q) ≡ inside_lines p n t (made rank t Plain q)
      deep_items_inside h l = ap (λ z. line_inside p z (made rank z Plain q)) e ∙ list_is false true h l

      pub items_inside : (own : List ℕ) (begun : Bool) → own ≡ seq_tag → no_items ts ≡ false → nat_le deepest n ≡ false → begun ≡ goes_on p g own → head p g own ++ sharing_item_lines begun n ts (written_all rank ts q) ≡ inside_lines p n t (made rank t Plain q)
      items_inside own begun f h l b =
          ap (λ z. head p g own ++ sharing_item_lines z n ts (written_all rank ts q)) b ∙ ap (λ z. head p g z ++ sharing_item_lines (goes_on p g z) n ts (written_all rank ts q)) f ∙ list_is false false h l

    module _ (ps : Pairs) (e : t ≡ mapping g ps) where
      abbrev table : Bool → Bool → List ℕ
      table none low = cond none (empty_text p g map_tag (codes "{}\n")) (cond low (line_inside p (mapping g ps) (made rank (mapping g ps) Plain q)) (head p g map_tag ++ sharing_entry_lines (goes_on p g map_tag) n ps (written_pairs rank ps q)))

      table_is : (a b : Bool) → no_entries ps ≡ a → (nat_le deepest n || not (all_have_room ps)) ≡ b → table a b ≡ inside_lines p n t (made rank t Plain q)
      unfolding inside_lines
      table_is a b h k = ap (λ z. table z b) (sym h) ∙ ap (table (no_entries ps)) (sym k) ∙ ap (λ z. inside_lines p n z (made rank z Plain q)) (sym e)

      pub no_entries_inside : (own : List ℕ) → own ≡ map_tag → no_entries ps ≡ true → empty_text p g own (codes "{}\n") ≡ inside_lines p n t (made rank t Plain q)
      no_entries_inside own f h = ap (λ z. empty_text p g z (codes "{}\n")) f ∙ table_is true (nat_le deepest n || not (all_have_room ps)) h refl

      on_one : no_entries ps ≡ false → (nat_le deepest n || not (all_have_room ps)) ≡ true → line_inside p t (made rank t Plain q) ≡ inside_lines p n t (made rank t Plain q)
      on_one h l = ap (λ z. line_inside p z (made rank z Plain q)) e ∙ table_is false true h l

      pub deep_entries_inside : no_entries ps ≡ false → nat_le deepest n ≡ true → line_inside p t (made rank t Plain q) ≡ inside_lines p n t (made rank t Plain q)
      deep_entries_inside h l = on_one h (ap (λ z. z || not (all_have_room ps)) l)

      pub wide_entries_inside : no_entries ps ≡ false → nat_le deepest n ≡ false → all_have_room ps ≡ false → line_inside p t (made rank t Plain q) ≡ inside_lines p n t (made rank t Plain q)
      wide_entries_inside h l m = on_one h (ap (λ z. z || not (all_have_room ps)) l ∙ ap not m)

      pub entries_inside : (own : List ℕ) (begun : Bool) → own ≡ map_tag → no_entries ps ≡ false → nat_le deepest n ≡ false → all_have_room ps ≡ true → begun ≡ goes_on p g own → head p g own ++ sharing_entry_lines begun n ps (written_pairs rank ps q) ≡ inside_lines p n t (made rank t Plain q)
      entries_inside own begun f h l m b =
          ap (λ z. head p g own ++ sharing_entry_lines z n ps (written_pairs rank ps q)) b ∙ ap (λ z. head p g z ++ sharing_entry_lines (goes_on p g z) n ps (written_pairs rank ps q)) f
          ∙ table_is false false h (ap (λ z. z || not (all_have_room ps)) l ∙ ap not m)

  -- what is known behind a node
  pub none_items_given : (ts : Trees) (q : Given) → no_items ts ≡ true → q ≡ given_all rank ts q
  unfolding given
  none_items_given end q h = refl
  none_items_given (item t ts) q h = absurd (cc)

  pub none_entries_given : (ps : Pairs) (q : Given) → no_entries ps ≡ true → q ≡ given_pairs rank ps q
  unfolding given
  none_entries_given done q h = refl
  none_entries_given (entry k v ps) q h = absurd (cc)

  pub scalar_given : (t : Tree) (g x : List ℕ) (q : Given) → t ≡ scalar g x → q ≡ given_inside rank t q
  scalar_given t g x q e = ap (λ z. given_inside rank z q) (sym e)

  pub sequence_given : (t : Tree) (g : List ℕ) (ts : Trees) (q : Given) → t ≡ sequence g ts → given_all rank ts q ≡ given_inside rank t q
  sequence_given t g ts q e = ap (λ z. given_inside rank z q) (sym e)

  pub mapping_given : (t : Tree) (g : List ℕ) (ps : Pairs) (q : Given) → t ≡ mapping g ps → given_pairs rank ps q ≡ given_inside rank t q
  mapping_given t g ps q e = ap (λ z. given_inside rank z q) (sym e)

  module _ {X : Type 0} (f : X → Tree) (xs : List X) (i n : ℕ) where
    pub items_split : (d : X) (b : Bool) (p q : Given) → drop i xs ≡ d ∷ drop (i + 1) xs → q ≡ given rank (f d) p
        → sharing_item_lines b n (trees (map f (drop i xs))) (written_all rank (trees (map f (drop i xs))) p)
        ≡ before_part b n ++ ((45 ∷ 32 ∷ []) ++ (sharing_lines Item (n + 1) (f d) (written rank (f d) p) ++ sharing_item_lines false n (trees (map f (drop (i + 1) xs))) (written_all rank (trees (map f (drop (i + 1) xs))) q)))
    unfolding inside_lines written
    items_split d b p q l e =
        ap (λ z. sharing_item_lines b n (trees (map f z)) (written_all rank (trees (map f z)) p)) l
        ∙ (λ j. before_part b n ++ ((45 ∷ 32 ∷ []) ++ (sharing_lines Item (sym (add-one n) j) (f d) (written rank (f d) p) ++ sharing_item_lines false n (trees (map f (drop (i + 1) xs))) (written_all rank (trees (map f (drop (i + 1) xs))) (sym e j)))))

    pub items_over : (b : Bool) (p : Given) → length xs ≤ i → sharing_item_lines b n (trees (map f (drop i xs))) (written_all rank (trees (map f (drop i xs))) p) ≡ []
    unfolding inside_lines written
    items_over b p l = ap (λ z. sharing_item_lines b n (trees (map f z)) (written_all rank (trees (map f z)) p)) (drop_of_length-le xs l)

  module _ {X : Type 0} (f : X → Tree × Tree) (xs : List X) (i n : ℕ) where
    pub entries_split : (d : X) (b : Bool) (p q r : Given) → drop i xs ≡ d ∷ drop (i + 1) xs → q ≡ given rank (f d).0 p → r ≡ given rank (f d).1 q
        → sharing_entry_lines b n (pairs (map f (drop i xs))) (written_pairs rank (pairs (map f (drop i xs))) p)
        ≡ before_part b n ++ (sharing_key (f d).0 (written rank (f d).0 p) ++ ((58 ∷ []) ++ (sharing_lines Value (n + 1) (f d).1 (written rank (f d).1 q) ++ sharing_entry_lines false n (pairs (map f (drop (i + 1) xs))) (written_pairs rank (pairs (map f (drop (i + 1) xs))) r))))
    unfolding inside_lines written
    entries_split d b p q r l e k =
        ap (λ z. sharing_entry_lines b n (pairs (map f z)) (written_pairs rank (pairs (map f z)) p)) l
        ∙ (λ j. before_part b n ++ (sharing_key (f d).0 (written rank (f d).0 p) ++ ((58 ∷ []) ++ (sharing_lines Value (sym (add-one n) j) (f d).1 (written rank (f d).1 (sym e j)) ++ sharing_entry_lines false n (pairs (map f (drop (i + 1) xs))) (written_pairs rank (pairs (map f (drop (i + 1) xs))) (sym (k ∙ ap (given rank (f d).1) e) j))))))

    pub entries_over : (b : Bool) (p : Given) → length xs ≤ i → sharing_entry_lines b n (pairs (map f (drop i xs))) (written_pairs rank (pairs (map f (drop i xs))) p) ≡ []
    unfolding inside_lines written
    entries_over b p l = ap (λ z. sharing_entry_lines b n (pairs (map f z)) (written_pairs rank (pairs (map f z)) p)) (drop_of_length-le xs l)

-- ---- keys

module _ {X : Type 0} (f : X → Tree × Tree) (xs : List X) (i : ℕ) where
  pub room_next : (d : X) (w : Bool) → drop i xs ≡ d ∷ drop (i + 1) xs → all_have_room (pairs (map f (drop i xs))) ≡ w → has_room (f d).0 ≡ true → all_have_room (pairs (map f (drop (i + 1) xs))) ≡ w
  room_next d w l h e = ap (λ z. z && all_have_room (pairs (map f (drop (i + 1) xs)))) (sym e) ∙ ap (λ z. all_have_room (pairs (map f z))) (sym l) ∙ h

  pub room_stops : (d : X) (w : Bool) → drop i xs ≡ d ∷ drop (i + 1) xs → all_have_room (pairs (map f (drop i xs))) ≡ w → has_room (f d).0 ≡ false → false ≡ w
  room_stops d w l h e = ap (λ z. z && all_have_room (pairs (map f (drop (i + 1) xs)))) (sym e) ∙ ap (λ z. all_have_room (pairs (map f z))) (sym l) ∙ h

  pub room_end : (w : Bool) → length xs ≤ i → all_have_room (pairs (map f (drop i xs))) ≡ w → true ≡ w
  room_end w l h = ap (λ z. all_have_room (pairs (map f z))) (sym (drop_of_length-le xs l)) ∙ h

pub short_has_room : (t : Tree) → is_short t ≡ true → true ≡ has_room t
unfolding has_room
short_has_room t h = ap (λ z. z || nat_le (length (chars (key_text t))) (key_room t)) (sym h)

pub room_measured : (t : Tree) (text : List ℕ) (room : ℕ) → is_short t ≡ false → text ≡ key_text t → room ≡ key_room t → nat_le (length (chars text)) room ≡ has_room t
unfolding has_room
room_measured t text room h e k = (λ i. nat_le (length (chars (e i))) (k i)) ∙ ap (λ z. z || nat_le (length (chars (key_text t))) (key_room t)) (sym h)

-- ---- documents

module _ {X : Type 0} (f : X → Tree) (xs : List X) (i : ℕ) where
  pub documents_split : (d : X) → drop i xs ≡ d ∷ drop (i + 1) xs → sharing_shown (map f (drop i xs)) ≡ sharing_document (f d) ++ sharing_shown (map f (drop (i + 1) xs))
  documents_split d l = ap (λ z. sharing_shown (map f z)) l

  pub documents_over : length xs ≤ i → sharing_shown (map f (drop i xs)) ≡ []
  documents_over l = ap (λ z. sharing_shown (map f z)) (drop_of_length-le xs l)
