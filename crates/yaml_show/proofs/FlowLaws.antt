-- Flow style, piece by piece.
use Rattle.std.proofs.Common.{◌≡◌, ℕ, ◌+◌, ◌≤◌, Bool, List, [], ◌∷◌, ◌++◌, length, map, drop, refl, sym, ◌∙◌, ap, add-one}
use Rattle.std.specs.Prelude.{codes}
use Rattle.std.proofs.Math.ListN.{drop_of_length-le}
use Rattle.std.proofs.lemmas.List.{append_assoc}
use Rattle.yaml_definitions.specs.model.Tag.{core_tag, seq_tag, map_tag}
use Rattle.yaml_definitions.specs.model.Tree.{Tree, Trees, Pairs, scalar, sequence, mapping}
use Rattle.yaml_tree.specs.TreeLists.{trees, pairs}
use Rattle.yaml_show_scalar.specs.Scalars.{scalar_text}
use Rattle.yaml_show_scalar.specs.Tags.{tag_before}
use Rattle.yaml_show_scalar.specs.declared.scalar.Quotes.TheVariants.{Always}
use Rattle.yaml_spell.specs.Walked.{separator}
use Rattle.yaml_show.specs.Flow.{is_simple, mark, colon, flow_text, flow_items, flow_entries}

-- ---- tags of the kinds

pub seq_own : codes "tag:yaml.org,2002:seq" ≡ seq_tag
unfolding core_tag
seq_own = refl

pub map_own : codes "tag:yaml.org,2002:map" ≡ map_tag
unfolding core_tag
map_own = refl

-- ---- texts one after another

two : (w a b r : List ℕ) → ((w ++ a) ++ b) ++ r ≡ w ++ (a ++ (b ++ r))
two w a b r = simp append_assoc

pub four : (w a b c d : List ℕ) → (((w ++ a) ++ b) ++ c) ++ d ≡ w ++ (a ++ (b ++ (c ++ d)))
four w a b c d = simp append_assoc

five : (w a b c d r : List ℕ) → ((w ++ a) ++ (b ++ (c ++ (d ++ r)))) ≡ w ++ (a ++ (b ++ (c ++ (d ++ r))))
five w a b c d r = append_assoc w a (b ++ (c ++ (d ++ r)))

whole_entry : (w a b c d e r : List ℕ) → ((w ++ a) ++ (b ++ (c ++ (d ++ e)))) ++ r ≡ w ++ (a ++ (b ++ (c ++ (d ++ (e ++ r)))))
whole_entry w a b c d e r = simp append_assoc

-- a text that begins with one byte, and what follows
pub begun : (w o r : List ℕ) (b : ℕ) → o ≡ w ++ (b ∷ []) → o ++ r ≡ w ++ (b ∷ r)
begun w o r b e = ap (λ z. z ++ r) e ∙ append_assoc w (b ∷ []) r

-- ---- a tree by its kind

pub scalar_flow : (q : Bool) (t : Tree) (g x : List ℕ) → t ≡ scalar g x → scalar_text Always g x ≡ flow_text q t
unfolding flow_text
scalar_flow q t g x e = ap (flow_text q) (sym e)

-- a collection behind its tag
pub sequence_flow : (q : Bool) (t : Tree) (g own : List ℕ) (ts : Trees) (w o n : List ℕ) → t ≡ sequence g ts → own ≡ seq_tag → o ≡ w ++ tag_before g own → n ≡ o ++ (91 ∷ flow_items q [] ts) → n ≡ w ++ flow_text q t
unfolding flow_text
sequence_flow q t g own ts w o n e f h k =
    k ∙ ap (λ z. z ++ (91 ∷ flow_items q [] ts)) (h ∙ ap (λ z. w ++ tag_before g z) f) ∙ append_assoc w (tag_before g seq_tag) (91 ∷ flow_items q [] ts) ∙ ap (λ z. w ++ flow_text q z) (sym e)

pub mapping_flow : (q : Bool) (t : Tree) (g own : List ℕ) (ps : Pairs) (w o n : List ℕ) → t ≡ mapping g ps → own ≡ map_tag → o ≡ w ++ tag_before g own → n ≡ o ++ (123 ∷ flow_entries q [] ps) → n ≡ w ++ flow_text q t
unfolding flow_text
mapping_flow q t g own ps w o n e f h k =
    k ∙ ap (λ z. z ++ (123 ∷ flow_entries q [] ps)) (h ∙ ap (λ z. w ++ tag_before g z) f) ∙ append_assoc w (tag_before g map_tag) (123 ∷ flow_entries q [] ps) ∙ ap (λ z. w ++ flow_text q z) (sym e)

-- ---- items

module _ {X : Type 0} (q : Bool) (f : X → Tree) (xs : List X) (i : ℕ) where
  pub items_step : (d : X) (w s o whole : List ℕ) → drop i xs ≡ d ∷ drop (i + 1) xs → w ++ flow_items q (separator i) (trees (map f (drop i xs))) ≡ whole → s ≡ w ++ separator i → o ≡ s ++ flow_text q (f d)
      → o ++ flow_items q (separator (i + 1)) (trees (map f (drop (i + 1) xs))) ≡ whole
  unfolding flow_text
  items_step d w s o whole l h e k =
      let r : List ℕ = flow_items q (44 ∷ 32 ∷ []) (trees (map f (drop (i + 1) xs))) in
      ap (λ z. o ++ flow_items q (separator z) (trees (map f (drop (i + 1) xs)))) (add-one i)
      ∙ ap (λ z. z ++ r) (k ∙ ap (λ z. z ++ flow_text q (f d)) e)
      ∙ two w (separator i) (flow_text q (f d)) r
      ∙ ap (λ z. w ++ flow_items q (separator i) (trees (map f z))) (sym l) ∙ h

  pub items_end : (w o whole : List ℕ) → length xs ≤ i → w ++ flow_items q (separator i) (trees (map f (drop i xs))) ≡ whole → o ≡ w ++ (93 ∷ []) → o ≡ whole
  unfolding flow_text
  items_end w o whole l h e = e ∙ ap (λ z. w ++ flow_items q (separator i) (trees (map f z))) (sym (drop_of_length-le xs l)) ∙ h

-- ---- entries

pub entry_written : (w a b c d k v : List ℕ) (x y : Bool) → x ≡ y → a ≡ w ++ mark x → b ≡ a ++ k → c ≡ b ++ colon x → d ≡ c ++ v → d ≡ w ++ (mark y ++ (k ++ (colon y ++ v)))
entry_written w a b c d k v x y s e f g h =
    h ∙ ap (λ z. z ++ v) (g ∙ ap (λ z. z ++ colon x) (f ∙ ap (λ z. z ++ k) e)) ∙ four w (mark x) k (colon x) v ∙ ap (λ z. w ++ (mark z ++ (k ++ (colon z ++ v)))) s

module _ {X : Type 0} (q : Bool) (f : X → Tree × Tree) (xs : List X) (i : ℕ) where
  pub entries_step : (d : X) (w s o whole : List ℕ) → drop i xs ≡ d ∷ drop (i + 1) xs → w ++ flow_entries q (separator i) (pairs (map f (drop i xs))) ≡ whole → s ≡ w ++ separator i
      → o ≡ s ++ (mark (is_simple q (f d).0) ++ (flow_text q (f d).0 ++ (colon (is_simple q (f d).0) ++ flow_text q (f d).1)))
      → o ++ flow_entries q (separator (i + 1)) (pairs (map f (drop (i + 1) xs))) ≡ whole
  unfolding flow_text
  entries_step d w s o whole l h e k =
      let r : List ℕ = flow_entries q (44 ∷ 32 ∷ []) (pairs (map f (drop (i + 1) xs))) in
      let x : List ℕ = mark (is_simple q (f d).0) ++ (flow_text q (f d).0 ++ (colon (is_simple q (f d).0) ++ flow_text q (f d).1)) in
      ap (λ z. o ++ flow_entries q (separator z) (pairs (map f (drop (i + 1) xs)))) (add-one i)
      ∙ ap (λ z. z ++ r) (k ∙ ap (λ z. z ++ x) e)
      ∙ whole_entry w (separator i) (mark (is_simple q (f d).0)) (flow_text q (f d).0) (colon (is_simple q (f d).0)) (flow_text q (f d).1) r
      ∙ ap (λ z. w ++ flow_entries q (separator i) (pairs (map f z))) (sym l) ∙ h

  pub entries_end : (w o whole : List ℕ) → length xs ≤ i → w ++ flow_entries q (separator i) (pairs (map f (drop i xs))) ≡ whole → o ≡ w ++ (125 ∷ []) → o ≡ whole
  unfolding flow_text
  entries_end w o whole l h e = e ∙ ap (λ z. w ++ flow_entries q (separator i) (pairs (map f z))) (sym (drop_of_length-le xs l)) ∙ h
