-- Values that were made, as lists grow.
use Rattle.std.proofs.Common.{◌≡◌, ◌⊎◌, inl, inr, ℕ, ◌+◌, ◌<◌, ◌≤◌, List, [], ◌∷◌, ◌++◌, length, map, take, refl, sym, ◌∙◌, ap, subst, arith, length-append}
use Rattle.std.specs.Prelude.{Some}
use Rattle.std.specs.List.{slice_get, All}
use Rattle.std.proofs.Math.Seq.{take-append_seam}
use Rattle.yaml_definitions.specs.model.Tree.{Tree}
use Rattle.yaml_tree.specs.View.{Inside, content, items, entries, inside_tree, InsideBelow}
use Rattle.yaml_tree.specs.Insides.{Held}
use Rattle.yaml_tree.proofs.Lists.{push-get}
use Rattle.yaml_store_rank.specs.declared.ranking.Ranked.{Ranked}
use Rattle.yaml_store_rank.specs.Walked.{walked_tree}
use Rattle.yaml_values.specs.Ranges.{Grows, Puts, in_turn}
use Rattle.yaml_values.specs.Denotes.{ShowsInside, Shows, IsValue, Denotes}
use Rattle.yaml_values.specs.Making.{MakesInside, MakesValue, AreMade}
use Rattle.yaml_values.specs.declared.value.Value.{Value}
use Rattle.yaml_values.specs.declared.value.Span.{Span}
use Rattle.yaml_values.proofs.RangeLaws.{grows-none, grows-more, range-stays}

module _ (parts parts2 texts texts2 : List ℕ) (p : Grows parts parts2) (t : Grows texts texts2) where
  pub inside-stays : (tag : List ℕ) (kind s e : ℕ) (inside : Inside) → ShowsInside parts texts tag kind s e inside → ShowsInside parts2 texts2 tag kind s e inside
  inside-stays tag kind s e (content x) h = (h.0, range-stays texts texts2 s e x t h.1)
  inside-stays tag kind s e (items is) h = (h.0, range-stays parts parts2 s e is p h.1)
  inside-stays tag kind s e (entries es) h = (h.0, range-stays parts parts2 s e _ p h.1)

  shows-stays : (v : Value) (n : Held) → Shows parts texts v n → Shows parts2 texts2 v n
  shows-stays v n h = record { tag = range-stays texts texts2 v.tag_start v.tag_end n.0 t h.tag; inside = inside-stays n.0 v.kind v.start v.end n.1 h.inside }

  value-stays : (tree : ℕ → Tree) (i : ℕ) (v : Value) → IsValue tree parts texts i v → IsValue tree parts2 texts2 i v
  value-stays tree i v h = record { held = h.held; shows = shows-stays v h.held h.shows; below = h.below; made = h.made }

-- one value more
pub made-more : (c : Ranked) (roots parts parts2 texts texts2 : List ℕ) (values : List Value) (n : ℕ) (tag : List ℕ) (inside : Inside) (v : Value) → AreMade c roots parts texts values n → MakesValue texts texts2 parts parts2 n tag inside v → walked_tree c n ≡ inside_tree (walked_tree c) tag inside → AreMade c roots parts2 texts2 (values ++ (v ∷ [])) (n + 1)
made-more c roots parts parts2 texts texts2 values n tag inside v a m e = record {
  each = λ i w h. by i w (push-get values v w i h);
  long = (let l = length-append values (v ∷ []) in omega (arith, l, a.long));
  rooted = grows-more roots parts parts2 a.rooted m.parts_grow;
}
  where
    made : IsValue (walked_tree c) parts2 texts2 n v
    made = record { held = (tag, inside); shows = m.shows; below = m.below; made = e }

    by : (i : ℕ) (w : Value) → (slice_get values i ≡ Some w) ⊎ ((i ≡ length values) × (w ≡ v)) → IsValue (walked_tree c) parts2 texts2 i w
    by i w (inl h) = value-stays parts parts2 texts texts2 m.parts_grow m.texts_grow (walked_tree c) i w (a.each i w h)
    by i w (inr h) = subst (λ x. IsValue (walked_tree c) parts2 texts2 i x) (sym h.1) (subst (λ k. IsValue (walked_tree c) parts2 texts2 k v) (sym (h.0 ∙ a.long)) made)

-- all values
pub denotes : (c : Ranked) (roots parts texts : List ℕ) (values : List Value) (n documents : ℕ) → AreMade c roots parts texts values n → length c.first.items ≤ n → documents ≡ length roots → All (λ r. r < length c.first.items) roots → Denotes values parts texts documents (map (walked_tree c) roots)
denotes c roots parts texts values n documents a l d within =
    let first : take documents parts ≡ roots = (λ z. take (d z) (a.rooted.is z)) ∙ take-append_seam roots a.rooted.more in
    let long = length-append roots a.rooted.more in
    record {
      tree = walked_tree c;
      each = a.each;
      counted = omega (arith, long, d, ap length a.rooted.is);
      within = subst (λ z. All (λ r. r < length values) z) (sym first) (λ k x q. let b = within k x q in omega (arith, b, l, a.long));
      are = ap (map (walked_tree c)) first;
    }

map-pairs : (es : List (ℕ × ℕ)) → map (λ (p : ℕ × ℕ). (p.0, p.1)) es ≡ es
map-pairs [] = refl
map-pairs (p ∷ es) = ap (λ z. p ∷ z) (map-pairs es)

-- entries that were put behind the parts
pub makes-mapping : (texts parts parts2 : List ℕ) (number : ℕ) (tag : List ℕ) (es : List (ℕ × ℕ)) (inside : Inside) (s : Span) → inside ≡ entries (map (λ (p : ℕ × ℕ). (p.0, p.1)) es) → Puts parts parts2 s.start s.end (in_turn es) → All (λ p. (p.0 < number) × (p.1 < number)) es → MakesInside texts texts parts parts2 number tag inside 7 s
makes-mapping texts parts parts2 number tag es inside s e p b =
    let q : inside ≡ entries es = e ∙ ap entries (map-pairs es) in
    record {
      texts_grow = grows-none texts;
      parts_grow = p.grows;
      shows = subst (λ x. ShowsInside parts2 texts tag 7 s.start s.end x) (sym q) (refl, p.range);
      below = subst (InsideBelow number) (sym q) ((λ k d l. absurd (omega arith)), b);
    }
