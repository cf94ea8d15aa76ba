-- Node properties, one or two, and what follows them.
use Rattle.std.proofs.Common.{◌≡◌, ℕ, ◌⊎◌, inl, inr, List, Some, None, refl, true, sym, ◌∙◌, ap, subst, arith}
use Rattle.std.specs.Prelude.{slice_get, encode_utf8_all}
use Rattle.yaml_definitions.specs.grammar.Rules.{Rule, ◌∪◌, seen, with_value}
use Rattle.yaml_definitions.specs.grammar.Characters.{is_ns, is_nb, is_break, is_white}
use Rattle.yaml_definitions.specs.grammar.Separation.{Ctx, s-separate as separate}
use Rattle.yaml_definitions.specs.grammar.Tags.{Handles, c-ns-tag-property as tag, c-ns-anchor-property as anchor, c-ns-properties as properties}
use Rattle.yaml_definitions.specs.model.Event.{WrittenTag, untagged, non_specific, full, Anchor}
use Rattle.yaml_definitions.specs.grammar.Events.{Props}
use Rattle.yaml_text.specs.Lines.{Inside}
use Rattle.yaml_text.proofs.Classes.{ns_bang}
use Rattle.law_one_reading.proofs.Unique.{from}
use Rattle.law_one_reading.specs.Readings.{End, Unique, Apart}
use Rattle.law_one_reading.proofs.Lines.{char_fresh, way_of, way_same}
use Rattle.law_one_reading.specs.Follows.{Fresh, Way}

ns_and : is_ns 38 ≡ true
unfolding is_ns is_nb is_break is_white
ns_and = refl

unfoldable pub joined_tag : WrittenTag → WrittenTag → WrittenTag
joined_tag t untagged = t
joined_tag t non_specific = non_specific
joined_tag t (full xs) = full xs

unfoldable pub joined_anchor : Anchor → Anchor → Anchor
joined_anchor a None = a
joined_anchor a (Some b) = Some b

-- the second property added to the first
unfoldable pub both : Props → Props → Props
both p q = record { anchor = joined_anchor p.anchor q.anchor; tag = joined_tag p.tag q.tag }

joined_untagged : (t : WrittenTag) → joined_tag untagged t ≡ t
unfolding joined_tag
joined_untagged untagged = refl
joined_untagged non_specific = refl
joined_untagged (full xs) = refl

abbrev pub tag_props : WrittenTag → Props
tag_props t = record { anchor = None; tag = t }

abbrev pub anchor_props : List ℕ → Props
anchor_props a = record { anchor = Some (encode_utf8_all a); tag = untagged }

module _ (cs : List ℕ) (handles : Handles) where
  -- one property
  abbrev pub prop : Rule Props
  prop = seen tag_props (tag cs handles) ∪ seen anchor_props (anchor cs)

  abbrev pub PropHere : ℕ → Type 0
  PropHere i = (slice_get cs i ≡ Some 33) ⊎ (slice_get cs i ≡ Some 38)

  -- no further property follows
  abbrev pub NoMore : ℕ → ℕ → Type 0
  NoMore n k = (c : Ctx) (q : ℕ) → separate cs n c k q → PropHere q → ⊥

  pub data Two (n : ℕ) (c : Ctx) (i j : ℕ) (p : Props) : Type 0 where
    alone : prop i j p → Two n c i j p
    pair : (k q : ℕ) (a b : Props) → prop i k a → separate cs n c k q → prop q j b → p ≡ both a b → Two n c i j p

  pub props_two : (n : ℕ) (c : Ctx) (i j : ℕ) (p : Props) → properties cs handles n c i j p → Two n c i j p
  unfolding properties both joined_anchor joined_tag
  props_two n c i j p (inl (k, t, r, inl (e, f))) = alone (inl (t, subst (λ x. tag cs handles i x t) (sym e) r, f))
  props_two n c i j p (inl (k, t, r, inr (q, s, (a, x, f)))) = pair k q (tag_props t) (anchor_props a) (inl (t, r, refl)) s (inr (a, x, refl)) f
  props_two n c i j p (inr (k, a, r, inl (e, f))) = alone (inr (a, subst (λ x. anchor cs i x a) (sym e) r, f))
  props_two n c i j p (inr (k, a, r, inr (q, s, (t, x, f)))) =
      pair k q (anchor_props a) (tag_props t) (inr (a, r, refl)) s (inl (t, x, refl))
      (f ∙ ap (λ u. record { anchor = Some (encode_utf8_all a); tag = u }) (sym (joined_untagged t)))

  pub props_alone : (n : ℕ) (c : Ctx) (i j : ℕ) (p : Props) → prop i j p → properties cs handles n c i j p
  unfolding properties
  props_alone n c i j p (inl (t, r, f)) = inl (j, t, r, inl (refl, f))
  props_alone n c i j p (inr (a, r, f)) = inr (j, a, r, inl (refl, f))

  pub prop_solid : (i : ℕ) → PropHere i → Fresh cs i
  prop_solid i (inl h) = char_fresh cs i 33 h ns_bang (λ e. omega (arith, e)) (λ e. omega (arith, e)) (λ e. omega (arith, e))
  prop_solid i (inr h) = char_fresh cs i 38 h ns_and (λ e. omega (arith, e)) (λ e. omega (arith, e)) (λ e. omega (arith, e))

  module _ (prop_same : (i j k : ℕ) (p q : Props) → prop i j p → prop i k q → (j ≡ k) × (p ≡ q))
      (prop_here : (i j : ℕ) (p : Props) → prop i j p → PropHere i)
      (prop_inside : (i j : ℕ) (p : Props) → prop i j p → Inside cs j) where
    pub props_here : (n : ℕ) (c : Ctx) (i j : ℕ) (p : Props) → Two n c i j p → PropHere i
    props_here n c i j p (alone r) = prop_here i j p r
    props_here n c i j p (pair k q a b r s t e) = prop_here i k a r

    pub props_inside : (n : ℕ) (c : Ctx) (i j : ℕ) (p : Props) → Two n c i j p → Inside cs j
    props_inside n c i j p (alone r) = prop_inside i j p r
    props_inside n c i j p (pair k q a b r s t e) = prop_inside q j b t

    -- as many properties are the same ones; else one more follows the first alone
    pub data Compare (n : ℕ) (c d : Ctx) (i j k : ℕ) (p q : Props) : Type 0 where
      equal : j ≡ k → p ≡ q → Compare n c d i j k p q
      less : (o : ℕ) (b : Props) → separate cs n d j o → prop o k b → Compare n c d i j k p q
      more : (o : ℕ) (b : Props) → separate cs n c k o → prop o j b → Compare n c d i j k p q

    pub compare : (n : ℕ) (c d : Ctx) (i j k : ℕ) (p q : Props) → Two n c i j p → Two n d i k q → Compare n c d i j k p q
    compare n c d i j k p q (alone r) (alone s) = let h = prop_same i j k p q r s in equal h.0 h.1
    compare n c d i j k p q (alone r) (pair l o a b s t u e) =
        let h = prop_same i j l p a r s in less o b (subst (λ x. separate cs n d x o) (sym h.0) t) u
    compare n c d i j k p q (pair l o a b s t u e) (alone r) =
        let h = prop_same i k l q a r s in more o b (subst (λ x. separate cs n c x o) (sym h.0) t) u
    compare n c d i j k p q (pair l o a b s t u e) (pair l2 o2 a2 b2 s2 t2 u2 e2) =
        let h = prop_same i l l2 a a2 s s2 in
        let x : o ≡ o2 = way_same cs l2 o o2 (subst (λ y. Way cs y o) h.0 (way_of cs n c l o t (prop_solid o (prop_here o j b u)).0)) (way_of cs n d l2 o2 t2 (prop_solid o2 (prop_here o2 k b2 u2)).0) in
        let g = prop_same o2 j k b b2 (subst (λ y. prop y j b) x u) u2 in
        equal g.0 (e ∙ ap (λ y. both y b) h.1 ∙ ap (λ y. both a2 y) g.1 ∙ sym e2)

    module _ {V : Type 0} (n : ℕ) where
      pub apart_propped : (c d : Ctx) {W : Type 0} (S : Props → Rule V) (T : Props → Rule W) (E F : End)
          → ((p : Props) (k j m : ℕ) (v : V) → Inside cs k → S p k j v → E j m → NoMore n k)
          → ((p : Props) (k j m : ℕ) (v : W) → Inside cs k → T p k j v → F j m → NoMore n k)
          → ((p : Props) → Apart (from (Inside cs) (S p)) E (from (Inside cs) (T p)) F)
          → Apart (with_value (properties cs handles n c) S) E (with_value (properties cs handles n d) T) F
      apart_propped c d {W} S T E F f g h i j k m o v w (a, p, r, s) e (b, q, t, u) x = go (compare n c d i a b p q (props_two n c i a p r) (props_two n d i b q t))
        where
          go : Compare n c d i a b p q → ⊥
          go (equal y z) = h p a j k m o v w (props_inside n c i a p (props_two n c i a p r), s) e
              (props_inside n c i a p (props_two n c i a p r), subst (λ l. T l a k w) (sym z) (subst (λ l. T q l k w) (sym y) u)) x
          go (less l z y b2) = f p a j m v (props_inside n c i a p (props_two n c i a p r)) s e d l y (prop_here l b z b2)
          go (more l z y b2) = g q b k o w (props_inside n d i b q (props_two n d i b q t)) u x c l y (prop_here l a z b2)

      pub unique_propped : (c : Ctx) (S : Props → Rule V) (E : End)
          → ((p : Props) (k j m : ℕ) (v : V) → Inside cs k → S p k j v → E j m → NoMore n k)
          → ((p : Props) → Unique (from (Inside cs) (S p)) E)
          → Unique (with_value (properties cs handles n c) S) E
      unique_propped c S E f h i j k m o v w (a, p, r, s) e (b, q, t, u) x = go (compare n c c i a b p q (props_two n c i a p r) (props_two n c i b q t))
        where
          go : Compare n c c i a b p q → (m ≡ o) × (v ≡ w)
          go (equal y z) = h p a j k m o v w (props_inside n c i a p (props_two n c i a p r), s) e
              (props_inside n c i a p (props_two n c i a p r), subst (λ l. S l a k w) (sym z) (subst (λ l. S q l k w) (sym y) u)) x
          go (less l z y b2) = absurd (f p a j m v (props_inside n c i a p (props_two n c i a p r)) s e c l y (prop_here l b z b2))
          go (more l z y b2) = absurd (f q b k o w (props_inside n c i b q (props_two n c i b q t)) u x c l y (prop_here l a z b2))
