-- Node properties: what is left after all that a reader found, and whether content follows them.
use Rattle.std.proofs.Common.{◌≡◌, ℕ, inl, inr, List, refl, sym, ◌∙◌, subst, Some, ◌⊎◌}
use Rattle.yaml_definitions.specs.grammar.Rules.{Rule, gives, maybe, with_value}
use Rattle.yaml_definitions.specs.grammar.Separation.{Ctx, s-separate as separate}
use Rattle.std.specs.Prelude.{slice_get}
use Rattle.yaml_definitions.specs.grammar.Tags.{Handles, c-ns-tag-property as tag, c-ns-anchor-property as anchor, c-ns-properties as properties}
use Rattle.yaml_definitions.specs.model.Event.{WrittenTag, Event}
use Rattle.yaml_definitions.specs.grammar.Events.{Props}
use Rattle.yaml_definitions.specs.grammar.Nodes.{Part}
use Rattle.yaml_text.specs.Lines.{Inside}
use Rattle.law_one_reading.specs.Readings.{End, Starts}
use Rattle.law_one_reading.proofs.Lines.{way_of, way_same}
use Rattle.law_one_reading.specs.Follows.{Solid, Fresh, Way}
use Rattle.law_one_reading.proofs.Properties.{NoMore, prop, prop_solid, Two, alone, pair, both, props_two, tag_props, anchor_props}
use Rattle.law_one_reading.proofs.TagEnds.{prop_same, prop_here, prop_inside, tag_here}
use Rattle.law_one_reading.proofs.FlowNodes.{kind_three, plain_start, jsons_start, Plains, Jsons, YamlRest, JsonRest}
use Rattle.law_going_on.specs.GoingOn.{Refused, Goes, Rest}
use Rattle.law_going_on.proofs.Separations.{rest_separate}

-- a value and nothing more goes on as it stands
pub goes_gives : {V : Type 0} (x : V) (E : End) (i : ℕ) → Goes (gives x) E i E i
goes_gives x E i = record { goes = λ j m v (a, b) e. subst (λ y. E y m) a e }

pub refused_gives : {V : Type 0} (x : V) (E : End) (i : ℕ) → ((m : ℕ) → E i m → ⊥) → Refused (gives x) E i
refused_gives x E i n = record { none = λ j m v (a, b) e. n m (subst (λ y. E y m) a e) }

module _ (cs : List ℕ) (handles : Handles) (n : ℕ) (c : Ctx) where
  -- a tag begins at one place and an anchor at the other
  abbrev pub Differ : ℕ → ℕ → Type 0
  Differ i o = ((slice_get cs i ≡ Some 33) × (slice_get cs o ≡ Some 38)) ⊎ ((slice_get cs i ≡ Some 38) × (slice_get cs o ≡ Some 33))

  -- a second property may follow the one that was read, if it was one
  abbrev pub Second : ℕ → ℕ → Props → Type 0
  Second i k p = prop cs handles i k p × ((l : ℕ) × (o : ℕ) × (b : Props) × separate cs n c k o × prop cs handles o l b × Differ i o)

  -- none does where no property begins at the place that separation leads to, or one of the same kind
  pub no_second : (i k o : ℕ) (p : Props) → ((q : ℕ) → separate cs n c k q → Solid cs q → q ≡ o) → (Differ i o → ⊥) → Second i k p → ⊥
  no_second i k o p to none (a, (l, x, b, s, r, e)) = none (subst (Differ i) (to x s (prop_solid cs handles x (prop_here cs handles x l b r)).0) e)

  -- one property or two, of two kinds
  pub data Kinds (i l : ℕ) (q : Props) : Type 0 where
    one_prop : prop cs handles i l q → Kinds i l q
    two_props : (x y : ℕ) (a b : Props) → prop cs handles i x a → separate cs n c x y → prop cs handles y l b → q ≡ both a b → Differ i y → Kinds i l q

  tag_char : (i j : ℕ) (t : WrittenTag) → tag cs handles i j t → slice_get cs i ≡ Some 33
  tag_char i j t r = tag_here cs handles i j t r

  anchor_char : (i j : ℕ) (x : List ℕ) → anchor cs i j x → slice_get cs i ≡ Some 38
  unfolding anchor
  anchor_char i j x (k, (h, e), r) = h

  pub kinds : (i l : ℕ) (q : Props) → properties cs handles n c i l q → Kinds i l q
  unfolding properties
  kinds i l q r = go r (props_two cs handles n c i l q r)
    where
      go : properties cs handles n c i l q → Two cs handles n c i l q → Kinds i l q
      go r2 (alone a) = one_prop a
      go (inl (m, t, u, inl (e, f))) (pair x y a b g s w eq) = one_prop (inl (t, subst (λ z. tag cs handles i z t) (sym e) u, f))
      go (inr (m, t, u, inl (e, f))) (pair x y a b g s w eq) = one_prop (inr (t, subst (λ z. anchor cs i z t) (sym e) u, f))
      go (inl (m, t, u, inr (z, v, (o, d, f)))) (pair x y a b g s w eq) =
          let h : x ≡ m = (prop_same cs handles i x m a (tag_props t) g (inl (t, u, refl))).0 in
          let k : y ≡ z = way_same cs m y z (subst (λ j. Way cs j y) h (way_of cs n c x y s (prop_solid cs handles y (prop_here cs handles y l b w)).0)) (way_of cs n c m z v (prop_solid cs handles z (inr (anchor_char z l o d))).0) in
          two_props x y a b g s w eq (inl (tag_char i m t u, subst (λ j. slice_get cs j ≡ Some 38) (sym k) (anchor_char z l o d)))
      go (inr (m, t, u, inr (z, v, (o, d, f)))) (pair x y a b g s w eq) =
          let h : x ≡ m = (prop_same cs handles i x m a (anchor_props t) g (inr (t, u, refl))).0 in
          let k : y ≡ z = way_same cs m y z (subst (λ j. Way cs j y) h (way_of cs n c x y s (prop_solid cs handles y (prop_here cs handles y l b w)).0)) (way_of cs n c m z v (prop_solid cs handles z (inl (tag_char z l o d))).0) in
          two_props x y a b g s w eq (inr (anchor_char i m t u, subst (λ j. slice_get cs j ≡ Some 33) (sym k) (tag_char z l o d)))

  -- the properties that were read, where no second one follows a first, are those of every reading that goes on
  pub rest_propped : {V : Type 0} (S : Props → Rule V) (E : End) (i k : ℕ) (p : Props) → properties cs handles n c i k p → (Second i k p → ⊥)
      → ((q : Props) (l j m : ℕ) (v : V) → Inside cs l → S q l j v → E j m → NoMore cs handles n l)
      → Rest (with_value (properties cs handles n c) S) E i (S p) E k
  rest_propped {V} S E i k p r none next = record { rest = λ j m v (l, q, s, t) e. go j m v l q t e (props_two cs handles n c i k p r) (kinds i l q s) }
    where
      go : (j m : ℕ) (v : V) (l : ℕ) (q : Props) → S q l j v → E j m → Two cs handles n c i k p → Kinds i l q → (o : ℕ) × (w : V) × S p k o w × E o m
      go j m v l q t e (alone a) (one_prop b) =
          let h = prop_same cs handles i k l p q a b in
          (j, v, subst (λ z. S z k j v) (sym h.1) (subst (λ z. S q z j v) (sym h.0) t), e)
      go j m v l q t e (alone a) (two_props x y b d f g u w df) =
          let h = prop_same cs handles i k x p b a f in
          absurd (none (a, (l, y, d, subst (λ z. separate cs n c z y) (sym h.0) g, u, df)))
      go j m v l q t e (pair x y a b f g u w) (one_prop d) =
          let h = prop_same cs handles i x l a q f d in
          absurd (next q l j m v (prop_inside cs handles i l q d) t e c y (subst (λ z. separate cs n c z y) h.0 g) (prop_here cs handles y k b u))
      go j m v l q t e (pair x y a b f g u w) (two_props x2 y2 a2 b2 f2 g2 u2 w2 df) =
          let h = prop_same cs handles i x x2 a a2 f f2 in
          let s : y ≡ y2 = way_same cs x2 y y2 (subst (λ z. Way cs z y) h.0 (way_of cs n c x y g (prop_solid cs handles y (prop_here cs handles y k b u)).0)) (way_of cs n c x2 y2 g2 (prop_solid cs handles y2 (prop_here cs handles y2 l b2 u2)).0) in
          let o = prop_same cs handles y2 k l b b2 (subst (λ z. prop cs handles z k b) s u) u2 in
          let d : p ≡ q = w ∙ subst (λ z. both a b ≡ both z b) h.1 refl ∙ subst (λ z. both a2 b ≡ both a2 z) o.1 refl ∙ sym w2 in
          (j, v, subst (λ z. S z k j v) (sym d) (subst (λ z. S q z j v) (sym o.0) t), e)

  module _ (Wide : Type 0) (Open : Type 0) (inside : Part → Rule (List Event)) (p : Props) where
    plains_fresh : (E : End) → Starts (Plains cs Wide handles Open inside n c p) E (Fresh cs)
    plains_fresh E i j m v (t, r, f) e = (plain_start cs n c i j t r).0

    jsons_fresh : (E : End) → Starts (Jsons cs Wide handles Open inside n c p) E (Fresh cs)
    jsons_fresh E i j m v r e = kind_three cs i (jsons_start cs Wide handles Open inside n c p i j v r)

    -- content after properties, at the only place where it may begin
    pub plain_after : (E : End) (k x : ℕ) → ((q : ℕ) → maybe (separate cs n c) k q → Solid cs q → q ≡ x) → ((m : ℕ) → E k m → ⊥)
        → Rest (YamlRest cs Wide handles Open inside n c p) E k (Plains cs Wide handles Open inside n c p) E x
    plain_after E k x to stop = record { rest = go }
      where
        go : (j m : ℕ) (v : List Event) → YamlRest cs Wide handles Open inside n c p k j v → E j m → (o : ℕ) × (w : List Event) × Plains cs Wide handles Open inside n c p x o w × E o m
        go j m v (inl r) e = (rest_separate cs n c (Plains cs Wide handles Open inside n c p) E k x (plains_fresh E) to).rest j m v r e
        go j m v (inr (a, b)) e = absurd (stop m (subst (λ y. E y m) a e))

    pub json_after : (E : End) (k x : ℕ) → ((q : ℕ) → maybe (separate cs n c) k q → Solid cs q → q ≡ x) → Rest (JsonRest cs Wide handles Open inside n c p) E k (Jsons cs Wide handles Open inside n c p) E x
    json_after E k x to = rest_separate cs n c (Jsons cs Wide handles Open inside n c p) E k x (jsons_fresh E) to
