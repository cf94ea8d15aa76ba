-- Node properties: that those read are all, and what stops every node where none could be read.
use Rattle.std.proofs.Common.{◌≡◌, ◌≢◌, true, false, ℕ, ◌⊎◌, List, Some, None, refl, sym, ◌∙◌, ap, subst, arith, inl, inr, Result, Err, IfErr}
use Rattle.std.specs.Prelude.{slice_get}
use Rattle.std.specs.Result.{IsErrAnd}
use Rattle.std.proofs.lemmas.Result.{err_from_is_err_and}
use Rattle.yaml_text.specs.LeafAnswer.{Unread}
use Rattle.yaml_definitions.specs.model.Event.{WrittenTag, untagged, non_specific, full, Anchor}
use Rattle.yaml_text.specs.Lines.{Inside, is_key}
use Rattle.yaml_text.specs.declared.fault.Fault.{Fault}
use Rattle.yaml_text.specs.declared.fault.Fault.TheVariants as fault
use Rattle.yaml_definitions.specs.grammar.Rules.{maybe}
use Rattle.yaml_definitions.specs.grammar.Separation.{Ctx, block_key, s-separate as separate}
use Rattle.yaml_text.specs.Calls as calls
use Rattle.yaml_definitions.specs.grammar.Tags.{Handles, c-ns-anchor-property as anchor}
use Rattle.yaml_definitions.specs.grammar.Events.{Props, no_props}
use Rattle.yaml_text.proofs.Runs.{same_char}
use Rattle.yaml_mark.specs.MarkFaults.{NameRefuses, TagRefuses}
use Rattle.law_one_reading.specs.Follows.{Solid, Fresh}
use Rattle.law_one_reading.proofs.Properties as pair
use Rattle.law_one_reading.proofs.Properties.{prop, prop_solid}
use Rattle.law_one_reading.proofs.TagEnds.{prop_same, prop_here, prop_inside, tag_here}
use Rattle.law_going_on.proofs.PropertyChoices.{Second, Kinds, one_prop, two_props, kinds}
use Rattle.law_going_on.proofs.PropertyLines.{no_gap, separate_line, line_properties, BarredLine}
use Rattle.yaml_layout.specs.PropertyDecisions.{IsProperty, Differ, IsSingle, Stops, another, nothing, Barred, AllProperties, LineGoesOn}
use Rattle.yaml_sink.specs.PropertyRules.{HasTag, HasAnchor, SomeProperties, tag_alone, anchor_alone, both, Own, Disjoint, either_anchor, either_tag, both_props}

-- ---- what refusals say

-- at the exit of a `?`
pub failed : {X : Type 0} (P : Fault → Type 0) (r : Result X Fault) (e : Fault) → IsErrAnd r (λ y. y ≡ e) → P e → IfErr r P
failed P r e was p = let h = err_from_is_err_and r was in subst (λ x. IfErr x P) (sym (h.1 ∙ ap Err h.2)) p

pub name_refused : {P : Type 0} (e : Fault) → NameRefuses e P → (e ≡ fault.OutOfMemory) ⊎ P
name_refused (fault.Syntax at) p = inr p
name_refused _ p = absurd p

pub tag_refused : {P : Type 0} (e : Fault) → TagRefuses e P → (e ≡ fault.OutOfMemory) ⊎ P
tag_refused (fault.Syntax at) p = inr p
tag_refused (fault.UnknownHandle at) p = inr p
tag_refused (fault.BadTag at) p = inr p
tag_refused fault.OutOfMemory p = inl refl
tag_refused _ p = absurd p

pub or_else : {A P Q : Type 0} → (P → Q) → A ⊎ P → A ⊎ Q
or_else f (inl a) = inl a
or_else f (inr p) = inr (f p)

-- ---- two that are not apart

two_tags : (p q : Props) → HasTag p.tag → HasTag q.tag → Disjoint p q → ⊥
two_tags p q s t (a, inl h) = subst HasTag h s
two_tags p q s t (a, inr h) = subst HasTag h t

two_anchors : (p q : Props) → HasAnchor p.anchor → HasAnchor q.anchor → Disjoint p q → ⊥
two_anchors p q s t (inl h, b) = subst HasAnchor h s
two_anchors p q s t (inr h, b) = subst HasAnchor h t

-- the joined properties are those of the readings
pub both_is : (p q : Props) → both_props p q ≡ pair.both p q
unfolding pair.both pair.joined_anchor pair.joined_tag
both_is p q = ap (λ a. record { anchor = a; tag = either_tag q.tag p.tag }) (anchors p.anchor q.anchor) ∙ ap (λ t. record { anchor = pair.joined_anchor p.anchor q.anchor; tag = t }) (tags p.tag q.tag)
  where
    anchors : (a b : Anchor) → either_anchor b a ≡ pair.joined_anchor a b
    anchors a None = refl
    anchors a (Some b) = refl

    tags : (t u : WrittenTag) → either_tag u t ≡ pair.joined_tag t u
    tags t untagged = refl
    tags t non_specific = refl
    tags t (full u) = refl

module _ (cs : List ℕ) where
  -- a tag here, or an anchor, and none of the other kind there
  pub tag_alike : (i o : ℕ) → slice_get cs i ≡ Some 33 → slice_get cs o ≢ Some 38 → Differ cs i o → ⊥
  tag_alike i o h none (inl (g, f)) = none f
  tag_alike i o h none (inr (g, f)) = let x : 33 ≡ 38 = same_char cs i 33 38 h g in omega (arith, x)

  pub anchor_alike : (i o : ℕ) → slice_get cs i ≡ Some 38 → slice_get cs o ≢ Some 33 → Differ cs i o → ⊥
  anchor_alike i o h none (inr (g, f)) = none f
  anchor_alike i o h none (inl (g, f)) = let x : 38 ≡ 33 = same_char cs i 38 33 h g in omega (arith, x)

module _ (cs : List ℕ) (handles : Handles) where
  -- no property of the kind that begins so
  pub no_anchor : (i : ℕ) → slice_get cs i ≡ Some 38 → Unread (calls.read_name cs) i → (j : ℕ) (p : Props) → prop cs handles i j p → ⊥
  unfolding calls.read_name
  no_anchor i h none j p (inl (t, r, e)) = let x : 38 ≡ 33 = same_char cs i 38 33 h (tag_here cs handles i j t r) in omega (arith, x)
  no_anchor i h none j p (inr (a, r, e)) = none j a (inl r)

  pub no_tag : (i : ℕ) → slice_get cs i ≡ Some 33 → Unread (calls.read_tag cs handles) i → (j : ℕ) (p : Props) → prop cs handles i j p → ⊥
  unfolding calls.read_tag anchor
  no_tag i h none j p (inl (t, r, e)) = none j t r
  no_tag i h none j p (inr (a, (k, (g, f), r), e)) = let x : 33 ≡ 38 = same_char cs i 33 38 h g in omega (arith, x)

  module _ (n : ℕ) (c : Ctx) where
    -- ---- where none could be read

    pub barred_none : (i : ℕ) → IsProperty cs i → ((j : ℕ) (p : Props) → prop cs handles i j p → ⊥) → Barred cs handles n c i
    barred_none i at none = (at, λ k p s. go k p (kinds cs handles n c i k p s))
      where
        go : (k : ℕ) (p : Props) → Kinds cs handles n c i k p → Stops cs handles n c k
        go k p (one_prop b) = absurd (none k p b)
        go k p (two_props x y a b f g u w d) = absurd (none x a f)

    -- no content comes after the first
    pub barred_first : (i e : ℕ) (a : Props) → prop cs handles i e a → is_key c ≡ false → (Inside cs e → (q : ℕ) → maybe (separate cs n c) e q → Fresh cs q → ⊥) → Barred cs handles n c i
    barred_first i e a r key none = (prop_here cs handles i e a r, λ k p s. go k p (kinds cs handles n c i k p s))
      where
        here : (x : ℕ) → e ≡ x → (q : ℕ) → maybe (separate cs n c) x q → Fresh cs q → ⊥
        here x h q m f = none (prop_inside cs handles i e a r) q (subst (λ z. maybe (separate cs n c) z q) (sym h) m) f

        go : (k : ℕ) (p : Props) → Kinds cs handles n c i k p → Stops cs handles n c k
        go k p (one_prop b) = nothing key (here k (prop_same cs handles i e k a p r b).0)
        go k p (two_props x y a2 b2 f g u w d) = absurd (here x (prop_same cs handles i e x a a2 r f).0 y (inr g) (prop_solid cs handles y (prop_here cs handles y k b2 u)))

    -- the second, which begins at o, could not be read
    pub barred_second : (i e o : ℕ) (a : Props) → prop cs handles i e a → separate cs n c e o → IsProperty cs o
        → ((q : ℕ) → maybe (separate cs n c) e q → Solid cs q → q ≡ o) → ((j : ℕ) (p : Props) → prop cs handles o j p → ⊥) → Barred cs handles n c i
    barred_second i e o a r t is to none = (prop_here cs handles i e a r, λ k p s. go k p (kinds cs handles n c i k p s))
      where
        go : (k : ℕ) (p : Props) → Kinds cs handles n c i k p → Stops cs handles n c k
        go k p (one_prop b) = another o (subst (λ z. separate cs n c z o) (prop_same cs handles i e k a p r b).0 t) is
        go k p (two_props x y a2 b2 f g u w d) =
            let h : y ≡ o = to y (inr (subst (λ z. separate cs n c z y) (sym (prop_same cs handles i e x a a2 r f).0) g)) (prop_solid cs handles y (prop_here cs handles y k b2 u)).0 in
            absurd (none k b2 (subst (λ z. prop cs handles z k b2) h u))

    -- ---- all that stand here

    -- one, and separation leads to no other kind
    pub all_one : (i e x : ℕ) (a p : Props) → prop cs handles i e a → (p ≡ no_props → ⊥)
        → ((q : ℕ) → maybe (separate cs n c) e q → Solid cs q → q ≡ x) → (x ≡ e) ⊎ (Differ cs i x → ⊥) → AllProperties cs handles n c i e p
    all_one i e x a p r some to end = record { none = λ h is. some h; second = second }
      where
        solid : (o : ℕ) → Differ cs i o → Solid cs o
        solid o (inl (g, h)) = (prop_solid cs handles o (inr h)).0
        solid o (inr (g, h)) = (prop_solid cs handles o (inl h)).0

        second : IsSingle p → (o : ℕ) → separate cs n c e o → Differ cs i o → ⊥
        second one o s d = go end (to o (inr s) (solid o d))
          where
            go : (x ≡ e) ⊎ (Differ cs i x → ⊥) → o ≡ x → ⊥
            go (inl h) f =
                let g : o ≡ e = f ∙ h in
                no_gap cs n c e (prop_inside cs handles i e a r) (subst (separate cs n c e) g s) (subst (Solid cs) g (solid o d))
            go (inr none) f = none (subst (Differ cs i) f d)

    -- both
    pub all_both : (i e : ℕ) (name : List ℕ) (t : WrittenTag) → HasTag t → AllProperties cs handles n c i e (record { anchor = Some name; tag = t })
    all_both i e name t is = record { none = λ h p. named (ap Props.anchor h); second = λ one o s d. single one }
      where
        named : {A : Type 0} → Some name ≡ None → A
        named h = cc

        single : {A : Type 0} → IsSingle (record { anchor = Some name; tag = t }) → A
        single (inl h) = named h
        single (inr h) = absurd (subst HasTag h is)

    pub all_none : (i e : ℕ) (p : Props) → (IsProperty cs i → ⊥) → AllProperties cs handles n c i e p
    all_none i e p not = record { none = λ h is. not is; second = λ one o s d. not (first o d) }
      where
        first : (o : ℕ) → Differ cs i o → IsProperty cs i
        first o (inl (g, h)) = inl g
        first o (inr (g, h)) = inr g

    -- where a single property stands no second one follows
    pub no_more : (i e : ℕ) (p : Props) → AllProperties cs handles n c i e p → Second cs handles n c i e p → ⊥
    no_more i e p all (a, (l, o, b, s, r, d)) = all.second (single a) o s d
      where
        single : prop cs handles i e p → IsSingle p
        single (inl (t, u, h)) = inl (ap Props.anchor h)
        single (inr (x, u, h)) = inr (ap Props.tag h)

    -- ---- what was read on one line holds wherever the line goes on

    pub line_marks : (i e : ℕ) (p : Props) → SomeProperties cs handles 0 block_key i e p → SomeProperties cs handles n c i e p
    line_marks i e p (tag_alone t r s h) = tag_alone t r s h
    line_marks i e p (anchor_alone a r h) = anchor_alone a r h
    line_marks i e p (both r s t) = both (line_properties cs handles n c i e p r) s t

    pub line_own : (i e : ℕ) (p : Props) → Own cs handles 0 block_key i e p → Own cs handles n c i e p
    line_own i e p (inl h) = inl h
    line_own i e p (inr m) = inr (line_marks i e p m)

    pub line_all : (i e : ℕ) (p : Props) → LineGoesOn cs e p → AllProperties cs handles 0 block_key i e p → AllProperties cs handles n c i e p
    line_all i e p (inl h) all = all_none i e p (all.none h)
    line_all i e p (inr f) all = record { none = all.none; second = λ one o s d. all.second one o (separate_line cs n c e o f s) d }

  -- ---- at block level

  pub barred_line : (i : ℕ) → Barred cs handles 0 block_key i → BarredLine cs handles i
  barred_line i (at, stops) = (at, λ l q r. go l (stops l q r))
    where
      go : (l : ℕ) → Stops cs handles 0 block_key l → (o : ℕ) × separate cs 0 block_key l o × IsProperty cs o
      go l (another o s h) = (o, s, h)
      go l (nothing key f) = let e : true ≡ false = key in cc

  -- one of each kind
  pub apart_kinds : (i e x f : ℕ) (p q : Props) → SomeProperties cs handles 0 block_key i e p → SomeProperties cs handles 0 block_key x f q → Disjoint p q → prop cs handles i e p × prop cs handles x f q × Differ cs i x
  unfolding anchor
  apart_kinds i e x f p q (tag_alone t r s h) (anchor_alone a (k, (g, m), u) w) y = (inl (t, r, h), inr (a, (k, (g, m), u), w), inl (tag_here cs handles i e t r, g))
  apart_kinds i e x f p q (anchor_alone a (k, (g, m), u) w) (tag_alone t r s h) y = (inr (a, (k, (g, m), u), w), inl (t, r, h), inr (g, tag_here cs handles x f t r))
  apart_kinds i e x f p q (tag_alone t r s h) (tag_alone t2 r2 s2 h2) y = absurd (two_tags p q (subst HasTag (sym (ap Props.tag h)) s) (subst HasTag (sym (ap Props.tag h2)) s2) y)
  apart_kinds i e x f p q (tag_alone t r s h) (both r2 s2 t2) y = absurd (two_tags p q (subst HasTag (sym (ap Props.tag h)) s) s2 y)
  apart_kinds i e x f p q (anchor_alone a r h) (anchor_alone a2 r2 h2) y = absurd (two_anchors p q (subst HasAnchor (sym (ap Props.anchor h)) tt) (subst HasAnchor (sym (ap Props.anchor h2)) tt) y)
  apart_kinds i e x f p q (anchor_alone a r h) (both r2 s2 t2) y = absurd (two_anchors p q (subst HasAnchor (sym (ap Props.anchor h)) tt) t2 y)
  apart_kinds i e x f p q (both r s t) (tag_alone t2 r2 s2 h2) y = absurd (two_tags p q s (subst HasTag (sym (ap Props.tag h2)) s2) y)
  apart_kinds i e x f p q (both r s t) (anchor_alone a2 r2 h2) y = absurd (two_anchors p q t (subst HasAnchor (sym (ap Props.anchor h2)) tt) y)
  apart_kinds i e x f p q (both r s t) (both r2 s2 t2) y = absurd (two_tags p q s s2 y)
