-- Node properties.
use Rattle.std.proofs.Common.{◌≡◌, ℕ, List, ◌++◌, Bool, true, false, Option, Some, None, refl, sym, ◌∙◌, ap, subst, arith, inl, inr}
use Rattle.std.specs.Prelude.{slice_get, encode_utf8_all, if◌then◌else◌, option_and_then}
use Rattle.std.specs.Str.{chars, IsUtf8}
use Rattle.std.proofs.lemmas.Str.{encodes-chars}
use Rattle.yaml_definitions.specs.model.Tag.{is_full}
use Rattle.yaml_definitions.specs.model.Event.{WrittenTag, full}
use Rattle.yaml_definitions.specs.grammar.Rules.{◌∪◌}
use Rattle.yaml_definitions.specs.grammar.Separation.{Ctx, s-separate as separate}
use Rattle.yaml_definitions.specs.grammar.Tags as tags
use Rattle.yaml_text.specs.Calls as calls
use Rattle.yaml_definitions.specs.grammar.Tags.{Handles, c-ns-tag-property as tag, c-ns-anchor-property as anchor, c-ns-properties as properties, decoded, percent_decode, prefix_of}
use Rattle.yaml_definitions.specs.grammar.Events.{Props, no_props}
use Rattle.yaml_text.proofs.Runs.{same_char}
use Rattle.yaml_sink.specs.PropertyRules.{HasTag, HasAnchor, SomeProperties, tag_alone, anchor_alone, both, Own}

-- ---- tags

decoded_tag : (text : List ℕ) (t : WrittenTag) → decoded text ≡ Some t → HasTag t
unfolding decoded
decoded_tag text t e = pick (is_full (percent_decode text)) e
  where
    pick : (b : Bool) → (if b then Some (full (percent_decode text)) else None) ≡ Some t → HasTag t
    pick true e = subst HasTag (some_is e) tt
      where
        some_is : {a b : WrittenTag} → Some a ≡ Some b → a ≡ b
        some_is h = cc
    pick false e = cc

module _ (cs : List ℕ) (handles : Handles) where
  pub tag_is : (i j : ℕ) (t : WrittenTag) → tag cs handles i j t → HasTag t
  unfolding tag tags.c-verbatim-tag tags.c-ns-shorthand-tag tags.c-non-specific-tag tags.joined
  tag_is i j t (k, inl (m, w, (l, (x, r, e), h)), n) = decoded_tag x t e
  tag_is i j t (k, inr (inl (m, a, r, (x, s, e))), n) = pick (prefix_of handles a) e
    where
      pick : (o : Option (List ℕ)) → option_and_then (λ prefix. decoded (prefix ++ x)) o ≡ Some t → HasTag t
      pick (Some prefix) e = decoded_tag (prefix ++ x) t e
      pick None e = cc
  tag_is i j t (k, inr (inr (m, c, (l, e))), n) = subst HasTag (sym e) tt

  module _ (n : ℕ) (c : Ctx) where
    pub marks_props : (i j : ℕ) (p : Props) → SomeProperties cs handles n c i j p → properties cs handles n c i j p
    unfolding properties
    marks_props i j p (tag_alone t r s e) = inl (j, t, r, inl (refl, e))
    marks_props i j p (anchor_alone a r e) = inr (j, a, r, inl (refl, e))
    marks_props i j p (both r s t) = r

    pub marks_some : (i j : ℕ) (p : Props) → SomeProperties cs handles n c i j p → p ≡ no_props → {A : Type 0} → A
    marks_some i j p (tag_alone t r s e) h = absurd (subst HasTag (ap Props.tag (sym e ∙ h)) s)
    marks_some i j p (anchor_alone a r e) h = absurd (subst HasAnchor (ap Props.anchor (sym e ∙ h)) tt)
    marks_some i j p (both r s t) h = absurd (subst HasTag (ap Props.tag h) s)

    pub own_marks : (i j : ℕ) (p : Props) → Own cs handles n c i j p → (p ≡ no_props → ⊥) → SomeProperties cs handles n c i j p
    own_marks i j p (inl (e, h)) f = absurd (f h)
    own_marks i j p (inr m) f = m

    -- a tag and then an anchor, and the other way round
    pub tag_then : (i e k j : ℕ) (t : WrittenTag) (a : List ℕ) → tag cs handles i e t → separate cs n c e k → anchor cs k j a → SomeProperties cs handles n c i j (record { anchor = Some (encode_utf8_all a); tag = t })
    unfolding properties
    tag_then i e k j t a r s q = both (inl (e, t, r, inr (k, s, (a, q, refl)))) (tag_is i e t r) tt

    pub anchor_then : (i e k j : ℕ) (t : WrittenTag) (a : List ℕ) → anchor cs i e a → separate cs n c e k → tag cs handles k j t → SomeProperties cs handles n c i j (record { anchor = Some (encode_utf8_all a); tag = t })
    unfolding properties
    anchor_then i e k j t a r s q = both (inr (e, a, r, inr (k, s, (t, q, refl)))) (tag_is k j t q) tt

-- ---- names

module _ (cs : List ℕ) where
  pub name_anchor : (i j : ℕ) (v : List ℕ) → slice_get cs i ≡ Some 38 → (anchor cs ∪ tags.c-ns-alias-node cs) i j v → anchor cs i j v
  unfolding anchor tags.c-ns-alias-node
  name_anchor i j v h (inl r) = r
  name_anchor i j v h (inr (k, (e, f), r)) = let x : 38 ≡ 42 = same_char cs i 38 42 h e in absurd (omega (arith, x))

  pub name_alias : (i j : ℕ) (v : List ℕ) → slice_get cs i ≡ Some 42 → (anchor cs ∪ tags.c-ns-alias-node cs) i j v → tags.c-ns-alias-node cs i j v
  unfolding anchor tags.c-ns-alias-node
  name_alias i j v h (inr r) = r
  name_alias i j v h (inl (k, (e, f), r)) = let x : 42 ≡ 38 = same_char cs i 42 38 h e in absurd (omega (arith, x))

-- ---- what the calls say

module _ (cs : List ℕ) (handles : Handles) where
  pub tag_read : (i j : ℕ) (t : WrittenTag) → calls.read_tag cs handles i j t → tag cs handles i j t
  unfolding calls.read_tag
  tag_read i j t r = r

  pub anchor_read : (i j : ℕ) (v : List ℕ) → slice_get cs i ≡ Some 38 → calls.read_name cs i j v → anchor cs i j v
  unfolding calls.read_name
  anchor_read i j v h r = name_anchor cs i j v h r

  pub alias_read : (i j : ℕ) (v : List ℕ) → slice_get cs i ≡ Some 42 → calls.read_name cs i j v → tags.c-ns-alias-node cs i j v
  unfolding calls.read_name
  alias_read i j v h r = name_alias cs i j v h r

  -- the bytes of a name are those of its characters
  pub named : (n : ℕ) (c : Ctx) (i j : ℕ) (name : List ℕ) (t : WrittenTag) → IsUtf8 name → SomeProperties cs handles n c i j (record { anchor = Some (encode_utf8_all (chars name)); tag = t }) →
      SomeProperties cs handles n c i j (record { anchor = Some name; tag = t })
  named n c i j name t u m = subst (λ x. SomeProperties cs handles n c i j (record { anchor = Some x; tag = t })) (encodes-chars name u) m
