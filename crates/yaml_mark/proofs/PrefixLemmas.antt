-- A prefix is decoded alone: each of its escapes ends in it.
use Rattle.std.proofs.Common.{◌≡◌, ◌≢◌, ℕ, ◌+◌, ◌≤◌, inl, inr, List, [], ◌∷◌, ◌++◌, Bool, true, false, Some, refl, sym, ◌∙◌, ap, subst, arith, append_assoc}
use Rattle.std.specs.Prelude.{slice_get, slice_range}
use Rattle.std.specs.Char.{is_ascii_hexdigit}
use Rattle.yaml_text.specs.LeafAnswer.{Only}
use Rattle.yaml_definitions.specs.grammar.Rules.{Spans}
use Rattle.yaml_definitions.specs.grammar.Characters.{is_uri, is_tag}
use Rattle.yaml_definitions.specs.grammar.Tags.{percent_decode, ns-tag-prefix as tag_prefix}
use Rattle.yaml_definitions.specs.grammar.Directives.{Directive, version, reserved, binding, ns-yaml-directive as yaml_directive, ns-tag-directive as tag_directive, ns-reserved-directive as reserved_directive}
use Rattle.yaml_text.proofs.PlaceLemmas.{slice_none, slice_one, slice_join}
use Rattle.yaml_text.proofs.Classes.{uri_percent, tag_percent}
use Rattle.yaml_mark.specs.Prefixes.{IsWhole}
use Rattle.yaml_mark.specs.Parts.{percent_escape, char_or_escape}
use Rattle.yaml_mark.specs.DirectiveParts.{body, whole_directive}
use Rattle.yaml_mark.proofs.DecodeLemmas.{kept_first, escape_first}
use Rattle.yaml_mark.proofs.TagLemmas.{spans_map, is_uri_char, is_tag_char}
use Rattle.yaml_mark.proofs.BodyLemmas.{directive_parts}
use Rattle.yaml_mark.proofs.DirectivesLemmas.{whole_is}

whole_nil : IsWhole []
unfolding percent_decode
whole_nil = λ s. refl

whole_char : (c : ℕ) → c ≢ 37 → IsWhole (c ∷ [])
unfolding percent_decode
whole_char c n = λ s. kept_first c s n

whole_escape : (h l : ℕ) → is_ascii_hexdigit h ≡ true → is_ascii_hexdigit l ≡ true → IsWhole (37 ∷ h ∷ l ∷ [])
unfolding percent_decode
whole_escape h l a b = λ s. escape_first h l s a b ∙ sym (ap (λ z. z ++ percent_decode s) (escape_first h l [] a b))

whole_join : (p q : List ℕ) → IsWhole p → IsWhole q → IsWhole (p ++ q)
whole_join p q a b = λ s.
    ap percent_decode (append_assoc p q s) ∙ a (q ++ s) ∙ ap (λ z. percent_decode p ++ z) (b s) ∙ sym (append_assoc (percent_decode p) (percent_decode q) (percent_decode s))
    ∙ sym (ap (λ z. z ++ percent_decode s) (a q))

no_percent : (p : ℕ → Bool) (c : ℕ) → p 37 ≡ false → p c ≡ true → c ≢ 37
no_percent p c f h e = let z : false ≡ true = sym f ∙ ap p (sym e) ∙ h in cc

module _ (cs : List ℕ) where
  whole_letter : (i j c : ℕ) → slice_get cs i ≡ Some c → c ≢ 37 → j ≡ i + 1 → IsWhole (slice_range cs i j)
  whole_letter i j c h n e = subst IsWhole (sym (slice_one cs i j c h e)) (whole_char c n)

  whole_piece : (p : ℕ → Bool) → p 37 ≡ false → (i j : ℕ) → char_or_escape cs p i j → (i ≤ j) × IsWhole (slice_range cs i j)
  unfolding char_or_escape percent_escape
  whole_piece p f i j (inl ((c, h, t), e)) = (omega (arith, e), whole_letter i j c h (no_percent p c f t) e)
  whole_piece p f i j (inr (a, (h, e), (b, ((c, g, t), k), ((d, l, u), m)))) = (
    omega (arith, e, k, m),
    subst IsWhole
        (sym (slice_join cs i a j (omega (arith, e)) (omega (arith, k, m)) ∙ ap (λ v. v ++ slice_range cs a j) (slice_one cs i a 37 h e)
        ∙ ap (λ v. 37 ∷ v) (slice_join cs a b j (omega (arith, k)) (omega (arith, m)) ∙ ap (λ v. v ++ slice_range cs b j) (slice_one cs a b c g k) ∙ ap (λ v. c ∷ v) (slice_one cs b j d l m))))
        (whole_escape c d t u),
  )

  whole_both : (i k j : ℕ) → (i ≤ k) × IsWhole (slice_range cs i k) → (k ≤ j) × IsWhole (slice_range cs k j) → (i ≤ j) × IsWhole (slice_range cs i j)
  whole_both i k j (l, a) (m, b) = (omega (arith, l, m), subst IsWhole (sym (slice_join cs i k j l m)) (whole_join (slice_range cs i k) (slice_range cs k j) a b))

  whole_spans : (p : ℕ → Bool) → p 37 ≡ false → {j i : ℕ} → Spans (char_or_escape cs p) j i → (i ≤ j) × IsWhole (slice_range cs i j)
  whole_spans p f {j} {i} (Spans.done e) = (omega (arith, e), subst IsWhole (sym (ap (slice_range cs i) e ∙ slice_none cs i)) whole_nil)
  whole_spans p f {j} {i} (Spans.then k r more) = whole_both i k j (whole_piece p f i k r) (whole_spans p f more)

  whole_prefix : (i j : ℕ) (xs : List ℕ) → tag_prefix cs i j xs → IsWhole xs
  unfolding tag_prefix
  whole_prefix i j xs ((k, inl (h, e), s), f) =
      subst IsWhole (sym f) (whole_both i k j (omega (arith, e), whole_letter i k 33 h (λ z. omega (arith, z)) e) (whole_spans is_uri uri_percent (spans_map (is_uri_char cs) s))).1
  whole_prefix i j xs ((k, inr r, s), f) =
      subst IsWhole (sym f) (whole_both i k j (whole_piece is_tag tag_percent i k (is_tag_char cs i k r)) (whole_spans is_uri uri_percent (spans_map (is_uri_char cs) s))).1

  whole_body : (i f : ℕ) (d : Directive) (h p : List ℕ) → d ≡ binding h p → body cs i f d → IsWhole p
  unfolding body yaml_directive tag_directive reserved_directive
  whole_body i f d h p w (inl (a, r, (e, v))) = let z : version ≡ binding h p = sym v ∙ w in cc
  whole_body i f d h p w (inr (inl (a, r, (k, g, t, (m, s, (x, q, v)))))) =
      let z : binding g x ≡ binding h p = sym v ∙ w in let y : x ≡ p = cc in subst IsWhole y (whole_prefix m f x q)
  whole_body i f d h p w (inr (inr (a, r, (k, (n, q, v), t)))) = let z : reserved ≡ binding h p = sym v ∙ w in cc

  -- a prefix that a directive binds
  pub bound_whole : (i j : ℕ) (h p : List ℕ) → Only (whole_directive cs) i j (binding h p ∷ []) → IsWhole p
  bound_whole i j h p o =
      let (f, d, b, e, c) = directive_parts cs i j _ (whole_is cs i j _ o.is) in
      let y : d ≡ binding h p = cc in whole_body i f d h p y b
