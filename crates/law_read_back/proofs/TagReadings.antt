-- A tag's spelling is read as that tag.
use Rattle.std.proofs.Common.{◌≡◌, ℕ, ◌+◌, ◌*◌, ◌/◌, ◌%◌, ◌<◌, ◌==◌, true, false, inl, inr, Some, List, [], ◌∷◌, ◌++◌, length, refl, sym, ◌∙◌, ap, subst, arith}
use Rattle.std.proofs.lemmas.Bool.{cond_both, ne_eqb}
use Rattle.std.proofs.lemmas.Bool.Decides.{nat_tests}
use Rattle.std.specs.Prelude.{codes, bytes_eq}
use Rattle.std.specs.Char.{is_digit, digit_value, is_ascii_hexdigit}
use Rattle.yaml_definitions.specs.canonical.CharText.{hex_digit}
use Rattle.yaml_definitions.specs.model.Event.{full}
use lib.Pointwise.{bytes_decides}
use Rattle.std.proofs.Common.{length-append}
use Rattle.yaml_definitions.specs.model.Tag.{is_full, IsTag, core_tag, null_tag, bool_tag, int_tag, float_tag}
use Rattle.yaml_definitions.specs.canonical.TagText.{spell_byte, encoded, full_text}
use Rattle.yaml_definitions.specs.grammar.Rules.{Spans, Stands, any_one_span}
use Rattle.yaml_definitions.specs.grammar.Characters.{is_uri, is_word, is_tag, is_flow_indicator, is_ns, is_nb, is_break, is_white}
use Rattle.yaml_definitions.specs.grammar.Tags.{percent_decode, decoded, uri_char, tag_char, c-tag-handle as tag_handle, is_name, default_handles, prefix_of, joined, c-verbatim-tag as verbatim_tag, c-ns-shorthand-tag as shorthand_tag, c-ns-tag-property as tag}
use Rattle.yaml_definitions.proofs.TagLaws.{AreBytes, encoded_more}
use Rattle.yaml_definitions.proofs.ProperLaws.{utf8_bytes}
use Rattle.yaml_definitions.proofs.Members.{and_both}
use Rattle.law_read_back.proofs.PlaceLemmas.{false_true, At, at_get, at_next, at_same, at_slice, Pass, same_at}

-- ---- decoding

hex_is : (d : ℕ) → d < 16 → is_digit (hex_digit d) 16 ≡ true
hex_is d h = grind (arith, nat_tests)

hex_ascii : (d : ℕ) → d < 16 → is_ascii_hexdigit (hex_digit d) ≡ true
hex_ascii d h = grind (arith, nat_tests)

hex_worth : (d : ℕ) → d < 16 → digit_value (hex_digit d) ≡ d
hex_worth d h = grind (arith, nat_tests)

no_percent : (b : ℕ) → is_uri b ≡ true → (b == 37) ≡ false
unfolding is_uri is_word
no_percent b e = ne_eqb b 37 (λ q. let f : is_uri 37 ≡ true = subst (λ z. is_uri z ≡ true) q e in absurd (cc))

-- a character that is no percent sign stands for itself
decode_itself : (b : ℕ) (r : List ℕ) → (b == 37) ≡ false → percent_decode (b ∷ r) ≡ b ∷ percent_decode r
unfolding percent_decode
decode_itself b [] n = refl
decode_itself b (c ∷ []) n = refl
decode_itself b (c ∷ d ∷ r) n = rw n refl

decode_escape : (b : ℕ) (r : List ℕ) → b < 256 → percent_decode (37 ∷ hex_digit (b / 16) ∷ hex_digit (b % 16) ∷ r) ≡ b ∷ percent_decode r
unfolding percent_decode
decode_escape b r l =
    let h : is_digit (hex_digit (b / 16)) 16 ≡ true = hex_is (b / 16) (omega arith) in
    let k : is_digit (hex_digit (b % 16)) 16 ≡ true = hex_is (b % 16) (omega arith) in
    let v : digit_value (hex_digit (b / 16)) ≡ b / 16 = hex_worth (b / 16) (omega arith) in
    let w : digit_value (hex_digit (b % 16)) ≡ b % 16 = hex_worth (b % 16) (omega arith) in
    let s : 16 * (b / 16) + b % 16 ≡ b = omega arith in
    rw (h, k, v, w, s) refl

abbrev Decodes : ℕ → List ℕ → List ℕ → Type 0
Decodes b r z = percent_decode (z ++ r) ≡ b ∷ percent_decode r

decode_byte : (b : ℕ) (r : List ℕ) → b < 256 → percent_decode (spell_byte b ++ r) ≡ b ∷ percent_decode r
unfolding spell_byte
decode_byte b r l = cond_both (is_uri b) _ _ (Decodes b r) (λ e. decode_itself b r (no_percent b e)) (λ e. decode_escape b r l)

-- decoding gives back what was encoded
pub decode_encoded : (g : List ℕ) → AreBytes g → percent_decode (encoded g []) ≡ g
unfolding percent_decode
decode_encoded [] m = refl
decode_encoded (b ∷ g) m = decode_byte b (encoded g []) m.0 ∙ ap (λ z. b ∷ z) (decode_encoded g m.1)

-- ---- a tag's text

pub space_ends : is_name 32 ≡ false
unfolding is_name is_flow_indicator is_ns is_nb is_break is_white
space_ends = refl

pub tag_bytes : (g : List ℕ) → IsTag g → AreBytes g
unfolding is_full
tag_bytes g h = utf8_bytes g (and_both _ _ h).0

tag_some : (g : List ℕ) → IsTag g → 0 < length g
unfolding is_full
tag_some g h = grind (arith, nat_tests, h)

-- a tag's bytes, percent-encoded, are decoded to that tag
pub encoded_decoded : (g : List ℕ) → IsTag g → decoded (encoded g []) ≡ Some (full g)
unfolding decoded
encoded_decoded g h = let d = decode_encoded g (tag_bytes g h) in rw (d, h) refl

module _ (cs : List ℕ) where
  -- no name goes on where such a character stands
  pub name_ends : (i c : ℕ) (r : List ℕ) → is_name c ≡ false → At cs i (c ∷ r) → Stands cs is_name i → ⊥
  name_ends i c r n a (d, e, f) = false_true (is_name c) n (subst (λ z. is_name z ≡ true) (same_at cs i d c e (at_get cs i c r a)) f)

  abbrev ReadsByte : ℕ → List ℕ → List ℕ → Type 0
  ReadsByte i r z = At cs i (z ++ r) → (j : ℕ) × uri_char cs i j × At cs j r

  byte_read : (b i : ℕ) (r : List ℕ) → b < 256 → At cs i (spell_byte b ++ r) → (j : ℕ) × uri_char cs i j × At cs j r
  unfolding spell_byte uri_char
  byte_read b i r l =
      cond_both (is_uri b) _ _ (ReadsByte i r) (λ e a. (i + 1, inl ((b, at_get cs i b r a, e), refl), at_next cs i b r a)) (λ e a.
      let x : ℕ = hex_digit (b / 16) in
      let y : ℕ = hex_digit (b % 16) in
      let a1 = at_next cs i 37 (x ∷ y ∷ r) a in
      let a2 = at_next cs (i + 1) x (y ∷ r) a1 in (
        i + 1 + 1 + 1,
        inr (i + 1, (at_get cs i 37 (x ∷ y ∷ r) a, refl), (i + 1 + 1, ((x, at_get cs (i + 1) x (y ∷ r) a1, hex_ascii (b / 16) (omega arith)), refl), ((y, at_get cs (i + 1 + 1) y r a2, hex_ascii (b % 16) (omega arith)), refl))),
        at_next cs (i + 1 + 1) y r a2,
      ))

  bytes_read : (g : List ℕ) (i : ℕ) (r : List ℕ) → AreBytes g → At cs i (encoded g r) → (j : ℕ) × Spans (uri_char cs) j i × At cs j r
  bytes_read [] i r m a = (i, Spans.done refl, a)
  bytes_read (b ∷ g) i r m a =
      let p = byte_read b i (encoded g r) m.0 a in
      let q = bytes_read g p.0 r m.1 p.2 in
      (q.0, Spans.then p.0 p.1 q.1, q.2)

  some_bytes : (g : List ℕ) (i : ℕ) (r : List ℕ) → 0 < length g → AreBytes g → At cs i (encoded g r) → (j : ℕ) × any_one_span (uri_char cs) i j × At cs j r
  some_bytes [] i r n m a = absurd (omega (arith, n))
  some_bytes (b ∷ g) i r n m a =
      let p = byte_read b i (encoded g r) m.0 a in
      let q = bytes_read g p.0 r m.1 p.2 in
      (q.0, (p.0, p.1, q.1), q.2)

  verbatim_read : (g : List ℕ) (i : ℕ) (r : List ℕ) → IsTag g → At cs i (33 ∷ 60 ∷ encoded g (62 ∷ 32 ∷ r)) → (j : ℕ) × tag cs [] i j (full g) × At cs j (32 ∷ r)
  unfolding tag verbatim_tag
  verbatim_read g i r h a =
      let xs : List ℕ = encoded g [] in
      let s : List ℕ = 62 ∷ 32 ∷ r in
      let a1 = at_next cs i 33 (60 ∷ encoded g s) a in
      let a2 = at_next cs (i + 1) 60 (encoded g s) a1 in
      let k : ℕ = i + 1 + 1 in
      let d = some_bytes g k s (tag_some g h) (tag_bytes g h) a2 in
      let e : xs ++ s ≡ encoded g s = encoded_more g [] s in
      let a3 : At cs k (xs ++ s) = at_same cs k (encoded g s) (xs ++ s) (sym e) a2 in
      let m : length (xs ++ s) ≡ length xs + length s = length-append xs s in
      let w : d.0 ≡ k + length xs = omega (arith, m, a3.1, d.2.1) in
      let a4 = at_next cs d.0 62 (32 ∷ r) d.2 in (
        d.0 + 1,
        (
          d.0 + 1,
          inl (k, (i + 1, (at_get cs i 33 _ a, refl), (k, (at_get cs (i + 1) 60 _ a1, refl), refl)), (d.0, (xs, (d.1, sym (at_slice cs k d.0 xs s a3 w)), encoded_decoded g h), (at_get cs d.0 62 (32 ∷ r) d.2, refl))),
          (refl, name_ends (d.0 + 1) 32 r space_ends a4),
        ),
        a4,
      )

  -- ---- a short form

  tag_chars : (xs : List ℕ) (i : ℕ) (r : List ℕ) → Pass is_tag xs → At cs i (xs ++ r) → Spans (tag_char cs) (i + length xs) i × At cs (i + length xs) r
  unfolding tag_char
  tag_chars [] i r p a = let e : i + 0 ≡ i = omega arith in (Spans.done e, subst (λ z. At cs z r) (sym e) a)
  tag_chars (c ∷ xs) i r p a =
      let q = tag_chars xs (i + 1) r p.1 (at_next cs i c (xs ++ r) a) in
      let e : i + 1 + length xs ≡ i + length (c ∷ xs) = omega arith in
      let f = subst (λ z. Spans (tag_char cs) z (i + 1)) e q.0 in
      (Spans.then (i + 1) (inl ((c, at_get cs i c (xs ++ r) a, p.0), refl)) f, subst (λ z. At cs z r) e q.1)

  short_read : (c : ℕ) (xs g : List ℕ) (i : ℕ) (r : List ℕ) → Pass is_tag (c ∷ xs) → joined [] (33 ∷ 33 ∷ []) (c ∷ xs) ≡ Some (full g) → At cs i (33 ∷ 33 ∷ c ∷ (xs ++ (32 ∷ r)))
      → (j : ℕ) × tag cs [] i j (full g) × At cs j (32 ∷ r)
  unfolding tag shorthand_tag tag_handle tag_char
  short_read c xs g i r p e a =
      let s : List ℕ = 32 ∷ r in
      let a1 = at_next cs i 33 (33 ∷ c ∷ (xs ++ s)) a in
      let k : ℕ = i + 1 + 1 in
      let a2 : At cs k (c ∷ (xs ++ s)) = at_next cs (i + 1) 33 (c ∷ (xs ++ s)) a1 in
      let a3 = at_next cs k c (xs ++ s) a2 in
      let q = tag_chars xs (k + 1) s p.1 a3 in
      let j : ℕ = k + 1 + length xs in
      let w : j ≡ k + length (c ∷ xs) = omega arith in
      let hs = at_slice cs i k (33 ∷ 33 ∷ []) (c ∷ (xs ++ s)) a (omega arith) in
      let ss = at_slice cs k j (c ∷ xs) s a2 w in (
        j,
        (
          j,
          inr (inl (k, 33 ∷ 33 ∷ [], (inr (inl (i + 1, (at_get cs i 33 _ a, refl), (at_get cs (i + 1) 33 _ a1, refl))), sym hs), (c ∷ xs, ((k + 1, inl ((c, at_get cs k c _ a2, p.0), refl), q.0), sym ss), e))),
          (refl, name_ends j 32 r space_ends q.1),
        ),
        q.1,
      )

-- ---- the four tags with a short form

abbrev Joins : List ℕ → List ℕ → Type 0
Joins name g = joined [] (33 ∷ 33 ∷ []) name ≡ Some (full g)

decoded_itself : (g : List ℕ) → percent_decode g ≡ g → IsTag g → decoded g ≡ Some (full g)
unfolding decoded
decoded_itself g e h = rw (e, h) refl

null_joined : IsTag null_tag → Joins (codes "null") null_tag
unfolding joined prefix_of default_handles percent_decode core_tag
null_joined h = decoded_itself null_tag refl h

bool_joined : IsTag bool_tag → Joins (codes "bool") bool_tag
unfolding joined prefix_of default_handles percent_decode core_tag
bool_joined h = decoded_itself bool_tag refl h

int_joined : IsTag int_tag → Joins (codes "int") int_tag
unfolding joined prefix_of default_handles percent_decode core_tag
int_joined h = decoded_itself int_tag refl h

float_joined : IsTag float_tag → Joins (codes "float") float_tag
unfolding joined prefix_of default_handles percent_decode core_tag
float_joined h = decoded_itself float_tag refl h

null_tags : Pass is_tag (codes "null")
unfolding is_tag is_uri is_word is_flow_indicator
null_tags = (refl, (refl, (refl, (refl, tt))))

bool_tags : Pass is_tag (codes "bool")
unfolding is_tag is_uri is_word is_flow_indicator
bool_tags = (refl, (refl, (refl, (refl, tt))))

int_tags : Pass is_tag (codes "int")
unfolding is_tag is_uri is_word is_flow_indicator
int_tags = (refl, (refl, (refl, tt)))

float_tags : Pass is_tag (codes "float")
unfolding is_tag is_uri is_word is_flow_indicator
float_tags = (refl, (refl, (refl, (refl, (refl, tt)))))

module _ (cs : List ℕ) where
  abbrev ReadsTag : List ℕ → ℕ → List ℕ → List ℕ → Type 0
  ReadsTag g i r z = At cs i (z ++ r) → (j : ℕ) × tag cs [] i j (full g) × At cs j (32 ∷ r)

  of_tag : (g h : List ℕ) → bytes_eq g h ≡ true → g ≡ h
  of_tag g h e = (bytes_decides g h).0 e

  -- a tag's text but for the space at its end is read as that tag
  pub tag_read : (g : List ℕ) (i : ℕ) (r : List ℕ) → IsTag g → At cs i (full_text g ++ r) → (j : ℕ) × tag cs [] i j (full g) × At cs j (32 ∷ r)
  unfolding full_text
  tag_read g i r h =
      cond_both (bytes_eq g null_tag) _ _ (ReadsTag g i r) (λ e a. let q = of_tag g null_tag e in
      short_read cs 110 (117 ∷ 108 ∷ 108 ∷ []) g i r null_tags (subst (Joins (codes "null")) (sym q) (null_joined (subst IsTag q h))) a) (λ n0.
      cond_both (bytes_eq g bool_tag) _ _ (ReadsTag g i r) (λ e a. let q = of_tag g bool_tag e in
      short_read cs 98 (111 ∷ 111 ∷ 108 ∷ []) g i r bool_tags (subst (Joins (codes "bool")) (sym q) (bool_joined (subst IsTag q h))) a) (λ n1.
      cond_both (bytes_eq g int_tag) _ _ (ReadsTag g i r) (λ e a. let q = of_tag g int_tag e in
      short_read cs 105 (110 ∷ 116 ∷ []) g i r int_tags (subst (Joins (codes "int")) (sym q) (int_joined (subst IsTag q h))) a) (λ n2.
      cond_both (bytes_eq g float_tag) _ _ (ReadsTag g i r) (λ e a. let q = of_tag g float_tag e in
      short_read cs 102 (108 ∷ 111 ∷ 97 ∷ 116 ∷ []) g i r float_tags (subst (Joins (codes "float")) (sym q) (float_joined (subst IsTag q h))) a) (λ n3 a.
      verbatim_read cs g i r h (at_same cs i _ _ (ap (λ z. 33 ∷ 60 ∷ z) (encoded_more g (62 ∷ 32 ∷ []) r)) a)))))
