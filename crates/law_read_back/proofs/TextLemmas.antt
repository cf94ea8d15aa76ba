-- A node's text in flow style stands on one line, and tells how long it is.
use Rattle.std.proofs.Common.{◌≡◌, ℕ, ◌+◌, ◌/◌, ◌%◌, ◌≤◌, true, Some, None, List, [], ◌∷◌, ◌++◌, map, length, chars, refl, sym, ◌∙◌, ap, subst, arith, append_assoc, length-append}
use Rattle.std.proofs.lemmas.Bool.{cond_both}
use Rattle.std.proofs.lemmas.Bool.Decides.{nat_tests}
use Rattle.std.specs.Int.Digits.{digits_of}
use Rattle.std.specs.Prelude.{bytes_eq}
use Rattle.yaml_definitions.specs.model.Event.{Anchor, WrittenTag, untagged, non_specific, full}
use Rattle.yaml_definitions.specs.canonical.Serialize.{anchor_name}
use Rattle.yaml_definitions.specs.model.Serial.{SerialNode, SerialNodes, SerialPairs, alias_at, scalar_at, sequence_at, mapping_at, end_serial, item_serial, done_serial, entry_serial}
use Rattle.yaml_definitions.specs.model.Tag.{null_tag, bool_tag, int_tag, float_tag}
use Rattle.yaml_definitions.specs.canonical.TagText.{spell_byte, encoded, full_text, tag_text}
use Rattle.yaml_definitions.specs.canonical.NodeText.{anchor_text, quoted, node_text, items_text, pairs_text}
use Rattle.yaml_definitions.specs.grammar.Rules.{run}
use Rattle.yaml_definitions.specs.grammar.Characters.{is_nb, is_break, is_uri, is_word}
use Rattle.yaml_definitions.proofs.TextLaws.{IsName, IsAnchor, name_chars}
use Rattle.law_read_back.proofs.PlaceLemmas.{At, at_same, run_over}
use Rattle.law_read_back.proofs.LineLemmas.{Solid, join, a_nb}
use Rattle.law_read_back.proofs.QuotedReadings.{hex_nb, quoted_nb, quoted_more}
use Rattle.law_read_back.proofs.FlowReadings.{IsTagged, Spells, AllSpell, PairsSpell}

-- ---- no break stands inside

uri_ascii : (c : ℕ) → is_uri c ≡ true → 32 ≤ c
unfolding is_uri is_word
uri_ascii c h = grind (arith, nat_tests)

byte_nb : (b : ℕ) → Solid (spell_byte b)
unfolding spell_byte
byte_nb b = cond_both (is_uri b) _ _ Solid (λ e. (a_nb b (uri_ascii b e), tt)) (λ e. (a_nb 37 (omega arith), (hex_nb (b / 16), (hex_nb (b % 16), tt))))

encoded_nb : (g r : List ℕ) → Solid r → Solid (encoded g r)
encoded_nb [] r h = h
encoded_nb (b ∷ g) r h = join (spell_byte b) (encoded g r) (byte_nb b) (encoded_nb g r h)

full_nb : (g : List ℕ) → Solid (full_text g)
unfolding full_text is_nb is_break
full_nb g =
    cond_both (bytes_eq g null_tag) _ _ Solid (λ e. (refl, (refl, (refl, (refl, (refl, (refl, (refl, tt)))))))) (λ n0.
    cond_both (bytes_eq g bool_tag) _ _ Solid (λ e. (refl, (refl, (refl, (refl, (refl, (refl, (refl, tt)))))))) (λ n1.
    cond_both (bytes_eq g int_tag) _ _ Solid (λ e. (refl, (refl, (refl, (refl, (refl, (refl, tt))))))) (λ n2.
    cond_both (bytes_eq g float_tag) _ _ Solid (λ e. (refl, (refl, (refl, (refl, (refl, (refl, (refl, (refl, tt))))))))) (λ n3.
    (refl, (refl, encoded_nb g (62 ∷ 32 ∷ []) (refl, (refl, tt))))))))

pub tag_nb : (g : WrittenTag) → IsTagged g → Solid (tag_text g)
tag_nb untagged m = tt
tag_nb (full g) m = full_nb g
tag_nb non_specific m = absurd m

digits_nb : (xs : List ℕ) → Solid (map (λ d. 48 + d) xs)
digits_nb [] = tt
digits_nb (x ∷ xs) = (a_nb (48 + x) (omega arith), digits_nb xs)

name_nb : (name r : List ℕ) → IsName name → Solid r → Solid (chars name ++ r)
unfolding anchor_name
name_nb name r p g =
    let n : Solid (anchor_name p.0) = (a_nb 97 (omega arith), digits_nb (digits_of 10 p.0)) in
    subst (λ z. Solid (z ++ r)) (sym (ap chars p.1 ∙ name_chars p.0)) (join (anchor_name p.0) r n g)

pub anchor_nb : (a : Anchor) (r : List ℕ) → IsAnchor a → Solid r → Solid (anchor_text a r)
anchor_nb None r p g = g
anchor_nb (Some name) r p g = (a_nb 38 (omega arith), name_nb name (32 ∷ r) p (a_nb 32 (omega arith), g))

node_nb : (a : Anchor) (g : WrittenTag) (c : ℕ) (r : List ℕ) → IsAnchor a → IsTagged g → 32 ≤ c → Solid r → Solid (anchor_text a (tag_text g ++ (c ∷ r)))
node_nb a g c r p m h n = anchor_nb a (tag_text g ++ (c ∷ r)) p (join (tag_text g) (c ∷ r) (tag_nb g m) (a_nb c h, n))

mutual
  unfolding node_text

  pub text_nb : (m : SerialNode) (r : List ℕ) → Spells m → Solid r → Solid (node_text m r)
  text_nb (alias_at name) r f h = (a_nb 42 (omega arith), name_nb name r f h)
  text_nb (scalar_at a g y x) r f h = node_nb a g 34 (quoted (chars x) r) f.0 f.1 (omega arith) (quoted_nb (chars x) r h)
  text_nb (sequence_at a g b ts) r f h = node_nb a g 91 (items_text [] ts r) f.0 f.1 (omega arith) (items_nb [] tt ts r f.3 h)
  text_nb (mapping_at a g b ps) r f h = node_nb a g 123 (pairs_text [] ps r) f.0 f.1 (omega arith) (pairs_nb [] tt ps r f.3 h)

  items_nb : (s : List ℕ) → Solid s → (ts : SerialNodes) (r : List ℕ) → AllSpell ts → Solid r → Solid (items_text s ts r)
  items_nb s k end_serial r f h = (a_nb 93 (omega arith), h)
  items_nb s k (item_serial t ts) r f h =
      let c : Solid (44 ∷ 32 ∷ []) = (a_nb 44 (omega arith), (a_nb 32 (omega arith), tt)) in
      join s (node_text t (items_text (44 ∷ 32 ∷ []) ts r)) k (text_nb t (items_text (44 ∷ 32 ∷ []) ts r) f.0 (items_nb (44 ∷ 32 ∷ []) c ts r f.1 h))

  pairs_nb : (s : List ℕ) → Solid s → (ps : SerialPairs) (r : List ℕ) → PairsSpell ps → Solid r → Solid (pairs_text s ps r)
  pairs_nb s k done_serial r f h = (a_nb 125 (omega arith), h)
  pairs_nb s k (entry_serial x v ps) r f h =
      let c : Solid (44 ∷ 32 ∷ []) = (a_nb 44 (omega arith), (a_nb 32 (omega arith), tt)) in
      let b : is_nb 32 ≡ true = a_nb 32 (omega arith) in
      let e : List ℕ = pairs_text (44 ∷ 32 ∷ []) ps r in
      join s (node_text x (32 ∷ 58 ∷ 32 ∷ node_text v e)) k
      (text_nb x (32 ∷ 58 ∷ 32 ∷ node_text v e) f.0 (b, (a_nb 58 (omega arith), (b, text_nb v e f.1 (pairs_nb (44 ∷ 32 ∷ []) c ps r f.2 h)))))

-- ---- what follows a text stays

pub anchor_more : (a : Anchor) (r s : List ℕ) → anchor_text a (r ++ s) ≡ anchor_text a r ++ s
anchor_more None r s = refl
anchor_more (Some name) r s = ap (λ z. 38 ∷ z) (sym (append_assoc (chars name) (32 ∷ r) s))

node_more : (a : Anchor) (g : WrittenTag) (x y s : List ℕ) → x ≡ y ++ s → anchor_text a (tag_text g ++ x) ≡ anchor_text a (tag_text g ++ y) ++ s
node_more a g x y s e = ap (anchor_text a) (ap (λ z. tag_text g ++ z) e ∙ sym (append_assoc (tag_text g) y s)) ∙ anchor_more a (tag_text g ++ y) s

mutual
  unfolding node_text

  pub text_more : (m : SerialNode) (r s : List ℕ) → node_text m (r ++ s) ≡ node_text m r ++ s
  text_more (alias_at name) r s = ap (λ z. 42 ∷ z) (sym (append_assoc (chars name) r s))
  text_more (scalar_at a g y x) r s = node_more a g _ _ s (ap (λ z. 34 ∷ z) (quoted_more (chars x) r s))
  text_more (sequence_at a g b ts) r s = node_more a g _ _ s (ap (λ z. 91 ∷ z) (items_more [] ts r s))
  text_more (mapping_at a g b ps) r s = node_more a g _ _ s (ap (λ z. 123 ∷ z) (pairs_more [] ps r s))

  items_more : (b : List ℕ) (ts : SerialNodes) (r s : List ℕ) → items_text b ts (r ++ s) ≡ items_text b ts r ++ s
  items_more b end_serial r s = refl
  items_more b (item_serial t ts) r s =
      ap (λ z. b ++ z) (ap (node_text t) (items_more (44 ∷ 32 ∷ []) ts r s) ∙ text_more t (items_text (44 ∷ 32 ∷ []) ts r) s) ∙ sym (append_assoc b (node_text t (items_text (44 ∷ 32 ∷ []) ts r)) s)

  pairs_more : (b : List ℕ) (ps : SerialPairs) (r s : List ℕ) → pairs_text b ps (r ++ s) ≡ pairs_text b ps r ++ s
  pairs_more b done_serial r s = refl
  pairs_more b (entry_serial k v ps) r s =
      let e : List ℕ = pairs_text (44 ∷ 32 ∷ []) ps r in
      ap (λ z. b ++ z) (ap (λ z. node_text k (32 ∷ 58 ∷ 32 ∷ z)) (ap (node_text v) (pairs_more (44 ∷ 32 ∷ []) ps r s) ∙ text_more v e s) ∙ text_more k (32 ∷ 58 ∷ 32 ∷ node_text v e) s)
      ∙ sym (append_assoc b (node_text k (32 ∷ 58 ∷ 32 ∷ node_text v e)) s)

module _ (cs : List ℕ) where
  -- a node's text is so long, and no break stands in it
  pub text_over : (m : SerialNode) (i j : ℕ) (r : List ℕ) → Spells m → At cs i (node_text m r) → At cs j r → (j ≡ i + length (node_text m [])) × run cs is_nb i j
  text_over m i j r p a b =
      let e : node_text m r ≡ node_text m [] ++ r = text_more m [] r in
      let f : length (node_text m r) ≡ length (node_text m []) + length r = ap length e ∙ length-append (node_text m []) r in
      let n : j ≡ i + length (node_text m []) = omega (arith, f, a.1, b.1) in
      (n, (run_over cs is_nb (node_text m []) i j r (text_nb m [] p tt) (at_same cs i (node_text m r) (node_text m [] ++ r) e a) n).0)
