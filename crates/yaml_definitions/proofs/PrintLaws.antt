-- The text of an admitted forest is one that is read: UTF-8 of printable characters, without a byte order mark.
use Rattle.std.proofs.Common.{◌≡◌, ◌≤◌, ◌<◌, ℕ, ◌+◌, ◌/◌, ◌%◌, ◌==◌, Bool, true, not, ◌&&◌, nat_lt, Some, None, List, [], ◌∷◌, ◌++◌, map, chars, drop, refl, sym, ◌∙◌, ap, subst, arith, rules}
use Rattle.std.proofs.lemmas.Bool.{cond_both, ltb-true}
use Rattle.std.proofs.lemmas.Bool.Decides.{nat_tests}
use Rattle.std.proofs.lemmas.Str.{scalars-chars, IsUtf8-from_is_utf8}
use Rattle.std.specs.List.{All}
use Rattle.std.specs.Char.{encode_utf8}
use Rattle.std.proofs.lemmas.List.Elements.{All-cons}
use Rattle.std.specs.Int.Digits.{digits_of, AllBelowBase}
use Rattle.std.proofs.lemmas.Int.Digits.{all_below_base_digits_of}
use lib.Utf8.{scalar, scalars}
use Rattle.std.specs.Prelude.{bytes_eq}
use Rattle.yaml_definitions.specs.model.Tree.{Tree}
use Rattle.yaml_definitions.specs.model.Order.{arranged}
use Rattle.yaml_definitions.specs.canonical.Walk.{walk, agains}
use Rattle.yaml_definitions.specs.model.Event.{Anchor, WrittenTag, untagged, full}
use Rattle.yaml_definitions.specs.model.Serial.{SerialNode, SerialNodes, SerialPairs, alias_at, scalar_at, sequence_at, mapping_at, end_serial, item_serial, done_serial, entry_serial}
use Rattle.yaml_definitions.specs.canonical.Serialize.{anchor_name}
use Rattle.yaml_definitions.specs.canonical.CharText.{is_plain, hex_digit, spell_char}
use Rattle.yaml_definitions.specs.model.Tag.{null_tag, bool_tag, int_tag, float_tag}
use Rattle.yaml_definitions.specs.grammar.Characters.{is_printable, is_uri, is_word}
use Rattle.yaml_definitions.specs.canonical.TagText.{spell_byte, encoded, full_text, tag_text}
use Rattle.yaml_definitions.specs.canonical.NodeText.{anchor_text, quoted, node_text, items_text, pairs_text}
use Rattle.yaml_definitions.specs.canonical.Spell.{short, serial_of, spell, spell_bytes}
use Rattle.yaml_definitions.specs.model.Text.{mark_len, Text}
use Rattle.yaml_definitions.specs.model.Proper.{AreAdmitted, Admitted}
use Rattle.yaml_definitions.proofs.Members.{and_both, both_and}
use Rattle.yaml_definitions.proofs.CharLaws.{low}
use Rattle.yaml_definitions.proofs.TagLaws.{AreBytes, IsWritten}
use Rattle.yaml_definitions.proofs.TextLaws.{IsName, IsAnchor, IsFine, AreFine, ArePairsFine, name_chars}
use Rattle.yaml_definitions.proofs.ProperLaws.{proper_arranged, fine_mark}

unfoldable pub good : ℕ → Bool
good c = is_printable c && not (c == 0xfeff)

abbrev pub Good : List ℕ → Type 0
Good [] = Unit {0}
Good (c ∷ cs) = (good c ≡ true) × Good cs

pub join : (xs ys : List ℕ) → Good xs → Good ys → Good (xs ++ ys)
join [] ys g h = h
join (x ∷ xs) ys g h = (g.0, join xs ys g.1 h)

good_scalar : (c : ℕ) → good c ≡ true → scalar c ≡ true
unfolding good is_printable
good_scalar c h = grind (arith, nat_tests)

ascii_good : (c : ℕ) → 32 ≤ c → c < 127 → good c ≡ true
unfolding good is_printable
ascii_good c h l = grind (arith, nat_tests)

plain_good : (c : ℕ) → is_plain c ≡ true → good c ≡ true
unfolding good is_printable
plain_good c h = grind (arith, nat_tests)

uri_ascii : (c : ℕ) → is_uri c ≡ true → (32 ≤ c) × (c < 127)
unfolding is_uri is_word
uri_ascii c h = (grind (arith, nat_tests), grind (arith, nat_tests))

hex_range : (d : ℕ) → d < 16 → (32 ≤ hex_digit d) × (hex_digit d < 127)
hex_range d h = (grind (arith, nat_tests), grind (arith, nat_tests))

hex_good : (d : ℕ) → d < 16 → good (hex_digit d) ≡ true
hex_good d h = let p = hex_range d h in ascii_good (hex_digit d) p.0 p.1

pub a_good : (c : ℕ) → 32 ≤ c → c < 127 → good c ≡ true
a_good = ascii_good

char_good : (c : ℕ) → scalar c ≡ true → Good (spell_char c)
unfolding spell_char
char_good c s =
    let b : good 92 ≡ true = a_good 92 (omega arith) (omega arith) in
    cond_both (c == 34) _ _ Good (λ e. (b, (a_good 34 (omega arith) (omega arith), tt))) (λ n1.
    cond_both (c == 92) _ _ Good (λ e. (b, (b, tt))) (λ n2.
    cond_both (c == 10) _ _ Good (λ e. (b, (a_good 110 (omega arith) (omega arith), tt))) (λ n3.
    cond_both (c == 9) _ _ Good (λ e. (b, (a_good 116 (omega arith) (omega arith), tt))) (λ n4.
    cond_both (is_plain c) _ _ Good (λ e. (plain_good c e, tt)) (λ n5.
    cond_both (nat_lt c 256) _ _ Good (λ e. let l = ltb-true c 256 e in (b, (a_good 120 (omega arith) (omega arith), (hex_good (c / 16) (omega arith), (hex_good (c % 16) (omega arith), tt)))))
    (λ n6. let l = low c s n5 in
    (b, (a_good 117 (omega arith) (omega arith), (hex_good (c / 4096) (omega arith), (hex_good (c / 256 % 16) (omega arith), (hex_good (c / 16 % 16) (omega arith), (hex_good (c % 16) (omega arith), tt))))))))))))

quoted_good : (xs r : List ℕ) → scalars xs ≡ true → Good r → Good (quoted xs r)
quoted_good [] r s g = (a_good 34 (omega arith) (omega arith), g)
quoted_good (c ∷ xs) r s g = let h = and_both (scalar c) (scalars xs) s in join (spell_char c) (quoted xs r) (char_good c h.0) (quoted_good xs r h.1 g)

byte_good : (b : ℕ) → b < 256 → Good (spell_byte b)
unfolding spell_byte
byte_good b l = cond_both (is_uri b) _ _ Good (λ e. let p = uri_ascii b e in (a_good b p.0 p.1, tt))
    (λ e. (a_good 37 (omega arith) (omega arith), (hex_good (b / 16) (omega arith), (hex_good (b % 16) (omega arith), tt))))

encoded_good : (g r : List ℕ) → AreBytes g → Good r → Good (encoded g r)
encoded_good [] r m h = h
encoded_good (b ∷ g) r m h = join (spell_byte b) (encoded g r) (byte_good b m.0) (encoded_good g r m.1 h)

-- literal text
abbrev Ascii : List ℕ → Type 0
Ascii [] = Unit {0}
Ascii (c ∷ cs) = (32 ≤ c) × (c < 127) × Ascii cs

ascii : (xs : List ℕ) → Ascii xs → Good xs
ascii [] h = tt
ascii (c ∷ cs) h = (a_good c h.0 h.1, ascii cs h.2)

full_good : (g : List ℕ) → AreBytes g → Good (full_text g)
unfolding full_text good is_printable
full_good g m =
    cond_both (bytes_eq g null_tag) _ _ Good (λ e. (refl, (refl, (refl, (refl, (refl, (refl, (refl, tt)))))))) (λ n0.
    cond_both (bytes_eq g bool_tag) _ _ Good (λ e. (refl, (refl, (refl, (refl, (refl, (refl, (refl, tt)))))))) (λ n1.
    cond_both (bytes_eq g int_tag) _ _ Good (λ e. (refl, (refl, (refl, (refl, (refl, (refl, tt))))))) (λ n2.
    cond_both (bytes_eq g float_tag) _ _ Good (λ e. (refl, (refl, (refl, (refl, (refl, (refl, (refl, (refl, tt))))))))) (λ n3.
    (refl, (refl, encoded_good g (62 ∷ 32 ∷ []) m (refl, (refl, tt))))))))

pub tag_good : (g : WrittenTag) → IsWritten g → Good (tag_text g)
tag_good untagged m = tt
tag_good (full g) m = full_good g m
tag_good _ m = absurd m

digits_good : (xs : List ℕ) → AllBelowBase 10 xs → Good (map (λ d. 48 + d) xs)
digits_good [] m = tt
digits_good (x ∷ xs) m = let l = m.0 in (a_good (48 + x) (omega arith) (omega arith), digits_good xs m.1)

name_good : (name r : List ℕ) → IsName name → Good r → Good (chars name ++ r)
unfolding anchor_name
name_good name r p g =
    let n : Good (anchor_name p.0) = (a_good 97 (omega arith) (omega arith), digits_good (digits_of 10 p.0) (all_below_base_digits_of 10 p.0 (omega arith))) in
    subst (λ z. Good (z ++ r)) (sym (ap chars p.1 ∙ name_chars p.0)) (join (anchor_name p.0) r n g)

pub anchor_good : (a : Anchor) (r : List ℕ) → IsAnchor a → Good r → Good (anchor_text a r)
anchor_good None r p g = g
anchor_good (Some name) r p g = (a_good 38 (omega arith) (omega arith), name_good name (32 ∷ r) p (a_good 32 (omega arith) (omega arith), g))

node_good : (a : Anchor) (g : WrittenTag) (c : ℕ) (r : List ℕ) → IsAnchor a → IsWritten g → 32 ≤ c → c < 127 → Good r → Good (anchor_text a (tag_text g ++ (c ∷ r)))
node_good a g c r p m h l n = anchor_good a (tag_text g ++ (c ∷ r)) p (join (tag_text g) (c ∷ r) (tag_good g m) (a_good c h l, n))

mutual
  unfolding node_text

  pub text_good : (m : SerialNode) (r : List ℕ) → IsFine m → Good r → Good (node_text m r)
  text_good (alias_at name) r f h = (a_good 42 (omega arith) (omega arith), name_good name r f h)
  text_good (scalar_at a g y x) r f h =
      node_good a g 34 (quoted (chars x) r) f.0 f.1 (omega arith) (omega arith) (quoted_good (chars x) r (scalars-chars x (IsUtf8-from_is_utf8 x f.3)) h)
  text_good (sequence_at a g b ts) r f h = node_good a g 91 (items_text [] ts r) f.0 f.1 (omega arith) (omega arith) (items_good [] tt ts r f.3 h)
  text_good (mapping_at a g b ps) r f h = node_good a g 123 (pairs_text [] ps r) f.0 f.1 (omega arith) (omega arith) (pairs_good [] tt ps r f.3 h)

  items_good : (s : List ℕ) → Good s → (ts : SerialNodes) (r : List ℕ) → AreFine ts → Good r → Good (items_text s ts r)
  items_good s k end_serial r f h = (a_good 93 (omega arith) (omega arith), h)
  items_good s k (item_serial t ts) r f h =
      let c : Good (44 ∷ 32 ∷ []) = ascii (44 ∷ 32 ∷ []) (omega arith, omega arith, (omega arith, omega arith, tt)) in
      join s (node_text t (items_text (44 ∷ 32 ∷ []) ts r)) k (text_good t (items_text (44 ∷ 32 ∷ []) ts r) f.0 (items_good (44 ∷ 32 ∷ []) c ts r f.1 h))

  pairs_good : (s : List ℕ) → Good s → (ps : SerialPairs) (r : List ℕ) → ArePairsFine ps → Good r → Good (pairs_text s ps r)
  pairs_good s k done_serial r f h = (a_good 125 (omega arith) (omega arith), h)
  pairs_good s k (entry_serial x v ps) r f h =
      let c : Good (44 ∷ 32 ∷ []) = ascii (44 ∷ 32 ∷ []) (omega arith, omega arith, (omega arith, omega arith, tt)) in
      let b : good 32 ≡ true = a_good 32 (omega arith) (omega arith) in
      let e : List ℕ = pairs_text (44 ∷ 32 ∷ []) ps r in
      join s (node_text x (32 ∷ 58 ∷ 32 ∷ node_text v e)) k
      (text_good x (32 ∷ 58 ∷ 32 ∷ node_text v e) f.0 (b, (a_good 58 (omega arith) (omega arith), (b, text_good v e f.1 (pairs_good (44 ∷ 32 ∷ []) c ps r f.2 h)))))

pub break_good : good 10 ≡ true
unfolding good is_printable
break_good = refl

forest_good : (f : List Tree) → AreAdmitted f → Good (spell f)
unfolding spell serial_of
forest_good [] a = tt
forest_good (t ∷ f) a =
    let d : good 45 ≡ true = a_good 45 (omega arith) (omega arith) in
    let m = fine_mark short (agains (walk short (arranged t) [])) (arranged t) [] (proper_arranged t a.0.proper) in
    (d, (d, (d, (a_good 32 (omega arith) (omega arith), text_good (serial_of t) (10 ∷ spell f) m (break_good, forest_good f a.1)))))

pub all_good : (cs : List ℕ) → Good cs → All (λ c. good c ≡ true) cs
all_good [] g = search rules
all_good (c ∷ cs) g = All-cons (λ c. good c ≡ true) c cs g.0 (all_good cs g.1)

pub all_scalar : (cs : List ℕ) → Good cs → scalars cs ≡ true
all_scalar [] g = refl
all_scalar (c ∷ cs) g = both_and (scalar c) (scalars cs) (good_scalar c g.0) (all_scalar cs g.1)

-- no canonical text begins with a byte order mark
unmarked : (f : List Tree) → mark_len (spell_bytes f) ≡ 0
unfolding spell_bytes spell encode_utf8
unmarked [] = refl
unmarked (t ∷ f) = refl

pub spelled_text : (f : List Tree) → Admitted f → Text (spell_bytes f) (spell f)
unfolding spell_bytes good
spelled_text f a =
    let g = forest_good f a.trees in
    record { short = a.fits; decodes = ap (λ n. drop n (spell_bytes f)) (unmarked f); scalars = all_scalar (spell f) g; permitted = all_good (spell f) g }
