-- The bytes of tags and of quoted contents.
use Rattle.std.proofs.Common.{◌≡◌, ℕ, ◌+◌, ◌*◌, ◌/◌, ◌%◌, ◌≤◌, ◌<◌, ◌==◌, Bool, true, false, not, nat_le, nat_lt, ◌&&◌, List, [], ◌∷◌, ◌++◌, length, refl, ◌∙◌, ap, arith}
use Rattle.std.proofs.lemmas.Bool.{cond_both, ltb-true}
use Rattle.std.proofs.lemmas.List.{append-nil}
use Rattle.std.proofs.lemmas.Bool.Decides.{nat_tests}
use Rattle.std.proofs.lemmas.Str.{encodes-chars, IsUtf8-from_is_utf8, length-encode, len_utf8_bounds, len_utf8_ascii}
use Rattle.std.specs.Prelude.{codes, bytes_eq}
use Rattle.std.specs.Char.{encode_utf8, len_utf8}
use Rattle.std.specs.Str.{encode_utf8_all, chars, is_utf8}
use Rattle.yaml_definitions.specs.model.Limits.{tag_limit}
use Rattle.yaml_definitions.specs.model.Tag.{IsTag, is_full, null_tag, bool_tag, int_tag, float_tag, default_tag}
use Rattle.yaml_definitions.specs.grammar.Characters.{is_uri, is_word}
use Rattle.yaml_definitions.specs.canonical.CharText.{is_plain, hex_digit, spell_char}
use Rattle.yaml_definitions.specs.canonical.TagText.{spell_byte, encoded, full_text, tag_text, written_tag}
use Rattle.yaml_definitions.specs.canonical.NodeText.{quoted}
use Rattle.yaml_definitions.proofs.Members.{and_both}
use Rattle.yaml_definitions.proofs.TagLaws.{AreBytes}
use Rattle.yaml_definitions.proofs.ProperLaws.{utf8_bytes}
use Rattle.law_length.proofs.Weights.{bytes, tag_bytes, content_bytes}
use Rattle.law_length.proofs.Texts.{bytes-join}

-- ---- one character

one : (c : ℕ) → bytes (c ∷ []) ≡ len_utf8 c
unfolding bytes
one c = ap length (append-nil (encode_utf8 c)) ∙ length-encode c

ascii : (c : ℕ) → c < 128 → bytes (c ∷ []) ≡ 1
ascii c h = one c ∙ len_utf8_ascii c h

some : (c : ℕ) → 1 ≤ bytes (c ∷ [])
some c = omega (arith, one c, (len_utf8_bounds c).0)

four : (c : ℕ) → bytes (c ∷ []) ≤ 4
four c = omega (arith, one c, (len_utf8_bounds c).1)

front : (c : ℕ) (cs : List ℕ) → bytes (c ∷ cs) ≡ bytes (c ∷ []) + bytes cs
front c cs = bytes-join (c ∷ []) cs

empty : bytes [] ≡ 0
unfolding bytes
empty = refl

hex : (d : ℕ) → d < 16 → bytes (hex_digit d ∷ []) ≡ 1
hex d h = ascii (hex_digit d) (grind (arith, nat_tests))

-- ---- tags

uri_ascii : (c : ℕ) → is_uri c ≡ true → c < 128
unfolding is_uri is_word
uri_ascii c h = grind (arith, nat_tests)

byte_light : (b : ℕ) → b < 256 → bytes (spell_byte b) ≤ 3
unfolding spell_byte
byte_light b l = cond_both (is_uri b) _ _ (λ z. bytes z ≤ 3) (λ e. omega (arith, ascii b (uri_ascii b e)))
    (λ e. omega (arith, front 37 (hex_digit (b / 16) ∷ hex_digit (b % 16) ∷ []), front (hex_digit (b / 16)) (hex_digit (b % 16) ∷ []), ascii 37 (omega arith), hex (b / 16) (omega (arith, l)), hex (b % 16) (omega arith)))

encoded_light : (g more : List ℕ) → AreBytes g → bytes (encoded g more) ≤ 3 * length g + bytes more
encoded_light [] more m = omega arith
encoded_light (b ∷ g) more m = omega (arith, bytes-join (spell_byte b) (encoded g more), byte_light b m.0, encoded_light g more m.1)

words : (bytes (codes "!!null ") ≡ 7) × (bytes (codes "!!bool ") ≡ 7) × (bytes (codes "!!int ") ≡ 6) × (bytes (codes "!!float ") ≡ 8) × (bytes (codes "!<") ≡ 2) × (bytes (codes "> ") ≡ 2)
unfolding bytes encode_utf8
words = (refl, refl, refl, refl, refl, refl)

few : (n : ℕ) → nat_le n 1024 ≡ true → n ≤ 1024
few n h = grind (arith, nat_tests, h)

full_light : (g : List ℕ) → AreBytes g → length g ≤ 1024 → bytes (full_text g) ≤ 3100
unfolding full_text
full_light g m l =
    cond_both (bytes_eq g null_tag) _ _ (λ z. bytes z ≤ 3100) (λ e. omega (arith, words.0)) (λ n0.
    cond_both (bytes_eq g bool_tag) _ _ (λ z. bytes z ≤ 3100) (λ e. omega (arith, words.1)) (λ n1.
    cond_both (bytes_eq g int_tag) _ _ (λ z. bytes z ≤ 3100) (λ e. omega (arith, words.2)) (λ n2.
    cond_both (bytes_eq g float_tag) _ _ (λ z. bytes z ≤ 3100) (λ e. omega (arith, words.3))
    (λ n3. omega (arith, l, bytes-join (codes "!<") (encoded g (codes "> ")), encoded_light g (codes "> ") m, words.4, words.5)))))

pub tag_light : (k : ℕ) (g : List ℕ) → IsTag g → tag_bytes k g ≤ 3100
unfolding tag_bytes written_tag is_full
tag_light k g h =
    let p = and_both (is_utf8 g) (nat_le 1 (length g) && (nat_le (length g) tag_limit && not (bytes_eq g (33 ∷ [])))) h in
    let q = and_both (nat_le 1 (length g)) (nat_le (length g) tag_limit && not (bytes_eq g (33 ∷ []))) p.1 in
    let r = and_both (nat_le (length g) tag_limit) (not (bytes_eq g (33 ∷ []))) q.1 in
    cond_both (bytes_eq g (default_tag k)) _ _ (λ z. bytes (tag_text z) ≤ 3100) (λ e. omega (arith, empty)) (λ e. full_light g (utf8_bytes g p.0) (few (length g) r.0))

-- ---- contents

large : (c : ℕ) → 128 ≤ c → 2 ≤ len_utf8 c
large c h = grind (arith, nat_tests)

huge : (c : ℕ) → 65536 ≤ c → 4 ≤ len_utf8 c
huge c h = grind (arith, nat_tests)

two : (a b n : ℕ) → a < 128 → b < 128 → 1 ≤ n → bytes (a ∷ b ∷ []) ≤ 4 * n
two a b n h k l = omega (arith, front a (b ∷ []), ascii a h, ascii b k, l)

four_hex : (a b c d e : ℕ) (n : ℕ) → bytes (b ∷ []) ≤ n → bytes (c ∷ []) ≡ 1 → bytes (d ∷ []) ≡ 1 → bytes (e ∷ []) ≡ 1 → bytes (92 ∷ 117 ∷ b ∷ c ∷ d ∷ e ∷ []) ≤ 5 + n
four_hex a b c d e n hb hc hd he =
    omega (arith, front 92 (117 ∷ b ∷ c ∷ d ∷ e ∷ []), front 117 (b ∷ c ∷ d ∷ e ∷ []), front b (c ∷ d ∷ e ∷ []), front c (d ∷ e ∷ []), front d (e ∷ []), ascii 92 (omega arith), ascii 117 (omega arith), hb, hc, hd, he)

char_light : (c : ℕ) → bytes (spell_char c) ≤ 4 * bytes (c ∷ [])
unfolding spell_char
char_light c =
    let n = bytes (c ∷ []) in
    let Light : List ℕ → Type 0 = λ z. bytes z ≤ 4 * n in
    cond_both (c == 34) _ _ Light (λ e. two 92 34 n (omega arith) (omega arith) (some c)) (λ n1.
    cond_both (c == 92) _ _ Light (λ e. two 92 92 n (omega arith) (omega arith) (some c)) (λ n2.
    cond_both (c == 10) _ _ Light (λ e. two 92 110 n (omega arith) (omega arith) (some c)) (λ n3.
    cond_both (c == 9) _ _ Light (λ e. two 92 116 n (omega arith) (omega arith) (some c)) (λ n4.
    cond_both (is_plain c) _ _ Light (λ e. omega arith) (λ n5.
    cond_both (nat_lt c 256) _ _ Light
    (λ e. let l = ltb-true c 256 e in omega (
      arith,
      some c,
      front 92 (120 ∷ hex_digit (c / 16) ∷ hex_digit (c % 16) ∷ []),
      front 120 (hex_digit (c / 16) ∷ hex_digit (c % 16) ∷ []),
      front (hex_digit (c / 16)) (hex_digit (c % 16) ∷ []),
      ascii 92 (omega arith),
      ascii 120 (omega arith),
      hex (c / 16) (omega (arith, l)),
      hex (c % 16) (omega arith),
    ))
    (λ n6. long n6 (nat_lt c 65536) refl))))))
  where
    long : nat_lt c 256 ≡ false → (b : Bool) → nat_lt c 65536 ≡ b → bytes (92 ∷ 117 ∷ hex_digit (c / 4096) ∷ hex_digit (c / 256 % 16) ∷ hex_digit (c / 16 % 16) ∷ hex_digit (c % 16) ∷ []) ≤ 4 * bytes (c ∷ [])
    long n6 true e =
        let l : c < 65536 = ltb-true c 65536 e in
        let m : 128 ≤ c = grind (arith, nat_tests) in
        omega (arith, one c, large c m, four_hex 0 (hex_digit (c / 4096)) (hex_digit (c / 256 % 16)) (hex_digit (c / 16 % 16)) (hex_digit (c % 16)) 1 (omega (arith, hex (c / 4096) (omega (arith, l)))) (hex (c / 256 % 16) (omega arith)) (hex (c / 16 % 16) (omega arith)) (hex (c % 16) (omega arith)))
    long n6 false e =
        let m : 65536 ≤ c = grind (arith, nat_tests) in
        omega (arith, one c, huge c m, four_hex 0 (hex_digit (c / 4096)) (hex_digit (c / 256 % 16)) (hex_digit (c / 16 % 16)) (hex_digit (c % 16)) 4 (four (hex_digit (c / 4096))) (hex (c / 256 % 16) (omega arith)) (hex (c / 16 % 16) (omega arith)) (hex (c % 16) (omega arith)))

quoted_light : (cs : List ℕ) → bytes (quoted cs []) ≤ 1 + 4 * bytes cs
quoted_light [] = omega (arith, ascii 34 (omega arith))
quoted_light (c ∷ cs) = omega (arith, bytes-join (spell_char c) (quoted cs []), char_light c, quoted_light cs, front c cs)

back : (z : List ℕ) → is_utf8 z ≡ true → length (encode_utf8_all (chars z)) ≡ length z
back z u = ap length (encodes-chars z (IsUtf8-from_is_utf8 z u))

pub content_light : (z : List ℕ) → is_utf8 z ≡ true → content_bytes z ≤ 2 + 4 * length z
unfolding content_bytes bytes
content_light z u =
    let e : bytes (chars z) ≡ length z = back z u in
    omega (arith, front 34 (quoted (chars z) []), ascii 34 (omega arith), quoted_light (chars z), e)

-- and from below: a character of four bytes may be spelled by one
filled : (c : ℕ) (cs : List ℕ) → 1 ≤ bytes (c ∷ cs)
filled c cs = omega (arith, front c cs, some c)

char_heavy : (c : ℕ) → 1 ≤ bytes (spell_char c)
unfolding spell_char
char_heavy c =
    let Heavy : List ℕ → Type 0 = λ z. 1 ≤ bytes z in
    cond_both (c == 34) _ _ Heavy (λ e. filled 92 _) (λ n1.
    cond_both (c == 92) _ _ Heavy (λ e. filled 92 _) (λ n2.
    cond_both (c == 10) _ _ Heavy (λ e. filled 92 _) (λ n3.
    cond_both (c == 9) _ _ Heavy (λ e. filled 92 _) (λ n4.
    cond_both (is_plain c) _ _ Heavy (λ e. some c) (λ n5.
    cond_both (nat_lt c 256) _ _ Heavy (λ e. filled 92 _) (λ n6. filled 92 _))))))

quoted_heavy : (cs : List ℕ) → bytes cs ≤ 4 * bytes (quoted cs [])
quoted_heavy [] = omega (arith, empty)
quoted_heavy (c ∷ cs) = omega (arith, bytes-join (spell_char c) (quoted cs []), char_heavy c, four c, quoted_heavy cs, front c cs)

pub content_heavy : (z : List ℕ) → is_utf8 z ≡ true → length z ≤ 4 * content_bytes z
unfolding content_bytes bytes
content_heavy z u = omega (arith, front 34 (quoted (chars z) []), quoted_heavy (chars z), back z u)

-- Before a content stands a tag or nothing.
pub tag_and_content : (k : ℕ) (g z : List ℕ) → bytes (tag_text (written_tag k g) ++ (34 ∷ quoted (chars z) [])) ≡ tag_bytes k g + content_bytes z
unfolding tag_bytes content_bytes
tag_and_content k g z = bytes-join (tag_text (written_tag k g)) (34 ∷ quoted (chars z) [])
