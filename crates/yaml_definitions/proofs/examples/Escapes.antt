-- The spelling of characters between double quotes: worked examples, computed (YAML 1.2.2, 5.1, 5.7 and 7.3.1).
use Rattle.std.proofs.Common.{◌≡◌, [], ◌∷◌, ◌++◌, refl}
use Rattle.std.specs.Prelude.{codes}
use Rattle.yaml_definitions.specs.model.Tag.{core_tag, null_tag, bool_tag, int_tag, float_tag, str_tag, seq_tag, map_tag}
use Rattle.yaml_definitions.specs.canonical.CharText.{spell_char}
use Rattle.yaml_definitions.specs.grammar.Characters.{is_uri, is_word}
use Rattle.yaml_definitions.specs.canonical.TagText.{spell_byte, full_text, tag_text, written_tag}

-- The quote and the backslash take a backslash, LF and tab have letters.
quote : spell_char 34 ≡ codes "\\\""
unfolding spell_char
quote = refl

backslash : spell_char 92 ≡ codes "\\\\"
unfolding spell_char
backslash = refl

line_feed : spell_char 10 ≡ codes "\\n"
unfolding spell_char
line_feed = refl

tab : spell_char 9 ≡ codes "\\t"
unfolding spell_char
tab = refl

-- Printable characters from the space on stand as themselves, the slash and what is printable past ASCII among them.
space : spell_char 32 ≡ codes " "
unfolding spell_char
space = refl

slash : spell_char 47 ≡ codes "/"
unfolding spell_char
slash = refl

single_quote : spell_char 39 ≡ codes "'"
unfolding spell_char
single_quote = refl

tilde : spell_char 126 ≡ codes "~"
unfolding spell_char
tilde = refl

no_break_space : spell_char 0xA0 ≡ 0xA0 ∷ []
unfolding spell_char
no_break_space = refl

line_separator : spell_char 0x2028 ≡ 0x2028 ∷ []
unfolding spell_char
line_separator = refl

before_the_surrogates : spell_char 0xD7FF ≡ 0xD7FF ∷ []
unfolding spell_char
before_the_surrogates = refl

after_the_surrogates : spell_char 0xE000 ≡ 0xE000 ∷ []
unfolding spell_char
after_the_surrogates = refl

replacement : spell_char 0xFFFD ≡ 0xFFFD ∷ []
unfolding spell_char
replacement = refl

past_four_digits : spell_char 0x10000 ≡ 0x10000 ∷ []
unfolding spell_char
past_four_digits = refl

last_character : spell_char 0x10FFFF ≡ 0x10FFFF ∷ []
unfolding spell_char
last_character = refl

-- All else is two hexadecimal digits below x100 and four from there, in upper case.
zero : spell_char 0 ≡ codes "\\x00"
unfolding spell_char
zero = refl

backspace : spell_char 8 ≡ codes "\\x08"
unfolding spell_char
backspace = refl

carriage_return : spell_char 13 ≡ codes "\\x0D"
unfolding spell_char
carriage_return = refl

escape : spell_char 27 ≡ codes "\\x1B"
unfolding spell_char
escape = refl

delete : spell_char 0x7F ≡ codes "\\x7F"
unfolding spell_char
delete = refl

next_line : spell_char 0x85 ≡ codes "\\x85"
unfolding spell_char
next_line = refl

last_control : spell_char 0x9F ≡ codes "\\x9F"
unfolding spell_char
last_control = refl

byte_order_mark : spell_char 0xFEFF ≡ codes "\\uFEFF"
unfolding spell_char
byte_order_mark = refl

no_character : spell_char 0xFFFE ≡ codes "\\uFFFE"
unfolding spell_char
no_character = refl

no_character_either : spell_char 0xFFFF ≡ codes "\\uFFFF"
unfolding spell_char
no_character_either = refl

-- ---- tags

-- str, seq and map stand on their own kinds, and are not written.
text_tag : tag_text (written_tag 0 str_tag) ≡ []
unfolding spell_byte full_text written_tag core_tag is_uri is_word
text_tag = refl

sequence_tag : tag_text (written_tag 1 seq_tag) ≡ []
unfolding spell_byte full_text written_tag core_tag is_uri is_word
sequence_tag = refl

mapping_tag : tag_text (written_tag 2 map_tag) ≡ []
unfolding spell_byte full_text written_tag core_tag is_uri is_word
mapping_tag = refl

-- null, bool, int and float have the handle `!!`.
null_tag_text : tag_text (written_tag 0 null_tag) ≡ codes "!!null "
unfolding spell_byte full_text written_tag core_tag is_uri is_word
null_tag_text = refl

bool_tag_text : tag_text (written_tag 0 bool_tag) ≡ codes "!!bool "
unfolding spell_byte full_text written_tag core_tag is_uri is_word
bool_tag_text = refl

int_tag_text : tag_text (written_tag 0 int_tag) ≡ codes "!!int "
unfolding spell_byte full_text written_tag core_tag is_uri is_word
int_tag_text = refl

float_tag_text : tag_text (written_tag 0 float_tag) ≡ codes "!!float "
unfolding spell_byte full_text written_tag core_tag is_uri is_word
float_tag_text = refl

-- Another tag is verbatim, and each of its bytes that is no URI character, or is `%`, is percent-encoded in upper case.
local_tag : tag_text (written_tag 1 (codes "!x")) ≡ codes "!<!x> "
unfolding spell_byte full_text written_tag core_tag is_uri is_word
local_tag = refl

binary_tag : tag_text (written_tag 0 (core_tag (codes "binary"))) ≡ codes "!<tag:yaml.org,2002:binary> "
unfolding spell_byte full_text written_tag core_tag is_uri is_word
binary_tag = refl

uri_characters : tag_text (written_tag 0 (codes "-aZ09#;/?:@&=+$,_.!~*'()[]")) ≡ codes "!<-aZ09#;/?:@&=+$,_.!~*'()[]> "
unfolding spell_byte full_text written_tag core_tag is_uri is_word
uri_characters = refl

encoded_bytes : tag_text (written_tag 0 (codes "% <>{}|" ++ (195 ∷ 169 ∷ []))) ≡ codes "!<%25%20%3C%3E%7B%7D%7C%C3%A9> "
unfolding spell_byte full_text written_tag core_tag is_uri is_word
encoded_bytes = refl
