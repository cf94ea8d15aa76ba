-- Texts that look the same.
use Rattle.std.specs.Prelude.{ℕ, Bool, cond, ◌&&◌, ◌||◌, ◌==◌, not, nat_le, nat_lt, bytes_eq, List, [], ◌∷◌}
use Rattle.std.specs.List.{list_all}
use Rattle.std.specs.Str.{encode_utf8_all, chars}
use Rattle.unicode_normalization.specs.Forms.{nfd}
use Rattle.review_text.specs.Hidden.{spelled}

-- a space that is not that of ASCII
abbrev pub is_wide_space : ℕ → Bool
is_wide_space c = ((c == 0xA0) || (c == 0x1680)) || ((nat_le 0x2000 c && nat_le c 0x200A) || ((c == 0x202F) || ((c == 0x205F) || (c == 0x3000))))

-- The Latin capital that a Greek or Cyrillic one looks like, or the character itself.
unfoldable pub capital : ℕ → ℕ
capital c = cond ((c == 0x391) || (c == 0x410)) 65 (cond ((c == 0x392) || (c == 0x412)) 66 (cond (c == 0x421) 67 (cond ((c == 0x395) || (c == 0x415)) 69
    (cond ((c == 0x397) || (c == 0x41D)) 72 (cond ((c == 0x399) || (c == 0x406)) 73 (cond (c == 0x408) 74 (cond ((c == 0x39A) || (c == 0x41A)) 75
    (cond ((c == 0x39C) || (c == 0x41C)) 77 (cond (c == 0x39D) 78 (cond ((c == 0x39F) || (c == 0x41E)) 79 (cond ((c == 0x3A1) || (c == 0x420)) 80
    (cond (c == 0x405) 83 (cond ((c == 0x3A4) || (c == 0x422)) 84 (cond ((c == 0x3A5) || (c == 0x423)) 89 (cond ((c == 0x3A7) || (c == 0x425)) 88
    (cond (c == 0x396) 90 c))))))))))))))))

-- the same of small letters
unfoldable pub small : ℕ → ℕ
small c = cond (c == 0x430) 97 (cond (c == 0x441) 99 (cond (c == 0x501) 100 (cond (c == 0x435) 101 (cond (c == 0x4BB) 104 (cond (c == 0x456) 105
    (cond (c == 0x458) 106 (cond ((c == 0x3BF) || (c == 0x43E)) 111 (cond (c == 0x440) 112 (cond (c == 0x51B) 113 (cond (c == 0x455) 115
    (cond (c == 0x3BD) 118 (cond (c == 0x51D) 119 (cond (c == 0x445) 120 (cond (c == 0x443) 121 c))))))))))))))

abbrev pub seen : ℕ → ℕ
seen c = cond (is_wide_space c) 32 (small (capital c))

abbrev pub seen_char : ℕ → List ℕ
seen_char c = seen c ∷ []

-- letters apart from their marks (NFD), each as what it looks like
abbrev pub look : List ℕ → List ℕ
look text = spelled seen_char (encode_utf8_all (nfd (chars text)))

abbrev pub is_ascii_text : List ℕ → Bool
is_ascii_text text = list_all (λ c. nat_lt c 128) text

-- Two texts differ and look the same, and one of them has a character outside ASCII.
abbrev pub looks_alike : List ℕ → List ℕ → Bool
looks_alike left right = not (bytes_eq left right) && (not (is_ascii_text left && is_ascii_text right) && bytes_eq (look left) (look right))
