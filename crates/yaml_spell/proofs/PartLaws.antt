-- The parts of a node's text.
use Rattle.std.proofs.Common.{true, false, ◌≤◌, cond, zero, suc, ◌<◌, ◌^◌, ◌/◌, ◌%◌, nat_lt, add-one, ◌≡◌, ℕ, ◌+◌, List, [], ◌∷◌, ◌++◌, length, drop, get_or, refl, sym, ◌∙◌, ap, subst, arith}
use Rattle.std.specs.Str.{encode_utf8_all, IsAscii}
use Rattle.std.specs.Char.{encode_utf8}
use Rattle.std.proofs.lemmas.Bool.{cond_both}
use Rattle.std.proofs.lemmas.List.{append_assoc, append-nil}
use Rattle.std.proofs.lemmas.Str.{encodes-append, encodes-IsAscii, IsAscii-append}
use Rattle.std.proofs.lemmas.Fmt.{decimal-digits_of, IsAscii-decimal, decimal_digit, decimal_step}
use Rattle.std.proofs.lemmas.Bool.Decides.{nat_tests}
use Rattle.std.specs.Fmt.{decimal}
use Rattle.std.specs.Prelude.{codes, bytes_eq, Some}
use Rattle.std.specs.Str.{chars}
use Rattle.yaml_definitions.specs.model.Event.{untagged, full}
use Rattle.yaml_definitions.specs.canonical.Serialize.{anchor_name}
use Rattle.yaml_definitions.specs.model.Serial.{alias_at}
use Rattle.yaml_definitions.specs.canonical.NodeText.{node_text, anchor_text, quoted}
use Rattle.yaml_definitions.specs.model.Tag.{default_tag}
use Rattle.yaml_definitions.proofs.TextLaws.{name_chars}
use Rattle.yaml_scalar.specs.Spelling.{quoted_bytes}
use Rattle.yaml_scalar.proofs.SpellingLemmas.{quoted_more}
use Rattle.std.proofs.Math.Seq.{drop-cons}
use Rattle.yaml_definitions.specs.grammar.Characters.{is_uri}
use Rattle.yaml_definitions.specs.canonical.CharText.{hex_digit}
use Rattle.yaml_text.specs.declared.fault.Fault.{Fault}
use Rattle.yaml_spell.proofs.PieceLaws.{adds_then, misses_more, misses_later, puts_as, puts_piece, puts_none, fails_as, fails_piece}
use Rattle.yaml_definitions.specs.canonical.TagText.{spell_byte, encoded, full_text, tag_text, written_tag}
use Rattle.yaml_spell.specs.Pieces.{Began, TakesPiece, Puts, Misses, Fails}

-- The bytes of a tag before this place are taken.
pub record Encoded {S O : Type 0} (holds : S → O → Began → List ℕ → Type 0) (s : S) (o : O) (t : S) (p : O) (tag : List ℕ) (at : ℕ) : Type 0 where
  pub taken : List ℕ
  pub adds : TakesPiece holds s o t p taken
  pub left : taken ++ encode_utf8_all (encoded (drop at tag) []) ≡ encode_utf8_all (encoded tag [])

-- ---- a byte of a tag

pub byte_itself : (b c : ℕ) → c ≡ b → is_uri c ≡ true → encode_utf8 c ≡ encode_utf8_all (spell_byte b)
unfolding spell_byte
byte_itself b c e h = ap encode_utf8 e ∙ sym (append-nil (encode_utf8 b)) ∙ ap (λ z. encode_utf8_all (cond z (b ∷ []) (37 ∷ hex_digit (b / 16) ∷ hex_digit (b % 16) ∷ []))) (sym (ap is_uri (sym e) ∙ h))

low_digit : (d : ℕ) → d < 16 → hex_digit d < 128
low_digit d l = cond_both (nat_lt d 10) (48 + d) (55 + d) (λ z. z < 128) (λ _. omega arith) (λ _. omega arith)

three_ascii : (a b : ℕ) → a < 128 → b < 128 → IsAscii (37 ∷ a ∷ b ∷ [])
three_ascii a b h k zero = omega arith
three_ascii a b h k (suc zero) = h
three_ascii a b h k (suc (suc zero)) = k
three_ascii a b h k (suc (suc (suc i))) = omega arith

pub byte_escaped : (b c : ℕ) → c ≡ b → is_uri c ≡ false → b < 256 → 37 ∷ hex_digit (b / 16) ∷ hex_digit (b % 16) ∷ [] ≡ encode_utf8_all (spell_byte b)
unfolding spell_byte
byte_escaped b c e h l =
    sym (encodes-IsAscii (37 ∷ hex_digit (b / 16) ∷ hex_digit (b % 16) ∷ []) (three_ascii _ _ (low_digit (b / 16) (omega arith)) (low_digit (b % 16) (omega arith))))
    ∙ ap (λ z. encode_utf8_all (cond z (b ∷ []) (37 ∷ hex_digit (b / 16) ∷ hex_digit (b % 16) ∷ []))) (sym (ap is_uri (sym e) ∙ h))

module _ {S O : Type 0} (holds : S → O → Began → List ℕ → Type 0) where
  dropped : (xs : List ℕ) (i b : ℕ) → (i < length xs) × (b ≡ get_or xs i 0) → drop i xs ≡ b ∷ drop (i + 1) xs
  dropped xs i b h = rw add-one (drop-cons xs i 0 h.0 ∙ ap (λ z. z ∷ drop (suc i) xs) (sym h.1))

  split_encoded : (tag : List ℕ) (at b : ℕ) → (at < length tag) × (b ≡ get_or tag at 0) → encode_utf8_all (encoded (drop at tag) []) ≡ encode_utf8_all (spell_byte b) ++ encode_utf8_all (encoded (drop (at + 1) tag) [])
  split_encoded tag at b h = ap (λ z. encode_utf8_all (encoded z [])) (dropped tag at b h) ∙ encodes-append (spell_byte b) (encoded (drop (at + 1) tag) [])

  pub encoded_next : (s : S) (o : O) (t : S) (p : O) (u : S) (q : O) (tag : List ℕ) (at b : ℕ) → Encoded holds s o t p tag at → (at < length tag) × (b ≡ get_or tag at 0) → TakesPiece holds t p u q (encode_utf8_all (spell_byte b)) → Encoded holds s o u q tag (at + 1)
  encoded_next s o t p u q tag at b h i k = record {
    taken = h.taken ++ encode_utf8_all (spell_byte b);
    adds = adds_then holds s o t p u q h.taken (encode_utf8_all (spell_byte b)) h.adds k;
    left = append_assoc h.taken (encode_utf8_all (spell_byte b)) (encode_utf8_all (encoded (drop (at + 1) tag) [])) ∙ ap (λ z. h.taken ++ z) (sym (split_encoded tag at b i)) ∙ h.left;
  }

  pub encoded_missed : (stops : O → Began → Fault → List ℕ → Type 0) (s : S) (o : O) (t : S) (p q : O) (fault : Fault) (tag : List ℕ) (at b : ℕ) → Encoded holds s o t p tag at → (at < length tag) × (b ≡ get_or tag at 0)
      → Misses holds stops t p q fault (encode_utf8_all (spell_byte b)) → Misses holds stops s o q fault (encode_utf8_all (encoded tag []))
  encoded_missed stops s o t p q fault tag at b h i k =
      misses_more holds stops s o q fault (h.taken ++ encode_utf8_all (spell_byte b)) (encode_utf8_all (encoded (drop (at + 1) tag) [])) (encode_utf8_all (encoded tag []))
      (misses_later holds stops s o t p q fault h.taken (encode_utf8_all (spell_byte b)) h.adds k)
      (append_assoc h.taken (encode_utf8_all (spell_byte b)) (encode_utf8_all (encoded (drop (at + 1) tag) [])) ∙ ap (λ z. h.taken ++ z) (sym (split_encoded tag at b i)) ∙ h.left)

-- ---- numbers and names

letter : IsAscii (97 ∷ [])
letter zero = omega arith
letter (suc i) = omega arith

name_bytes : (n : ℕ) → 0 < n → n < 2 ^ 64 → encode_utf8_all (anchor_name n) ≡ 97 ∷ decimal n
unfolding anchor_name
name_bytes n h l =
    ap (λ x. encode_utf8_all (97 ∷ x)) (sym (decimal-digits_of n h l)) ∙ encodes-IsAscii (97 ∷ decimal n) (IsAscii-append (97 ∷ []) (decimal n) letter (IsAscii-decimal n l))

alias_bytes : (n : ℕ) → 0 < n → n < 2 ^ 64 → encode_utf8_all (42 ∷ anchor_name n) ≡ (42 ∷ 97 ∷ []) ++ decimal n
unfolding encode_utf8
alias_bytes n h l = ap (λ z. 42 ∷ z) (name_bytes n h l)

anchor_bytes : (n : ℕ) → 0 < n → n < 2 ^ 64 → encode_utf8_all (38 ∷ (anchor_name n ++ (32 ∷ []))) ≡ ((38 ∷ 97 ∷ []) ++ decimal n) ++ (32 ∷ [])
unfolding encode_utf8
anchor_bytes n h l = ap (λ z. 38 ∷ z) (encodes-append (anchor_name n) (32 ∷ []) ∙ ap (λ z. z ++ (32 ∷ [])) (name_bytes n h l))

alias_text : (n : ℕ) (more : List ℕ) → (42 ∷ anchor_name n) ++ more ≡ node_text (alias_at (anchor_name n)) more
unfolding node_text
alias_text n more = ap (λ z. 42 ∷ (z ++ more)) (sym (name_chars n))

anchor_is : (n : ℕ) (more : List ℕ) → (38 ∷ (anchor_name n ++ (32 ∷ []))) ++ more ≡ anchor_text (Some (anchor_name n)) more
anchor_is n more = ap (λ z. 38 ∷ z) (append_assoc (anchor_name n) (32 ∷ []) more ∙ ap (λ z. z ++ (32 ∷ more)) (sym (name_chars n)))

encoded_more : (tag more : List ℕ) → encoded tag more ≡ encoded tag [] ++ more
encoded_more [] more = refl
encoded_more (b ∷ bs) more = ap (λ z. spell_byte b ++ z) (encoded_more bs more) ∙ sym (append_assoc (spell_byte b) (encoded bs []) more)

untagged_is : (k : ℕ) (tag : List ℕ) → bytes_eq tag (default_tag k) ≡ true → tag_text (written_tag k tag) ≡ []
unfolding written_tag
untagged_is k tag h = ap (λ b. tag_text (cond b untagged (full tag))) h

tagged_is : (k : ℕ) (tag : List ℕ) → bytes_eq tag (default_tag k) ≡ false → tag_text (written_tag k tag) ≡ full_text tag
unfolding written_tag
tagged_is k tag h = ap (λ b. tag_text (cond b untagged (full tag))) h

tag_bytes : (tag : List ℕ) → encode_utf8_all (codes "!<" ++ encoded tag (codes "> ")) ≡ ((33 ∷ 60 ∷ []) ++ encode_utf8_all (encoded tag [])) ++ (62 ∷ 32 ∷ [])
unfolding encode_utf8
tag_bytes tag = ap (λ z. 33 ∷ 60 ∷ z) (ap encode_utf8_all (encoded_more tag (codes "> ")) ∙ encodes-append (encoded tag []) (codes "> "))

module _ {S O : Type 0} (holds : S → O → Began → List ℕ → Type 0) (stops : O → Began → Fault → List ℕ → Type 0) where
  pub alias_put : (s : S) (o : O) (t : S) (p : O) (u : S) (q : O) (n : ℕ) → 0 < n → n < 2 ^ 64 → TakesPiece holds s o t p (42 ∷ 97 ∷ []) → TakesPiece holds t p u q (decimal n) → Puts holds s o u q (node_text (alias_at (anchor_name n)))
  alias_put s o t p u q n h l a b =
      puts_as holds s o u q (λ more. (42 ∷ anchor_name n) ++ more) (node_text (alias_at (anchor_name n))) (puts_piece holds s o u q ((42 ∷ 97 ∷ []) ++ decimal n) (42 ∷ anchor_name n) (adds_then holds s o t p u q (42 ∷ 97 ∷ []) (decimal n) a b) (alias_bytes n h l)) (alias_text n)

  alias_whole : (s : S) (o q : O) (n : ℕ) (fault : Fault) → 0 < n → n < 2 ^ 64 → Misses holds stops s o q fault ((42 ∷ 97 ∷ []) ++ decimal n) → Fails holds stops s o q fault (node_text (alias_at (anchor_name n)))
  alias_whole s o q n fault h l m = fails_as holds stops s o q fault (λ more. (42 ∷ anchor_name n) ++ more) (node_text (alias_at (anchor_name n))) (fails_piece holds stops s o q fault ((42 ∷ 97 ∷ []) ++ decimal n) (42 ∷ anchor_name n) m (alias_bytes n h l)) (alias_text n)

  pub alias_cut : (s : S) (o q : O) (n : ℕ) (fault : Fault) → 0 < n → n < 2 ^ 64 → Misses holds stops s o q fault (42 ∷ 97 ∷ []) → Fails holds stops s o q fault (node_text (alias_at (anchor_name n)))
  alias_cut s o q n fault h l m = alias_whole s o q n fault h l (misses_more holds stops s o q fault (42 ∷ 97 ∷ []) (decimal n) ((42 ∷ 97 ∷ []) ++ decimal n) m refl)

  pub alias_late : (s : S) (o : O) (t : S) (p q : O) (n : ℕ) (fault : Fault) → 0 < n → n < 2 ^ 64 → TakesPiece holds s o t p (42 ∷ 97 ∷ []) → Misses holds stops t p q fault (decimal n) → Fails holds stops s o q fault (node_text (alias_at (anchor_name n)))
  alias_late s o t p q n fault h l a m = alias_whole s o q n fault h l (misses_later holds stops s o t p q fault (42 ∷ 97 ∷ []) (decimal n) a m)

  abbrev anchor_code : ℕ → List ℕ
  anchor_code n = ((38 ∷ 97 ∷ []) ++ decimal n) ++ (32 ∷ [])

  pub anchor_put : (s : S) (o : O) (t : S) (p : O) (u : S) (q : O) (v : S) (r : O) (n : ℕ) → 0 < n → n < 2 ^ 64 → TakesPiece holds s o t p (38 ∷ 97 ∷ []) → TakesPiece holds t p u q (decimal n) → TakesPiece holds u q v r (32 ∷ []) → Puts holds s o v r (anchor_text (Some (anchor_name n)))
  anchor_put s o t p u q v r n h l a b c =
      puts_as holds s o v r (λ more. (38 ∷ (anchor_name n ++ (32 ∷ []))) ++ more) (anchor_text (Some (anchor_name n)))
      (puts_piece holds s o v r (anchor_code n) (38 ∷ (anchor_name n ++ (32 ∷ []))) (adds_then holds s o u q v r ((38 ∷ 97 ∷ []) ++ decimal n) (32 ∷ []) (adds_then holds s o t p u q (38 ∷ 97 ∷ []) (decimal n) a b) c) (anchor_bytes n h l)) (anchor_is n)

  anchor_whole : (s : S) (o q : O) (n : ℕ) (fault : Fault) → 0 < n → n < 2 ^ 64 → Misses holds stops s o q fault (anchor_code n) → Fails holds stops s o q fault (anchor_text (Some (anchor_name n)))
  anchor_whole s o q n fault h l m =
      fails_as holds stops s o q fault (λ more. (38 ∷ (anchor_name n ++ (32 ∷ []))) ++ more) (anchor_text (Some (anchor_name n))) (fails_piece holds stops s o q fault (anchor_code n) (38 ∷ (anchor_name n ++ (32 ∷ []))) m (anchor_bytes n h l)) (anchor_is n)

  pub anchor_cut : (s : S) (o q : O) (n : ℕ) (fault : Fault) → 0 < n → n < 2 ^ 64 → Misses holds stops s o q fault (38 ∷ 97 ∷ []) → Fails holds stops s o q fault (anchor_text (Some (anchor_name n)))
  anchor_cut s o q n fault h l m = anchor_whole s o q n fault h l (misses_more holds stops s o q fault (38 ∷ 97 ∷ []) (decimal n ++ (32 ∷ [])) (anchor_code n) m refl)

  pub anchor_late : (s : S) (o : O) (t : S) (p q : O) (n : ℕ) (fault : Fault) → 0 < n → n < 2 ^ 64 → TakesPiece holds s o t p (38 ∷ 97 ∷ []) → Misses holds stops t p q fault (decimal n) → Fails holds stops s o q fault (anchor_text (Some (anchor_name n)))
  anchor_late s o t p q n fault h l a m =
      anchor_whole s o q n fault h l (misses_more holds stops s o q fault ((38 ∷ 97 ∷ []) ++ decimal n) (32 ∷ []) (anchor_code n) (misses_later holds stops s o t p q fault (38 ∷ 97 ∷ []) (decimal n) a m) refl)

  pub anchor_last : (s : S) (o : O) (t : S) (p : O) (u : S) (q r : O) (n : ℕ) (fault : Fault) → 0 < n → n < 2 ^ 64 → TakesPiece holds s o t p (38 ∷ 97 ∷ []) → TakesPiece holds t p u q (decimal n) → Misses holds stops u q r fault (32 ∷ []) → Fails holds stops s o r fault (anchor_text (Some (anchor_name n)))
  anchor_last s o t p u q r n fault h l a b m =
      anchor_whole s o r n fault h l (misses_later holds stops s o u q r fault ((38 ∷ 97 ∷ []) ++ decimal n) (32 ∷ []) (adds_then holds s o t p u q (38 ∷ 97 ∷ []) (decimal n) a b) m)

  -- ---- tags

  abbrev before : ℕ → List ℕ → List ℕ → List ℕ
  before k tag more = tag_text (written_tag k tag) ++ more

  abbrev before_full : List ℕ → List ℕ → List ℕ
  before_full tag more = full_text tag ++ more

  pub tag_left_out : (s : S) (o : O) (k : ℕ) (tag : List ℕ) → bytes_eq tag (default_tag k) ≡ true → Puts holds s o s o (before k tag)
  tag_left_out s o k tag h = puts_as holds s o s o (λ more. more) (before k tag) (puts_none holds s o) (λ more. ap (λ z. z ++ more) (sym (untagged_is k tag h)))

  pub tag_told : (s : S) (o : O) (t : S) (p : O) (k : ℕ) (tag : List ℕ) → bytes_eq tag (default_tag k) ≡ false → Puts holds s o t p (before_full tag) → Puts holds s o t p (before k tag)
  tag_told s o t p k tag h a = puts_as holds s o t p (before_full tag) (before k tag) a (λ more. ap (λ z. z ++ more) (sym (tagged_is k tag h)))

  pub tag_untold : (s : S) (o p : O) (fault : Fault) (k : ℕ) (tag : List ℕ) → bytes_eq tag (default_tag k) ≡ false → Fails holds stops s o p fault (before_full tag) → Fails holds stops s o p fault (before k tag)
  tag_untold s o p fault k tag h m = fails_as holds stops s o p fault (before_full tag) (before k tag) m (λ more. ap (λ z. z ++ more) (sym (tagged_is k tag h)))

  pub tag_put : (s : S) (o : O) (t : S) (p : O) (tag bytes cs : List ℕ) → full_text tag ≡ cs → encode_utf8_all cs ≡ bytes → TakesPiece holds s o t p bytes → Puts holds s o t p (before_full tag)
  tag_put s o t p tag bytes cs e f a = puts_as holds s o t p (λ more. cs ++ more) (before_full tag) (puts_piece holds s o t p bytes cs a f) (λ more. ap (λ z. z ++ more) (sym e))

  pub tag_cut : (s : S) (o p : O) (fault : Fault) (tag bytes cs : List ℕ) → full_text tag ≡ cs → encode_utf8_all cs ≡ bytes → Misses holds stops s o p fault bytes → Fails holds stops s o p fault (before_full tag)
  tag_cut s o p fault tag bytes cs e f m = fails_as holds stops s o p fault (λ more. cs ++ more) (before_full tag) (fails_piece holds stops s o p fault bytes cs m f) (λ more. ap (λ z. z ++ more) (sym e))

  abbrev whole : List ℕ → List ℕ
  whole tag = codes "!<" ++ encoded tag (codes "> ")

  pub tag_spelled : (s : S) (o : O) (t : S) (p : O) (u : S) (q : O) (v : S) (r : O) (tag : List ℕ) → full_text tag ≡ whole tag
      → TakesPiece holds s o t p (33 ∷ 60 ∷ []) → TakesPiece holds t p u q (encode_utf8_all (encoded tag [])) → TakesPiece holds u q v r (62 ∷ 32 ∷ []) → Puts holds s o v r (before_full tag)
  tag_spelled s o t p u q v r tag e a b c =
      tag_put s o v r tag (((33 ∷ 60 ∷ []) ++ encode_utf8_all (encoded tag [])) ++ (62 ∷ 32 ∷ [])) (whole tag) e (tag_bytes tag)
      (adds_then holds s o u q v r ((33 ∷ 60 ∷ []) ++ encode_utf8_all (encoded tag [])) (62 ∷ 32 ∷ []) (adds_then holds s o t p u q (33 ∷ 60 ∷ []) (encode_utf8_all (encoded tag [])) a b) c)

  tag_lost : (s : S) (o p : O) (fault : Fault) (tag : List ℕ) → full_text tag ≡ whole tag → Misses holds stops s o p fault (((33 ∷ 60 ∷ []) ++ encode_utf8_all (encoded tag [])) ++ (62 ∷ 32 ∷ [])) → Fails holds stops s o p fault (before_full tag)
  tag_lost s o p fault tag e m = tag_cut s o p fault tag (((33 ∷ 60 ∷ []) ++ encode_utf8_all (encoded tag [])) ++ (62 ∷ 32 ∷ [])) (whole tag) e (tag_bytes tag) m

  pub tag_unopened : (s : S) (o p : O) (fault : Fault) (tag : List ℕ) → full_text tag ≡ whole tag → Misses holds stops s o p fault (33 ∷ 60 ∷ []) → Fails holds stops s o p fault (before_full tag)
  tag_unopened s o p fault tag e m = tag_lost s o p fault tag e (misses_more holds stops s o p fault (33 ∷ 60 ∷ []) (encode_utf8_all (encoded tag []) ++ (62 ∷ 32 ∷ [])) (((33 ∷ 60 ∷ []) ++ encode_utf8_all (encoded tag [])) ++ (62 ∷ 32 ∷ [])) m refl)

  pub tag_broken : (s : S) (o : O) (t : S) (p q : O) (fault : Fault) (tag : List ℕ) → full_text tag ≡ whole tag → TakesPiece holds s o t p (33 ∷ 60 ∷ []) → Misses holds stops t p q fault (encode_utf8_all (encoded tag [])) → Fails holds stops s o q fault (before_full tag)
  tag_broken s o t p q fault tag e a m =
      tag_lost s o q fault tag e (misses_more holds stops s o q fault ((33 ∷ 60 ∷ []) ++ encode_utf8_all (encoded tag [])) (62 ∷ 32 ∷ []) (((33 ∷ 60 ∷ []) ++ encode_utf8_all (encoded tag [])) ++ (62 ∷ 32 ∷ [])) (misses_later holds stops s o t p q fault (33 ∷ 60 ∷ []) (encode_utf8_all (encoded tag [])) a m) refl)

  pub tag_unclosed : (s : S) (o : O) (t : S) (p : O) (u : S) (q r : O) (fault : Fault) (tag : List ℕ) → full_text tag ≡ whole tag → TakesPiece holds s o t p (33 ∷ 60 ∷ []) → TakesPiece holds t p u q (encode_utf8_all (encoded tag [])) → Misses holds stops u q r fault (62 ∷ 32 ∷ []) → Fails holds stops s o r fault (before_full tag)
  tag_unclosed s o t p u q r fault tag e a b m =
      tag_lost s o r fault tag e (misses_later holds stops s o u q r fault ((33 ∷ 60 ∷ []) ++ encode_utf8_all (encoded tag [])) (62 ∷ 32 ∷ []) (adds_then holds s o t p u q (33 ∷ 60 ∷ []) (encode_utf8_all (encoded tag [])) a b) m)

  -- ---- a content behind its tag

  abbrev content_text : List ℕ → List ℕ → List ℕ
  content_text x more = 34 ∷ quoted (chars x) more

  pub content_put : (s : S) (o : O) (t : S) (p : O) (x : List ℕ) → TakesPiece holds s o t p (quoted_bytes x) → Puts holds s o t p (content_text x)
  content_put s o t p x a = puts_as holds s o t p (λ more. (34 ∷ quoted (chars x) []) ++ more) (content_text x) (puts_piece holds s o t p (quoted_bytes x) (34 ∷ quoted (chars x) []) a refl) (λ more. ap (λ z. 34 ∷ z) (sym (quoted_more (chars x) more)))

  pub content_cut : (s : S) (o p : O) (fault : Fault) (x : List ℕ) → Misses holds stops s o p fault (quoted_bytes x) → Fails holds stops s o p fault (content_text x)
  content_cut s o p fault x m = fails_as holds stops s o p fault (λ more. (34 ∷ quoted (chars x) []) ++ more) (content_text x) (fails_piece holds stops s o p fault (quoted_bytes x) (34 ∷ quoted (chars x) []) m refl) (λ more. ap (λ z. 34 ∷ z) (sym (quoted_more (chars x) more)))

-- ---- digits

digit_is : (d : ℕ) → d < 10 → hex_digit d ≡ 48 + d
digit_is d l = cond_both (nat_lt d 10) (48 + d) (55 + d) (λ z. z ≡ 48 + d) (λ _. refl) (λ e. absurd (grind (arith, nat_tests)))

one_digit : (n : ℕ) → n < 10 → hex_digit (n % 10) ∷ [] ≡ decimal n
one_digit n l =
    let e : n % 10 ≡ n = omega arith in
    ap (λ z. hex_digit z ∷ []) e ∙ ap (λ z. z ∷ []) (digit_is n l) ∙ sym (decimal_digit n l)

more_digits : (n : ℕ) → 10 ≤ n → n < 2 ^ 64 → decimal (n / 10) ++ (hex_digit (n % 10) ∷ []) ≡ decimal n
more_digits n l m = ap (λ z. decimal (n / 10) ++ (z ∷ [])) (digit_is (n % 10) (omega arith)) ∙ sym (decimal_step n l m)

module _ {S O : Type 0} (holds : S → O → Began → List ℕ → Type 0) (stops : O → Began → Fault → List ℕ → Type 0) where
  pub digit_put : (s : S) (o : O) (t : S) (p : O) (n : ℕ) (piece : List ℕ) → n < 10 → piece ≡ hex_digit (n % 10) ∷ [] → TakesPiece holds s o t p piece → TakesPiece holds s o t p (decimal n)
  digit_put s o t p n piece l e h = subst (TakesPiece holds s o t p) (e ∙ one_digit n l) h

  pub digit_cut : (s : S) (o p : O) (fault : Fault) (n : ℕ) (piece : List ℕ) → n < 10 → piece ≡ hex_digit (n % 10) ∷ [] → Misses holds stops s o p fault piece → Misses holds stops s o p fault (decimal n)
  digit_cut s o p fault n piece l e h = subst (Misses holds stops s o p fault) (e ∙ one_digit n l) h

  pub number_cut : (s : S) (o p : O) (fault : Fault) (n : ℕ) → 10 ≤ n → n < 2 ^ 64 → Misses holds stops s o p fault (decimal (n / 10)) → Misses holds stops s o p fault (decimal n)
  number_cut s o p fault n l m h = misses_more holds stops s o p fault (decimal (n / 10)) (hex_digit (n % 10) ∷ []) (decimal n) h (more_digits n l m)

  pub last_put : (s : S) (o : O) (t : S) (p : O) (u : S) (q : O) (n : ℕ) (piece : List ℕ) → 10 ≤ n → n < 2 ^ 64 → piece ≡ hex_digit (n % 10) ∷ [] → TakesPiece holds s o t p (decimal (n / 10)) → TakesPiece holds t p u q piece → TakesPiece holds s o u q (decimal n)
  last_put s o t p u q n piece l m e a b = subst (TakesPiece holds s o u q) (more_digits n l m) (adds_then holds s o t p u q (decimal (n / 10)) (hex_digit (n % 10) ∷ []) a (subst (TakesPiece holds t p u q) e b))

  pub last_cut : (s : S) (o : O) (t : S) (p q : O) (fault : Fault) (n : ℕ) (piece : List ℕ) → 10 ≤ n → n < 2 ^ 64 → piece ≡ hex_digit (n % 10) ∷ [] → TakesPiece holds s o t p (decimal (n / 10)) → Misses holds stops t p q fault piece → Misses holds stops s o q fault (decimal n)
  last_cut s o t p q fault n piece l m e a b = subst (Misses holds stops s o q fault) (more_digits n l m) (misses_later holds stops s o t p q fault (decimal (n / 10)) (hex_digit (n % 10) ∷ []) a (subst (Misses holds stops t p q fault) e b))
