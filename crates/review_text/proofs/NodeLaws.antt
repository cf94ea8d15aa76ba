-- Texts of nodes, as far as there is room for them.
use Rattle.std.proofs.Common.{inl, inr, ◌≡◌, ℕ, zero, suc, ◌+◌, ◌<◌, ◌≤◌, ◌==◌, nat_lt, Bool, true, false, cond, List, [], ◌∷◌, ◌++◌, length, map, take, drop, get_or, refl, sym, ◌∙◌, ap, ap₂, subst, arith, add-one}
use Rattle.std.specs.Prelude.{◌/◌, ◌%◌, if◌then◌else◌, bytes_eq, codes}
use Rattle.yaml_definitions.specs.grammar.Characters.{is_uri}
use Rattle.std.specs.Str.{encode_utf8_all, chars, IsUtf8}
use Rattle.std.specs.Char.{encode_utf8}
use Rattle.std.proofs.Math.Nat.{mod-eq_of_lt}
use Rattle.percent_encoding.specs.Percent.{percent_encode_byte}
use Rattle.std.proofs.Math.ListN.{drop_of_length-le}
use Rattle.std.proofs.lemmas.List.{append_assoc, append-nil, take-append-le}
use Rattle.std.proofs.lemmas.List.{length-append}
use Rattle.std.proofs.lemmas.List.Concat.{flat_map-append}
use Rattle.std.proofs.lemmas.Str.{encode_ascii, encodes-append, chars-encodes, chars-append, length-encode, len_utf8_bounds, len_utf8_ascii, length-le-encodes}
use Rattle.std.proofs.lemmas.Bool.{cond_both}
use Rattle.std.proofs.lemmas.Bool.Decides.{nat_tests}
use Rattle.std.specs.Prelude.{flat_map, Some}
use Rattle.std.specs.List.{slice_get}
use Rattle.yaml_definitions.specs.model.Tree.{Tree, Trees, Pairs, scalar, sequence, mapping, end, item, done, entry, a_scalar, a_sequence, a_mapping}
use Rattle.yaml_definitions.specs.model.Tag.{default_tag}
use Rattle.yaml_definitions.specs.model.Order.{arranged}
use Rattle.yaml_definitions.specs.model.Event.{untagged, full}
use Rattle.yaml_definitions.specs.canonical.NodeText.{node_text, items_text, pairs_text, quoted}
use Rattle.yaml_definitions.specs.canonical.TagText.{tag_text, written_tag, full_text, encoded, spell_byte}
use Rattle.yaml_definitions.specs.canonical.CharText.{hex_digit, is_plain, spell_char}
use Rattle.yaml_scalar.specs.Spelling.{quoted_bytes, spelled_chars}
use Rattle.yaml_scalar.proofs.SpellingLemmas.{quoted_more, spelled_is}
use Rattle.yaml_tree.specs.TreeLists.{trees, pairs}
use Rattle.review_text.specs.Fills.{Fills}
use Rattle.review_text.proofs.Pieces.{drop_next, drop_at}
use Rattle.review_text.specs.Shown.{IsLongFront}
use Rattle.review_text.specs.NodeText.{written_out, items_out, pairs_out, arranged_text, text_of, separator}

-- ---- texts that begin alike

pub alike_more : {X : Type 0} (n : ℕ) (a b t : List X) → take n a ≡ take n b → take n (a ++ t) ≡ take n (b ++ t)
alike_more zero a b t h = refl
alike_more (suc n) [] [] t h = refl
alike_more (suc n) [] (y ∷ b) t h = absurd cc
alike_more (suc n) (x ∷ a) [] t h = absurd cc
alike_more (suc n) (x ∷ a) (y ∷ b) t h =
    let e : x ≡ y = cc in
    let f : take n a ≡ take n b = cc in
    ap₂ ◌∷◌ e (alike_more n a b t f)

-- the same up to one byte past the room
abbrev pub Alike : ℕ → List ℕ → List ℕ → Type 0
Alike room a b = take (room + 1) a ≡ take (room + 1) b

-- a text is filled, and then another one
pub fills_then : (room : ℕ) (o a b t u : List ℕ) → Fills room o a t → Fills room a b u → Fills room o b (t ++ u)
fills_then room o a b t u h k = k ∙ alike_more (room + 1) a (o ++ t) u h ∙ ap (take (room + 1)) (append_assoc o t u)

pub fills_all : (room : ℕ) (o a t : List ℕ) → a ≡ o ++ t → Fills room o a t
fills_all room o a t e = ap (take (room + 1)) e

-- where there is no room left, nothing has to be added
pub fills_full : (room : ℕ) (o t : List ℕ) → room < length o → Fills room o o t
fills_full room o t l = sym (take-append-le (room + 1) o t (omega arith))

pub fills_as : (room : ℕ) (o a t u : List ℕ) → t ≡ u → Fills room o a t → Fills room o a u
fills_as room o a t u e h = subst (Fills room o a) e h

-- ---- what follows a text stays

shift : (f : List ℕ → List ℕ) → ((s : List ℕ) → f s ≡ f [] ++ s) → (x s : List ℕ) → f (x ++ s) ≡ f x ++ s
shift f h x s = h (x ++ s) ∙ sym (append_assoc (f []) x s) ∙ ap (λ z. z ++ s) (sym (h x))

behind : (g x y s : List ℕ) → x ≡ y ++ s → g ++ x ≡ (g ++ y) ++ s
behind g x y s e = ap (λ z. g ++ z) e ∙ sym (append_assoc g y s)

mutual
  unfolding node_text

  pub node_more : (t : Tree) (s : List ℕ) → node_text (written_out t) s ≡ node_text (written_out t) [] ++ s
  node_more (scalar a x) s = behind (tag_text (written_tag a_scalar a)) _ _ s (ap (λ z. 34 ∷ z) (quoted_more (chars x) s))
  node_more (sequence a ts) s = behind (tag_text (written_tag a_sequence a)) _ _ s (ap (λ z. 91 ∷ z) (items_more [] ts s))
  node_more (mapping a ps) s = behind (tag_text (written_tag a_mapping a)) _ _ s (ap (λ z. 123 ∷ z) (pairs_more [] ps s))

  items_more : (b : List ℕ) (ts : Trees) (s : List ℕ) → items_text b (items_out ts) s ≡ items_text b (items_out ts) [] ++ s
  items_more b end s = refl
  items_more b (item t ts) s =
      behind b _ _ s (ap (node_text (written_out t)) (items_more (44 ∷ 32 ∷ []) ts s) ∙ shift (node_text (written_out t)) (node_more t) (items_text (44 ∷ 32 ∷ []) (items_out ts) []) s)

  pairs_more : (b : List ℕ) (ps : Pairs) (s : List ℕ) → pairs_text b (pairs_out ps) s ≡ pairs_text b (pairs_out ps) [] ++ s
  pairs_more b done s = refl
  pairs_more b (entry k v ps) s =
      let e = pairs_text (44 ∷ 32 ∷ []) (pairs_out ps) [] in
      behind b _ _ s
      (ap (λ z. node_text (written_out k) (32 ∷ 58 ∷ 32 ∷ node_text (written_out v) z)) (pairs_more (44 ∷ 32 ∷ []) ps s)
      ∙ ap (λ z. node_text (written_out k) (32 ∷ 58 ∷ 32 ∷ z)) (shift (node_text (written_out v)) (node_more v) e s)
      ∙ shift (node_text (written_out k)) (node_more k) (32 ∷ 58 ∷ 32 ∷ node_text (written_out v) e) s)

-- the bytes of a node before other text
node_bytes : (t : Tree) (more : List ℕ) → encode_utf8_all (node_text (written_out t) more) ≡ arranged_text t ++ encode_utf8_all more
node_bytes t more = ap encode_utf8_all (node_more t more) ∙ encodes-append (node_text (written_out t) []) more

-- ---- items and entries, from a place on

module _ {X : Type 0} (f : X → Tree) (xs : List X) where
  -- the items from this place on, and the bracket
  abbrev pub items_left : ℕ → List ℕ
  items_left i = encode_utf8_all (items_text (separator i) (items_out (trees (map f (drop i xs)))) [])

  abbrev pub items_whole : List ℕ
  items_whole = encode_utf8_all (91 ∷ items_text [] (items_out (trees (map f xs))) [])

  items_split : (i : ℕ) (d : X) → i < length xs → items_left i ≡ encode_utf8_all (separator i) ++ (arranged_text (f (get_or xs i d)) ++ items_left (i + 1))
  unfolding node_text
  items_split i d l =
      ap (λ z. encode_utf8_all (items_text (separator i) (items_out (trees (map f z))) [])) (drop_next xs i d l)
      ∙ encodes-append (separator i) (node_text (written_out (f (get_or xs i d))) (items_text (44 ∷ 32 ∷ []) (items_out (trees (map f (drop (i + 1) xs)))) []))
      ∙ ap (λ z. encode_utf8_all (separator i) ++ z) (node_bytes (f (get_or xs i d)) (items_text (44 ∷ 32 ∷ []) (items_out (trees (map f (drop (i + 1) xs)))) []))
      ∙ ap (λ z. encode_utf8_all (separator i) ++ (arranged_text (f (get_or xs i d)) ++ encode_utf8_all (items_text (separator z) (items_out (trees (map f (drop (i + 1) xs)))) []))) (sym (add-one i))

  pub items_first : (room : ℕ) (old a : List ℕ) → a ≡ old ++ encode_utf8 91 → Alike room (a ++ items_left 0) (old ++ items_whole)
  items_first room old a e = ap (λ z. take (room + 1) (z ++ items_left 0)) e ∙ ap (take (room + 1)) (append_assoc old (encode_utf8 91) (items_left 0))

  pub items_step : (room i : ℕ) (d : X) (whole o a b : List ℕ) → i < length xs → Alike room (o ++ items_left i) whole → a ≡ o ++ encode_utf8_all (separator i) → Fills room a b (arranged_text (f (get_or xs i d)))
      → Alike room (b ++ items_left (i + 1)) whole
  items_step room i d whole o a b l h e k =
      let T = arranged_text (f (get_or xs i d)) in
      let r = items_left (i + 1) in
      alike_more (room + 1) b (a ++ T) r k
      ∙ ap (λ z. take (room + 1) ((z ++ T) ++ r)) e
      ∙ ap (take (room + 1)) (append_assoc (o ++ encode_utf8_all (separator i)) T r ∙ append_assoc o (encode_utf8_all (separator i)) (T ++ r) ∙ ap (λ z. o ++ z) (sym (items_split i d l)))
      ∙ h

  pub items_end : (room i : ℕ) (whole o a : List ℕ) → length xs ≤ i → Alike room (o ++ items_left i) whole → a ≡ o ++ encode_utf8 93 → Alike room a whole
  unfolding node_text
  items_end room i whole o a l h e =
      ap (take (room + 1)) (e ∙ ap (λ z. o ++ z) (sym (append-nil (encode_utf8 93)) ∙ ap (λ z. encode_utf8_all (items_text (separator i) (items_out (trees (map f z))) [])) (sym (drop_of_length-le xs l)))) ∙ h

-- where there is no room left, what is left need not be written
pub left_full : (room : ℕ) (whole o t : List ℕ) → room < length o → Alike room (o ++ t) whole → Alike room o whole
left_full room whole o t l h = sym (take-append-le (room + 1) o t (omega arith)) ∙ h

colon : encode_utf8_all (32 ∷ 58 ∷ 32 ∷ []) ≡ 32 ∷ 58 ∷ 32 ∷ []
unfolding encode_utf8
colon = refl

module _ {X : Type 0} (f : X → Tree × Tree) (xs : List X) where
  -- the entries from this place on, and the brace
  abbrev pub entries_left : ℕ → List ℕ
  entries_left i = encode_utf8_all (pairs_text (separator i) (pairs_out (pairs (map f (drop i xs)))) [])

  abbrev pub entries_whole : List ℕ
  entries_whole = encode_utf8_all (123 ∷ pairs_text [] (pairs_out (pairs (map f xs))) [])

  entries_split : (i : ℕ) (x : X) → slice_get xs i ≡ Some x → entries_left i ≡ encode_utf8_all (separator i) ++ (arranged_text (f x).0 ++ ((32 ∷ 58 ∷ 32 ∷ []) ++ (arranged_text (f x).1 ++ entries_left (i + 1))))
  unfolding node_text
  entries_split i x l =
      let k = (f x).0 in
      let v = (f x).1 in
      let e = pairs_text (44 ∷ 32 ∷ []) (pairs_out (pairs (map f (drop (i + 1) xs)))) [] in
      let S = encode_utf8_all (separator i) in
      ap (λ z. encode_utf8_all (pairs_text (separator i) (pairs_out (pairs (map f z))) [])) (drop_at xs i x l)
      ∙ encodes-append (separator i) (node_text (written_out k) (32 ∷ 58 ∷ 32 ∷ node_text (written_out v) e))
      ∙ ap (λ z. S ++ z)
      (node_bytes k (32 ∷ 58 ∷ 32 ∷ node_text (written_out v) e)
      ∙ ap (λ z. arranged_text k ++ z)
      (encodes-append (32 ∷ 58 ∷ 32 ∷ []) (node_text (written_out v) e) ∙ ap₂ ◌++◌ colon (node_bytes v e)
      ∙ ap (λ z. (32 ∷ 58 ∷ 32 ∷ []) ++ (arranged_text v ++ encode_utf8_all (pairs_text (separator z) (pairs_out (pairs (map f (drop (i + 1) xs)))) []))) (sym (add-one i))))

  pub entries_first : (room : ℕ) (old a : List ℕ) → a ≡ old ++ encode_utf8 123 → Alike room (a ++ entries_left 0) (old ++ entries_whole)
  entries_first room old a e = ap (λ z. take (room + 1) (z ++ entries_left 0)) e ∙ ap (take (room + 1)) (append_assoc old (encode_utf8 123) (entries_left 0))

  pub entries_step : (room i : ℕ) (x : X) (whole o a b c e : List ℕ) → slice_get xs i ≡ Some x → Alike room (o ++ entries_left i) whole → a ≡ o ++ encode_utf8_all (separator i) → Fills room a b (arranged_text (f x).0) → c ≡ b ++ (32 ∷ 58 ∷ 32 ∷ [])
      → Fills room c e (arranged_text (f x).1) → Alike room (e ++ entries_left (i + 1)) whole
  entries_step room i x whole o a b c e l h p k q m =
      let K = arranged_text (f x).0 in
      let V = arranged_text (f x).1 in
      let C = 32 ∷ 58 ∷ 32 ∷ [] in
      let S = encode_utf8_all (separator i) in
      let r = entries_left (i + 1) in
      alike_more (room + 1) e (c ++ V) r m
      ∙ ap (λ z. take (room + 1) ((z ++ V) ++ r)) q
      ∙ ap (take (room + 1)) (append_assoc (b ++ C) V r ∙ append_assoc b C (V ++ r))
      ∙ alike_more (room + 1) b (a ++ K) (C ++ (V ++ r)) k
      ∙ ap (λ z. take (room + 1) ((z ++ K) ++ (C ++ (V ++ r)))) p
      ∙ ap (take (room + 1)) (append_assoc (o ++ S) K (C ++ (V ++ r)) ∙ append_assoc o S (K ++ (C ++ (V ++ r))) ∙ ap (λ z. o ++ z) (sym (entries_split i x l)))
      ∙ h

  pub entries_end : (room i : ℕ) (whole o a : List ℕ) → length xs ≤ i → Alike room (o ++ entries_left i) whole → a ≡ o ++ encode_utf8 125 → Alike room a whole
  unfolding node_text
  entries_end room i whole o a l h e =
      ap (take (room + 1)) (e ∙ ap (λ z. o ++ z) (sym (append-nil (encode_utf8 125)) ∙ ap (λ z. encode_utf8_all (pairs_text (separator i) (pairs_out (pairs (map f z))) [])) (sym (drop_of_length-le xs l)))) ∙ h

-- ---- tags

pub byte_itself : (o : List ℕ) (b c : ℕ) → c ≡ b → is_uri c ≡ true → o ++ encode_utf8 c ≡ o ++ encode_utf8_all (spell_byte b)
unfolding spell_byte
byte_itself o b c e h = ap (λ z. o ++ z) (ap encode_utf8 e ∙ sym (append-nil (encode_utf8 b)) ∙ ap (λ z. encode_utf8_all (cond z (b ∷ []) (37 ∷ hex_digit (b / 16) ∷ hex_digit (b % 16) ∷ []))) (sym (ap is_uri (sym e) ∙ h)))

digit_low : (d : ℕ) → d < 16 → hex_digit d < 128
digit_low d l = cond_both (nat_lt d 10) (48 + d) (55 + d) (λ z. z < 128) (λ e. omega arith) (λ e. omega arith)

glyph_is : (low : Bool) (d : ℕ) → (if low then 48 + d else (if true then 55 + d else 87 + d)) ≡ cond low (48 + d) (55 + d)
glyph_is true d = refl
glyph_is false d = refl

-- a byte's escape is three bytes, as it is three characters
escaped_byte : (b : ℕ) → b < 256 → percent_encode_byte b ≡ encode_utf8_all (37 ∷ hex_digit (b / 16) ∷ hex_digit (b % 16) ∷ [])
unfolding percent_encode_byte
escaped_byte b l =
    let h : b / 16 < 16 = omega arith in
    let k : b % 16 < 16 = omega arith in
    ap₂ (λ x y. 37 ∷ x ∷ y ∷ []) (glyph_is (nat_lt (b / 16 % 16) 10) (b / 16 % 16) ∙ ap hex_digit (mod-eq_of_lt h)) (glyph_is (nat_lt (b % 16) 10) (b % 16))
    ∙ sym (ap₂ (λ x y. encode_utf8 37 ++ (x ++ (y ++ []))) (encode_ascii (hex_digit (b / 16)) (digit_low (b / 16) h)) (encode_ascii (hex_digit (b % 16)) (digit_low (b % 16) k)) ∙ ap (λ z. z ++ (hex_digit (b / 16) ∷ hex_digit (b % 16) ∷ [])) (encode_ascii 37 (omega arith)))

pub byte_escaped : (o z : List ℕ) (b c : ℕ) → b < 256 → c ≡ b → is_uri c ≡ false → z ≡ o ++ percent_encode_byte b → z ≡ o ++ encode_utf8_all (spell_byte b)
unfolding spell_byte
byte_escaped o z b c l e h p =
    p ∙ ap (λ w. o ++ w) (escaped_byte b l ∙ ap (λ w. encode_utf8_all (cond w (b ∷ []) (37 ∷ hex_digit (b / 16) ∷ hex_digit (b % 16) ∷ []))) (sym (ap is_uri (sym e) ∙ h)))

-- the bytes of a tag from this place on
abbrev pub encoded_left : List ℕ → ℕ → List ℕ
encoded_left tag i = encode_utf8_all (encoded (drop i tag) [])

pub encoded_next : (tag o a whole : List ℕ) (i b : ℕ) → (i < length tag) × (b ≡ get_or tag i 0) → o ++ encoded_left tag i ≡ whole → a ≡ o ++ encode_utf8_all (spell_byte b) → a ++ encoded_left tag (i + 1) ≡ whole
encoded_next tag o a whole i b l h e =
    let split : encoded_left tag i ≡ encode_utf8_all (spell_byte b) ++ encoded_left tag (i + 1) =
    ap (λ z. encode_utf8_all (encoded z [])) (drop_next tag i 0 l.0 ∙ ap (λ z. z ∷ drop (i + 1) tag) (sym l.1)) ∙ encodes-append (spell_byte b) (encoded (drop (i + 1) tag) []) in
    ap (λ z. z ++ encoded_left tag (i + 1)) e ∙ append_assoc o (encode_utf8_all (spell_byte b)) (encoded_left tag (i + 1)) ∙ ap (λ z. o ++ z) (sym split) ∙ h

pub encoded_all : (tag o whole : List ℕ) (i : ℕ) → length tag ≤ i → o ++ encoded_left tag i ≡ whole → o ≡ whole
encoded_all tag o whole i l h = sym (append-nil o) ∙ ap (λ z. o ++ encode_utf8_all (encoded z [])) (sym (drop_of_length-le tag l)) ∙ h

encoded_more : (tag more : List ℕ) → encoded tag more ≡ encoded tag [] ++ more
encoded_more [] more = refl
encoded_more (b ∷ bs) more = ap (λ z. spell_byte b ++ z) (encoded_more bs more) ∙ sym (append_assoc (spell_byte b) (encoded bs []) more)

tag_whole : (t : List ℕ) → encode_utf8_all (codes "!<" ++ encoded t (codes "> ")) ≡ codes "!<" ++ (encode_utf8_all (encoded t []) ++ codes "> ")
unfolding encode_utf8
tag_whole t = ap (λ w. codes "!<" ++ w) (ap encode_utf8_all (encoded_more t (codes "> ")) ∙ encodes-append (encoded t []) (codes "> "))

-- a kind's own tag is left out
pub tag_left_out : (o g own : List ℕ) → true ≡ bytes_eq g own → o ≡ o ++ encode_utf8_all (cond (bytes_eq g own) [] (full_text g))
tag_left_out o g own h = sym (append-nil o) ∙ ap (λ z. o ++ encode_utf8_all (cond z [] (full_text g))) h

pub tag_known : (o a g own known : List ℕ) → false ≡ bytes_eq g own → full_text g ≡ known → encode_utf8_all known ≡ known → a ≡ o ++ known → a ≡ o ++ encode_utf8_all (cond (bytes_eq g own) [] (full_text g))
tag_known o a g own known h e q p = p ∙ ap (λ z. o ++ z) (sym q ∙ ap encode_utf8_all (sym e)) ∙ ap (λ z. o ++ encode_utf8_all (cond z [] (full_text g))) h

pub tag_spelled : (o x y z g own : List ℕ) → false ≡ bytes_eq g own → full_text g ≡ codes "!<" ++ encoded g (codes "> ") → x ≡ o ++ codes "!<" → y ≡ x ++ encode_utf8_all (encoded g []) → z ≡ y ++ codes "> " → z ≡ o ++ encode_utf8_all (cond (bytes_eq g own) [] (full_text g))
tag_spelled o x y z g own h e p q r =
    let E = encode_utf8_all (encoded g []) in
    r ∙ ap (λ w. w ++ codes "> ") (q ∙ ap (λ w. w ++ E) p) ∙ append_assoc (o ++ codes "!<") E (codes "> ") ∙ append_assoc o (codes "!<") (E ++ codes "> ")
    ∙ ap (λ w. o ++ w) (sym (tag_whole g) ∙ ap encode_utf8_all (sym e)) ∙ ap (λ w. o ++ encode_utf8_all (cond w [] (full_text g))) h

by_tag : (b : Bool) (g : List ℕ) → cond b [] (full_text g) ≡ tag_text (cond b untagged (full g))
by_tag true g = refl
by_tag false g = refl

tag_is : (k : ℕ) (g own : List ℕ) → own ≡ default_tag k → cond (bytes_eq g own) [] (full_text g) ≡ tag_text (written_tag k g)
unfolding written_tag
tag_is k g own e = ap (λ z. cond (bytes_eq g z) [] (full_text g)) e ∙ by_tag (bytes_eq g (default_tag k)) g

-- ---- collections

abbrev tag_bytes : ℕ → List ℕ → List ℕ
tag_bytes k g = encode_utf8_all (tag_text (written_tag k g))

sequence_text : (g : List ℕ) (ts : Trees) → arranged_text (sequence g ts) ≡ tag_bytes a_sequence g ++ encode_utf8_all (91 ∷ items_text [] (items_out ts) [])
unfolding node_text
sequence_text g ts = encodes-append (tag_text (written_tag a_sequence g)) (91 ∷ items_text [] (items_out ts) [])

mapping_text : (g : List ℕ) (ps : Pairs) → arranged_text (mapping g ps) ≡ tag_bytes a_mapping g ++ encode_utf8_all (123 ∷ pairs_text [] (pairs_out ps) [])
unfolding node_text
mapping_text g ps = encodes-append (tag_text (written_tag a_mapping g)) (123 ∷ pairs_text [] (pairs_out ps) [])

tagged : (room k : ℕ) (g own old a b t : List ℕ) → own ≡ default_tag k → a ≡ old ++ encode_utf8_all (cond (bytes_eq g own) [] (full_text g)) → Fills room a b t → Fills room old b (tag_bytes k g ++ t)
tagged room k g own old a b t d e h = fills_then room old a b (tag_bytes k g) t (fills_all room old a (tag_bytes k g) (e ∙ ap (λ z. old ++ encode_utf8_all z) (tag_is k g own d))) h

pub sequence_filled : (room : ℕ) (g own old a b : List ℕ) (t : Tree) (ts : Trees) → own ≡ default_tag a_sequence → arranged t ≡ sequence g ts → a ≡ old ++ encode_utf8_all (cond (bytes_eq g own) [] (full_text g))
    → Fills room a b (encode_utf8_all (91 ∷ items_text [] (items_out ts) [])) → Fills room old b (text_of t)
sequence_filled room g own old a b t ts d e q h =
    fills_as room old b (tag_bytes a_sequence g ++ encode_utf8_all (91 ∷ items_text [] (items_out ts) [])) (text_of t) (sym (ap arranged_text e ∙ sequence_text g ts)) (tagged room a_sequence g own old a b _ d q h)

pub mapping_filled : (room : ℕ) (g own old a b : List ℕ) (t : Tree) (ps : Pairs) → own ≡ default_tag a_mapping → arranged t ≡ mapping g ps → a ≡ old ++ encode_utf8_all (cond (bytes_eq g own) [] (full_text g))
    → Fills room a b (encode_utf8_all (123 ∷ pairs_text [] (pairs_out ps) [])) → Fills room old b (text_of t)
mapping_filled room g own old a b t ps d e q h =
    fills_as room old b (tag_bytes a_mapping g ++ encode_utf8_all (123 ∷ pairs_text [] (pairs_out ps) [])) (text_of t) (sym (ap arranged_text e ∙ mapping_text g ps)) (tagged room a_mapping g own old a b _ d q h)

-- ---- scalars

-- a character's spelling is no shorter than the character
short_enough : (c n : ℕ) (cs : List ℕ) → length (encode_utf8 c) ≤ n → n ≤ length cs → length (encode_utf8 c) ≤ length (encode_utf8_all cs)
short_enough c n cs h l = let k = length-le-encodes cs in omega (arith, h, l, k)

of_one : (c d : ℕ) → (c == d) ≡ true → d < 128 → length (encode_utf8 c) ≤ 1
of_one c d e l = let h : c < 128 = grind (arith, nat_tests) in let a = length-encode c in let b = len_utf8_ascii c h in omega (arith, a, b)

of_four : (c : ℕ) → length (encode_utf8 c) ≤ 4
of_four c = let a = length-encode c in let b = len_utf8_bounds c in omega (arith, a, b.1)

itself_len : (c : ℕ) → length (encode_utf8 c) ≤ length (encode_utf8_all (c ∷ []))
itself_len c = let e = ap length (append-nil (encode_utf8 c)) in omega (arith, e)

abbrev by_two : ℕ → List ℕ
by_two c = 92 ∷ 120 ∷ hex_digit (c / 16) ∷ hex_digit (c % 16) ∷ []

abbrev by_four : ℕ → List ℕ
by_four c = 92 ∷ 117 ∷ hex_digit (c / 4096) ∷ hex_digit (c / 256 % 16) ∷ hex_digit (c / 16 % 16) ∷ hex_digit (c % 16) ∷ []

abbrev escaped : ℕ → List ℕ
escaped c = cond (nat_lt c 256) (by_two c) (by_four c)

abbrev NoShorter : ℕ → List ℕ → Type 0
NoShorter c cs = length (encode_utf8 c) ≤ length (encode_utf8_all cs)

abbrev two_or : ℕ → ℕ → ℕ → List ℕ → List ℕ
two_or c d e rest = cond (c == d) (92 ∷ e ∷ []) rest

two_len : (c d e : ℕ) (rest : List ℕ) → d < 128 → NoShorter c rest → NoShorter c (two_or c d e rest)
two_len c d e rest l h = cond_both (c == d) (92 ∷ e ∷ []) rest (NoShorter c) (λ q. short_enough c 1 (92 ∷ e ∷ []) (of_one c d q l) (omega arith)) (λ q. h)

escaped_len : (c : ℕ) → NoShorter c (escaped c)
escaped_len c = cond_both (nat_lt c 256) (by_two c) (by_four c) (NoShorter c) (λ q. short_enough c 4 (by_two c) (of_four c) (omega arith)) (λ q. short_enough c 4 (by_four c) (of_four c) (omega arith))

spelled_len : (c : ℕ) → NoShorter c (spell_char c)
unfolding spell_char
spelled_len c =
    two_len c 34 34 _ (omega arith) (two_len c 92 92 _ (omega arith) (two_len c 10 110 _ (omega arith) (two_len c 9 116 _ (omega arith)
    (cond_both (is_plain c) (c ∷ []) (escaped c) (NoShorter c) (λ q. itself_len c) (λ q. escaped_len c)))))

spelled_all : (cs : List ℕ) → length (encode_utf8_all cs) ≤ length (encode_utf8_all (flat_map spell_char cs))
spelled_all [] = omega arith
spelled_all (c ∷ cs) =
    let a = length-append (encode_utf8 c) (encode_utf8_all cs) in
    let b = ap length (encodes-append (spell_char c) (flat_map spell_char cs)) ∙ length-append (encode_utf8_all (spell_char c)) (encode_utf8_all (flat_map spell_char cs)) in
    let h = spelled_len c in
    let k = spelled_all cs in
    omega (arith, a, b, h, k)

spelled_piece : (x : List ℕ) → IsUtf8 x → length x ≤ length (spelled_chars x)
spelled_piece x u = subst (λ z. length z ≤ length (spelled_chars x)) (chars_spell x u) (spelled_all (chars x))
  where
    chars_spell : (y : List ℕ) → IsUtf8 y → encode_utf8_all (chars y) ≡ y
    chars_spell y w = subst (λ z. encode_utf8_all (chars z) ≡ z) w.1.1 (ap encode_utf8_all (chars-encodes w.0 w.1.0))

-- what is spelled of a piece is what is spelled of the whole content, as far as there is room
quoted_piece : (room : ℕ) (x y r a : List ℕ) → x ≡ y ++ r → IsUtf8 y → room ≤ length y → Alike room (a ++ quoted_bytes y) (a ++ quoted_bytes x)
quoted_piece room x y r a e u l =
    let s = spelled_chars y in
    let h = spelled_piece y u in
    let p = a ++ (34 ∷ s) in
    let n : room + 1 ≤ length p = let m = length-append a (34 ∷ s) in omega (arith, m, h, l) in
    let both : spelled_chars x ≡ s ++ spelled_chars r =
    ap spelled_chars e ∙ ap (λ z. encode_utf8_all (flat_map spell_char z)) (chars-append y r u) ∙ ap encode_utf8_all (flat_map-append spell_char (chars y) (chars r)) ∙ encodes-append (flat_map spell_char (chars y)) (flat_map spell_char (chars r)) in
    let one : a ++ quoted_bytes y ≡ p ++ (34 ∷ []) = ap (λ z. a ++ z) (spelled_is y) ∙ sym (append_assoc a (34 ∷ s) (34 ∷ [])) in
    let other : a ++ quoted_bytes x ≡ p ++ (spelled_chars r ++ (34 ∷ [])) =
    ap (λ z. a ++ z) (spelled_is x ∙ ap (λ z. 34 ∷ (z ++ (34 ∷ []))) both ∙ ap (λ z. 34 ∷ z) (append_assoc s (spelled_chars r) (34 ∷ []))) ∙ sym (append_assoc a (34 ∷ s) (spelled_chars r ++ (34 ∷ []))) in
    ap (take (room + 1)) one ∙ take-append-le (room + 1) p (34 ∷ []) n ∙ sym (take-append-le (room + 1) p (spelled_chars r ++ (34 ∷ [])) n) ∙ ap (take (room + 1)) (sym other)

piece_filled : (room : ℕ) (x y a : List ℕ) → IsLongFront room x y → Fills room a (a ++ quoted_bytes y) (quoted_bytes x)
piece_filled room x y a f = elim f.long [
  | inl l ↦ quoted_piece room x y f.rest a f.is f.whole l
  | inr e ↦ ap (λ z. take (room + 1) (a ++ quoted_bytes z)) e
]

scalar_text : (g x : List ℕ) → text_of (scalar g x) ≡ tag_bytes a_scalar g ++ quoted_bytes x
unfolding node_text arranged
scalar_text g x = encodes-append (tag_text (written_tag a_scalar g)) (34 ∷ quoted (chars x) [])

pub scalar_filled : (room : ℕ) (g own x y old a b : List ℕ) → own ≡ default_tag a_scalar → IsLongFront room x y → a ≡ old ++ encode_utf8_all (cond (bytes_eq g own) [] (full_text g)) → b ≡ a ++ quoted_bytes y → Fills room old b (text_of (scalar g x))
scalar_filled room g own x y old a b d f q e =
    fills_as room old b (tag_bytes a_scalar g ++ quoted_bytes x) (text_of (scalar g x)) (sym (scalar_text g x))
    (tagged room a_scalar g own old a b (quoted_bytes x) d q (subst (λ z. Fills room a z (quoted_bytes x)) (sym e) (piece_filled room x y a f)))

-- the same of a tree that is one
pub scalar_text_of : (g x : List ℕ) (t : Tree) → arranged t ≡ scalar g x → text_of (scalar g x) ≡ text_of t
unfolding arranged
scalar_text_of g x t e = ap arranged_text (sym e)
