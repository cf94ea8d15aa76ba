-- The text of marks, in bytes: what a node takes beside those inside it that are written out and not short.
use Rattle.std.proofs.Common.{◌≡◌, ℕ, zero, suc, IsAscii, ◌+◌, ◌*◌, ◌≤◌, ◌<◌, ◌^◌, Bool, true, false, not, cond, nat_le, List, [], ◌∷◌, ◌++◌, map, length, refl, sym, ◌∙◌, ap, subst, arith, append_assoc, length-append}
use Rattle.std.specs.declared.option.Option.TheVariants.{None, Some}
use Rattle.std.proofs.lemmas.Str.{encodes-append, encodes-chars, IsUtf8-from_ascii}
use Rattle.std.proofs.lemmas.List.{length-map}
use Rattle.std.proofs.lemmas.Int.Digits.{length-digits_of-le, all_below_base_digits_of}
use Rattle.std.proofs.lemmas.Bool.Decides.{nat_tests}
use Rattle.std.specs.Char.{encode_utf8}
use Rattle.std.specs.Str.{encode_utf8_all, chars}
use Rattle.std.specs.List.{filter, position_or_len, prefix_len}
use Rattle.std.specs.Int.Digits.{digits_of, AllBelowBase}
use Rattle.yaml_definitions.specs.model.Limits.{text_limit}
use Rattle.yaml_definitions.specs.model.Tree.{Tree, Trees, Pairs, scalar, sequence, mapping, end, item, done, entry}
use Rattle.yaml_definitions.specs.model.Same.{same}
use Rattle.yaml_definitions.specs.model.Event.{Anchor, double}
use Rattle.yaml_definitions.specs.model.Serial.{SerialNode, alias_at, scalar_at, sequence_at, mapping_at}
use Rattle.yaml_definitions.specs.canonical.Walk.{Place, first, again, firsts, is_again, walk, walk_trees, walk_pairs}
use Rattle.yaml_definitions.specs.canonical.TagText.{written_tag, tag_text}
use Rattle.yaml_definitions.specs.canonical.CharText.{spell_char}
use Rattle.yaml_definitions.specs.canonical.Serialize.{anchor_name, is_anchored, anchored, anchor_of, alias_of, serialize, serialize_all, serialize_pairs}
use Rattle.yaml_definitions.specs.canonical.NodeText.{anchor_text, quoted, node_text, items_text, pairs_text}
use Rattle.yaml_definitions.specs.canonical.Spell.{text_len, short}
use Rattle.law_length.proofs.Sums.{total, total-join}
use Rattle.law_length.proofs.Walks.{longs, longs_join, longs_here}
use Rattle.law_length.proofs.Weights.{bytes, tag_bytes, content_bytes, count, count_pairs, own}

pub bytes-join : (a b : List ℕ) → bytes (a ++ b) ≡ bytes a + bytes b
unfolding bytes
bytes-join a b = ap length (encodes-append a b) ∙ length-append (encode_utf8_all a) (encode_utf8_all b)

-- an ASCII character takes one byte
one_byte : (c : ℕ) (m : List ℕ) → bytes (c ∷ []) ≡ 1 → bytes (c ∷ m) ≡ suc (bytes m)
one_byte c m e = omega (arith, e, bytes-join (c ∷ []) m)

len : (cs : List ℕ) → length (encode_utf8_all cs) ≡ bytes cs
unfolding bytes
len cs = refl

pub quoted_more : (cs more : List ℕ) → quoted cs more ≡ quoted cs [] ++ more
quoted_more [] more = refl
quoted_more (c ∷ cs) more = ap (λ z. spell_char c ++ z) (quoted_more cs more) ∙ sym (append_assoc (spell_char c) (quoted cs []) more)

-- ---- names

length_filter : (f : Tree → Bool) (l : List Tree) → length (filter f l) ≤ length l
length_filter f [] = omega arith
length_filter f (t ∷ l) = by (f t) (length_filter f l)
  where
    by : (b : Bool) → length (filter f l) ≤ length l → length (cond b (t ∷ filter f l) (filter f l)) ≤ suc (length l)
    by true h = omega (arith, h)
    by false h = omega (arith, h)

prefix_low : (g : Tree → Bool) (l : List Tree) → prefix_len g l ≤ length l
prefix_low g [] = omega arith
prefix_low g (t ∷ l) = by (g t) (prefix_low g l)
  where
    by : (b : Bool) → prefix_len g l ≤ length l → cond b (1 + prefix_len g l) 0 ≤ suc (length l)
    by true h = omega (arith, h)
    by false h = omega arith

position_low : (f : Tree → Bool) (l : List Tree) → position_or_len f l ≤ length l
position_low f l = prefix_low (λ x. not (f x)) l

digits_ascii : (xs : List ℕ) → AllBelowBase 10 xs → IsAscii (map (λ d. 48 + d) xs)
digits_ascii [] m i = omega arith
digits_ascii (x ∷ xs) m zero = let q = m.0 in omega arith
digits_ascii (x ∷ xs) m (suc i) = digits_ascii xs m.1 i

name_ascii : (n : ℕ) → IsAscii (anchor_name n)
unfolding anchor_name
name_ascii n zero = omega arith
name_ascii n (suc i) = digits_ascii (digits_of 10 n) (all_below_base_digits_of 10 n (omega arith)) i

name_light : (n : ℕ) → n ≤ text_limit → bytes (chars (anchor_name (suc n))) ≤ 9
unfolding bytes anchor_name
name_light n h =
    let e = ap length (encodes-chars (anchor_name (suc n)) (IsUtf8-from_ascii (anchor_name (suc n)) (name_ascii (suc n)))) in
    let small : suc n < 10 ^ 8 = omega (arith, h) in
    omega (arith, e, length-map (digits_of 10 (suc n)) (λ d. 48 + d), length-digits_of-le 10 8 (suc n) (omega arith) small)

alone : (bytes (38 ∷ []) ≡ 1) × (bytes (32 ∷ []) ≡ 1) × (bytes (42 ∷ []) ≡ 1) × (bytes (91 ∷ []) ≡ 1) × (bytes (93 ∷ []) ≡ 1) × (bytes (123 ∷ []) ≡ 1) × (bytes (125 ∷ []) ≡ 1) × (bytes (58 ∷ []) ≡ 1) × (bytes (44 ∷ 32 ∷ []) ≡ 2) × (bytes [] ≡ 0)
unfolding bytes encode_utf8
alone = (refl, refl, refl, refl, refl, refl, refl, refl, refl, refl)

anchor_light : (r : List Tree) (t : Tree) (before : List Tree) (more : List ℕ) → length before ≤ text_limit → bytes (anchor_text (anchor_of r t before) more) ≤ 11 + bytes more
anchor_light r t before more h = by (is_anchored r t)
  where
    n : ℕ
    n = length (anchored r before)

    name : List ℕ
    name = chars (anchor_name (suc n))

    by : (b : Bool) → bytes (anchor_text (cond b (Some (anchor_name (suc n))) None) more) ≤ 11 + bytes more
    by true = omega (arith, one_byte 38 (name ++ (32 ∷ more)) alone.0, bytes-join name (32 ∷ more), one_byte 32 more alone.1, name_light n (omega (arith, h, length_filter (is_anchored r) before)))
    by false = omega arith

alias_light : (r : List Tree) (t : Tree) (before : List Tree) (more : List ℕ) → length before ≤ text_limit → bytes (node_text (alias_at (alias_of r t before)) more) ≤ 75 + bytes more
unfolding node_text
alias_light r t before more h =
    let n = position_or_len (same t) (anchored r before) in
    omega (
      arith,
      one_byte 42 (chars (anchor_name (suc n)) ++ more) alone.2,
      bytes-join (chars (anchor_name (suc n))) more,
      name_light n (omega (arith, h, position_low (same t) (anchored r before), length_filter (is_anchored r) before)),
    )

-- ---- the nodes

firsts_join : (v w : List Place) → length (firsts (v ++ w)) ≡ length (firsts v) + length (firsts w)
firsts_join [] w = omega arith
firsts_join (first t ∷ v) w = omega (arith, firsts_join v w)
firsts_join (again t ∷ v) w = firsts_join v w

-- short nodes take few bytes
few : (n : ℕ) → nat_le n 64 ≡ true → n ≤ 64
few n h = grind (arith, nat_tests, h)

short_light : (t : Tree) → short t ≡ true → own t ≤ 64
unfolding short own node_text text_len tag_bytes content_bytes
short_light (scalar g x) h = let n = tag_text (written_tag 0 g) in omega (arith, bytes-join n (34 ∷ quoted (chars x) []), few (bytes (n ++ (34 ∷ quoted (chars x) []))) (subst (λ z. nat_le z 64 ≡ true) (len (n ++ (34 ∷ quoted (chars x) []))) h))
short_light (sequence g end) h = let n = tag_text (written_tag 1 g) in omega (arith, bytes-join n (91 ∷ 93 ∷ []), one_byte 91 (93 ∷ []) alone.3, alone.4, few (bytes (n ++ (91 ∷ 93 ∷ []))) (subst (λ z. nat_le z 64 ≡ true) (len (n ++ (91 ∷ 93 ∷ []))) h))
short_light (sequence g (item t ts)) h = absurd (cc)
short_light (mapping g done) h = let n = tag_text (written_tag 2 g) in omega (arith, bytes-join n (123 ∷ 125 ∷ []), one_byte 123 (125 ∷ []) alone.5, alone.6, few (bytes (n ++ (123 ∷ 125 ∷ []))) (subst (λ z. nat_le z 64 ≡ true) (len (n ++ (123 ∷ 125 ∷ []))) h))
short_light (mapping g (entry k v ps)) h = absurd (cc)

-- a node: again, short, or written out with its weight
here_light : (r : List Tree) (t : Tree) (before : List Tree) (w : List Place) (b : Bool) (m : SerialNode) (more : List ℕ)
    → length before + length (firsts (cond b (again t ∷ []) (first t ∷ w))) ≤ text_limit
    → (length (before ++ (t ∷ [])) + length (firsts w) ≤ text_limit → bytes (node_text m more) ≤ 11 + own t + total own (longs short w) + bytes more)
    → bytes (node_text (cond b (alias_at (alias_of r t before)) m) more) ≤ 75 + total own (longs short (cond b (again t ∷ []) (first t ∷ w))) + bytes more
unfolding total
here_light r t before w true m more h f = omega (arith, alias_light r t before more (omega (arith, h)))
here_light r t before w false m more h f =
    let e = longs_here short t w false in
    let g = f (omega (arith, h, length-append before (t ∷ []))) in
    by (short t) refl (subst (λ l. total own (longs short (first t ∷ w)) ≡ total own l) e refl) g
  where
    by : (s : Bool) → short t ≡ s → total own (longs short (first t ∷ w)) ≡ total own (cond s (longs short w) (t ∷ longs short w)) → bytes (node_text m more) ≤ 11 + own t + total own (longs short w) + bytes more
        → bytes (node_text m more) ≤ 75 + total own (longs short (first t ∷ w)) + bytes more
    by true e q g = omega (arith, q, g, short_light t e)
    by false e q g = omega (arith, q, g)

items_more : (sep a : List ℕ) → bytes sep ≤ 2 → bytes (sep ++ a) ≤ 2 + bytes a
items_more sep a h = omega (arith, h, bytes-join sep a)

after_first : (before : List Tree) (v w : List Place) → length before + length (firsts (v ++ w)) ≤ text_limit → (length before + length (firsts v) ≤ text_limit) × (length (before ++ firsts v) + length (firsts w) ≤ text_limit)
after_first before v w h = (omega (arith, h, firsts_join v w), omega (arith, h, firsts_join v w, length-append before (firsts v)))

longs_sum : (v w : List Place) → total own (longs short (v ++ w)) ≡ total own (longs short v) + total own (longs short w)
longs_sum v w = ap (total own) (longs_join short v w) ∙ total-join own (longs short v) (longs short w)

written_seq : (r : List Tree) (g : List ℕ) (ts : Trees) (before : List Tree) (inside more : List ℕ) (n : ℕ) → length before ≤ text_limit → bytes inside ≤ 1 + 77 * count ts + n + bytes more
    → bytes (anchor_text (anchor_of r (sequence g ts) before) (tag_text (written_tag 1 g) ++ (91 ∷ inside))) ≤ 11 + own (sequence g ts) + n + bytes more
unfolding own tag_bytes
written_seq r g ts before inside more n l h =
    omega (arith, h, anchor_light r (sequence g ts) before (tag_text (written_tag 1 g) ++ (91 ∷ inside)) l, bytes-join (tag_text (written_tag 1 g)) (91 ∷ inside), one_byte 91 inside alone.3)

written_map : (r : List Tree) (g : List ℕ) (ps : Pairs) (before : List Tree) (inside more : List ℕ) (n : ℕ) → length before ≤ text_limit → bytes inside ≤ 1 + 155 * count_pairs ps + n + bytes more
    → bytes (anchor_text (anchor_of r (mapping g ps) before) (tag_text (written_tag 2 g) ++ (123 ∷ inside))) ≤ 11 + own (mapping g ps) + n + bytes more
unfolding own tag_bytes
written_map r g ps before inside more n l h =
    omega (arith, h, anchor_light r (mapping g ps) before (tag_text (written_tag 2 g) ++ (123 ∷ inside)) l, bytes-join (tag_text (written_tag 2 g)) (123 ∷ inside), one_byte 123 inside alone.5)

written_scalar : (r : List Tree) (g x : List ℕ) (before : List Tree) (more : List ℕ) → length before ≤ text_limit
    → bytes (anchor_text (anchor_of r (scalar g x) before) (tag_text (written_tag 0 g) ++ (34 ∷ quoted (chars x) more))) ≤ 11 + own (scalar g x) + bytes more
unfolding own tag_bytes content_bytes
written_scalar r g x before more l =
    let c : bytes (34 ∷ quoted (chars x) more) ≡ bytes (34 ∷ quoted (chars x) []) + bytes more = ap (λ z. bytes (34 ∷ z)) (quoted_more (chars x) more) ∙ bytes-join (34 ∷ quoted (chars x) []) more in
    omega (arith, anchor_light r (scalar g x) before (tag_text (written_tag 0 g) ++ (34 ∷ quoted (chars x) more)) l, bytes-join (tag_text (written_tag 0 g)) (34 ∷ quoted (chars x) more), c)

mutual
  unfolding walk serialize node_text

  pub node_light : (r : List Tree) (t : Tree) (before : List Tree) (more : List ℕ) → length before + length (firsts (walk short t before)) ≤ text_limit
      → bytes (node_text (serialize short r t before) more) ≤ 75 + total own (longs short (walk short t before)) + bytes more
  node_light r (scalar g x) before more h =
      here_light r (scalar g x) before [] (is_again short (scalar g x) before) (scalar_at (anchor_of r (scalar g x) before) (written_tag 0 g) double x) more h
      (λ l. omega (arith, written_scalar r g x before more (omega (arith, l, length-append before (scalar g x ∷ [])))))
  node_light r (sequence g ts) before more h =
      let b = before ++ (sequence g ts ∷ []) in
      here_light r (sequence g ts) before (walk_trees short ts b) (is_again short (sequence g ts) before) (sequence_at (anchor_of r (sequence g ts) before) (written_tag 1 g) true (serialize_all short r ts b)) more h
      (λ l. written_seq r g ts before (items_text [] (serialize_all short r ts b) more) more (total own (longs short (walk_trees short ts b))) (omega (arith, l, length-append before (sequence g ts ∷ [])))
      (items_light r ts b [] more (omega (arith, alone.9)) l))
  node_light r (mapping g ps) before more h =
      let b = before ++ (mapping g ps ∷ []) in
      here_light r (mapping g ps) before (walk_pairs short ps b) (is_again short (mapping g ps) before) (mapping_at (anchor_of r (mapping g ps) before) (written_tag 2 g) true (serialize_pairs short r ps b)) more h
      (λ l. written_map r g ps before (pairs_text [] (serialize_pairs short r ps b) more) more (total own (longs short (walk_pairs short ps b))) (omega (arith, l, length-append before (mapping g ps ∷ [])))
      (pairs_light r ps b [] more (omega (arith, alone.9)) l))

  items_light : (r : List Tree) (ts : Trees) (before : List Tree) (sep more : List ℕ) → bytes sep ≤ 2 → length before + length (firsts (walk_trees short ts before)) ≤ text_limit
      → bytes (items_text sep (serialize_all short r ts before) more) ≤ 1 + 77 * count ts + total own (longs short (walk_trees short ts before)) + bytes more
  items_light r end before sep more q h = omega (arith, one_byte 93 more alone.4)
  items_light r (item t ts) before sep more q h =
      let v = walk short t before in
      let b = before ++ firsts v in
      let a = after_first before v (walk_trees short ts b) h in
      let rest = items_text (44 ∷ 32 ∷ []) (serialize_all short r ts b) more in
      omega (arith, items_more sep (node_text (serialize short r t before) rest) q, node_light r t before rest a.0, items_light r ts b (44 ∷ 32 ∷ []) more (omega (arith, alone.8)) a.1, longs_sum v (walk_trees short ts b))

  pairs_light : (r : List Tree) (ps : Pairs) (before : List Tree) (sep more : List ℕ) → bytes sep ≤ 2 → length before + length (firsts (walk_pairs short ps before)) ≤ text_limit
      → bytes (pairs_text sep (serialize_pairs short r ps before) more) ≤ 1 + 155 * count_pairs ps + total own (longs short (walk_pairs short ps before)) + bytes more
  pairs_light r done before sep more q h = omega (arith, one_byte 125 more alone.6)
  pairs_light r (entry k v ps) before sep more q h =
      let wk = walk short k before in
      let after_key = before ++ firsts wk in
      let wv = walk short v after_key in
      let after_both = after_key ++ firsts wv in
      let wp = walk_pairs short ps after_both in
      let a = after_first before wk (wv ++ wp) h in
      let c = after_first after_key wv wp a.1 in
      let rest = pairs_text (44 ∷ 32 ∷ []) (serialize_pairs short r ps after_both) more in
      let value = node_text (serialize short r v after_key) rest in
      omega (
        arith,
        items_more sep (node_text (serialize short r k before) (32 ∷ 58 ∷ 32 ∷ value)) q,
        node_light r k before (32 ∷ 58 ∷ 32 ∷ value) a.0,
        one_byte 32 (58 ∷ 32 ∷ value) alone.1,
        one_byte 58 (32 ∷ value) alone.7,
        one_byte 32 value alone.1,
        node_light r v after_key rest c.0,
        pairs_light r ps after_both (44 ∷ 32 ∷ []) more (omega (arith, alone.8)) c.1,
        longs_sum wk (wv ++ wp),
        longs_sum wv wp,
      )

-- ---- each node that is written out takes a byte

anchor_low : (a : Anchor) (more : List ℕ) → bytes more ≤ bytes (anchor_text a more)
anchor_low None more = omega arith
anchor_low (Some name) more = omega (arith, bytes-join (38 ∷ []) (chars name ++ (32 ∷ more)), bytes-join (chars name) (32 ∷ more), bytes-join (32 ∷ []) more)

head_low : (a : Anchor) (g : List ℕ) (c : ℕ) (inside : List ℕ) → bytes (c ∷ []) ≡ 1 → suc (bytes inside) ≤ bytes (anchor_text a (g ++ (c ∷ inside)))
head_low a g c inside e = omega (arith, anchor_low a (g ++ (c ∷ inside)), bytes-join g (c ∷ inside), one_byte c inside e)

here_low : (t : Tree) (w : List Place) (b : Bool) (name : List ℕ) (m : SerialNode) (more : List ℕ) → suc (length (firsts w)) + bytes more ≤ bytes (node_text m more)
    → length (firsts (cond b (again t ∷ []) (first t ∷ w))) + bytes more ≤ bytes (node_text (cond b (alias_at name) m) more)
unfolding node_text
here_low t w true name m more h = omega (arith, bytes-join (42 ∷ []) (chars name ++ more), bytes-join (chars name) more)
here_low t w false name m more h = omega (arith, h)

quote_alone : bytes (34 ∷ []) ≡ 1
unfolding bytes encode_utf8
quote_alone = refl

quoted_low : (cs more : List ℕ) → bytes more ≤ bytes (quoted cs more)
quoted_low cs more = omega (arith, ap bytes (quoted_more cs more), bytes-join (quoted cs []) more)

mutual
  unfolding walk serialize node_text

  pub firsts_low : (r : List Tree) (t : Tree) (before : List Tree) (more : List ℕ) → length (firsts (walk short t before)) + bytes more ≤ bytes (node_text (serialize short r t before) more)
  firsts_low r (scalar g x) before more =
      here_low (scalar g x) [] (is_again short (scalar g x) before) (alias_of r (scalar g x) before) (scalar_at (anchor_of r (scalar g x) before) (written_tag 0 g) double x) more
      (omega (arith, head_low (anchor_of r (scalar g x) before) (tag_text (written_tag 0 g)) 34 (quoted (chars x) more) quote_alone, quoted_low (chars x) more))
  firsts_low r (sequence g ts) before more =
      let b = before ++ (sequence g ts ∷ []) in
      here_low (sequence g ts) (walk_trees short ts b) (is_again short (sequence g ts) before) (alias_of r (sequence g ts) before) (sequence_at (anchor_of r (sequence g ts) before) (written_tag 1 g) true (serialize_all short r ts b)) more
      (omega (arith, head_low (anchor_of r (sequence g ts) before) (tag_text (written_tag 1 g)) 91 (items_text [] (serialize_all short r ts b) more) alone.3, items_low r ts b [] more))
  firsts_low r (mapping g ps) before more =
      let b = before ++ (mapping g ps ∷ []) in
      here_low (mapping g ps) (walk_pairs short ps b) (is_again short (mapping g ps) before) (alias_of r (mapping g ps) before) (mapping_at (anchor_of r (mapping g ps) before) (written_tag 2 g) true (serialize_pairs short r ps b)) more
      (omega (arith, head_low (anchor_of r (mapping g ps) before) (tag_text (written_tag 2 g)) 123 (pairs_text [] (serialize_pairs short r ps b) more) alone.5, pairs_low r ps b [] more))

  items_low : (r : List Tree) (ts : Trees) (before : List Tree) (sep more : List ℕ) → length (firsts (walk_trees short ts before)) + bytes more ≤ bytes (items_text sep (serialize_all short r ts before) more)
  items_low r end before sep more = omega (arith, one_byte 93 more alone.4)
  items_low r (item t ts) before sep more =
      let v = walk short t before in
      let b = before ++ firsts v in
      let rest = items_text (44 ∷ 32 ∷ []) (serialize_all short r ts b) more in
      omega (arith, bytes-join sep (node_text (serialize short r t before) rest), firsts_low r t before rest, items_low r ts b (44 ∷ 32 ∷ []) more, firsts_join v (walk_trees short ts b))

  pairs_low : (r : List Tree) (ps : Pairs) (before : List Tree) (sep more : List ℕ) → length (firsts (walk_pairs short ps before)) + bytes more ≤ bytes (pairs_text sep (serialize_pairs short r ps before) more)
  pairs_low r done before sep more = omega (arith, one_byte 125 more alone.6)
  pairs_low r (entry k v ps) before sep more =
      let wk = walk short k before in
      let after_key = before ++ firsts wk in
      let wv = walk short v after_key in
      let after_both = after_key ++ firsts wv in
      let wp = walk_pairs short ps after_both in
      let rest = pairs_text (44 ∷ 32 ∷ []) (serialize_pairs short r ps after_both) more in
      let value = node_text (serialize short r v after_key) rest in
      omega (
        arith,
        bytes-join sep (node_text (serialize short r k before) (32 ∷ 58 ∷ 32 ∷ value)),
        firsts_low r k before (32 ∷ 58 ∷ 32 ∷ value),
        bytes-join (32 ∷ 58 ∷ 32 ∷ []) value,
        firsts_low r v after_key rest,
        pairs_low r ps after_both (44 ∷ 32 ∷ []) more,
        firsts_join wk (wv ++ wp),
        firsts_join wv wp,
      )

-- ---- lines

-- `--- ` and LF
pub frame : (bytes (45 ∷ 45 ∷ 45 ∷ 32 ∷ []) ≡ 4) × (bytes (10 ∷ []) ≡ 1) × (bytes [] ≡ 0)
unfolding bytes encode_utf8
frame = (refl, refl, refl)
