-- A text is that of one marked tree alone, and ends at one place.
use Rattle.std.proofs.Common.{◌≡◌, ℕ, zero, suc, ◌<◌, ◌+◌, true, false, List, [], ◌∷◌, ◌++◌, map, chars, IsAscii, refl, sym, ◌∙◌, ap, arith}
use Rattle.std.proofs.lemmas.Str.{chars-IsAscii, encodes-chars, scalars-chars, IsUtf8-from_is_utf8}
use Rattle.std.specs.Str.{is_utf8}
use lib.Utf8.{scalar, scalars, encodes}
use Rattle.std.specs.declared.option.Option.TheVariants.{None, Some}
use Rattle.std.specs.Int.Digits.{digits_of, AllBelowBase}
use Rattle.std.proofs.lemmas.Int.Digits.{same_from_digits_of, all_below_base_digits_of}
use Rattle.yaml_definitions.specs.model.Event.{Anchor, double, WrittenTag}
use Rattle.yaml_definitions.specs.model.Serial.{SerialNode, SerialNodes, SerialPairs, alias_at, scalar_at, sequence_at, mapping_at, end_serial, item_serial, done_serial, entry_serial}
use Rattle.yaml_definitions.specs.canonical.Serialize.{anchor_name}
use Rattle.yaml_definitions.specs.canonical.TagText.{tag_text}
use Rattle.yaml_definitions.specs.canonical.NodeText.{anchor_text, quoted, node_text, items_text, pairs_text}
use Rattle.yaml_definitions.proofs.Members.{and_both}
use Rattle.yaml_definitions.proofs.CharLaws.{heads, tails, char_once, no_quote}
use Rattle.yaml_definitions.proofs.TagLaws.{bracket, opens, IsWritten, tag_once, tag_opens}

-- what follows a number
abbrev pub Ends : List ℕ → Type 0
Ends [] = Unit {0}
Ends (c ∷ cs) = (d : ℕ) → d < 10 → c ≡ 48 + d → ⊥

abbrev Digits : List ℕ → Type 0
Digits = AllBelowBase 10

digits_once : (xs ys r s : List ℕ) → Digits xs → Digits ys → Ends r → Ends s → map (λ d. 48 + d) xs ++ r ≡ map (λ d. 48 + d) ys ++ s → (xs ≡ ys) × (r ≡ s)
digits_once [] [] r s m n a b e = (refl, e)
digits_once [] (y ∷ ys) [] s m n a b e = absurd (cc)
digits_once [] (y ∷ ys) (c ∷ r) s m n a b e = absurd (a y n.0 (let q : c ≡ 48 + y = cc in q))
digits_once (x ∷ xs) [] r [] m n a b e = absurd (cc)
digits_once (x ∷ xs) [] r (c ∷ s) m n a b e = absurd (b x m.0 (let q : c ≡ 48 + x = cc in q))
digits_once (x ∷ xs) (y ∷ ys) r s m n a b e =
    let p : 48 + x ≡ 48 + y = cc in
    let q : map (λ d. 48 + d) xs ++ r ≡ map (λ d. 48 + d) ys ++ s = cc in
    let i = digits_once xs ys r s m.1 n.1 a b q in
    let h : x ≡ y = omega arith in
    let j : xs ≡ ys = i.0 in
    (cc, i.1)

digits_below : (n : ℕ) → Digits (digits_of 10 n)
digits_below n = all_below_base_digits_of 10 n (omega arith)

-- ---- names

digits_ascii : (xs : List ℕ) → Digits xs → IsAscii (map (λ d. 48 + d) xs)
digits_ascii [] m i = omega arith
digits_ascii (x ∷ xs) m zero = let q = m.0 in omega arith
digits_ascii (x ∷ xs) m (suc i) = digits_ascii xs m.1 i

name_ascii : (n : ℕ) → IsAscii (anchor_name n)
unfolding anchor_name
name_ascii n zero = omega arith
name_ascii n (suc i) = digits_ascii (digits_of 10 n) (digits_below n) i

pub name_chars : (n : ℕ) → chars (anchor_name n) ≡ anchor_name n
name_chars n = chars-IsAscii (anchor_name n) (name_ascii n)

pub same_name : (n m : ℕ) → anchor_name n ≡ anchor_name m → n ≡ m
unfolding anchor_name
same_name n m e =
    let i = digits_once (digits_of 10 n) (digits_of 10 m) [] [] (digits_below n) (digits_below m) tt tt (ap (λ z. z ++ []) (tails e)) in
    same_from_digits_of 10 n m (omega arith) i.0

-- `aN`
abbrev pub IsName : List ℕ → Type 0
IsName name = (n : ℕ) × (name ≡ anchor_name n)

number_once : (n m : ℕ) (r s : List ℕ) → Ends r → Ends s → anchor_name n ++ r ≡ anchor_name m ++ s → (n ≡ m) × (r ≡ s)
unfolding anchor_name
number_once n m r s a b e =
    let i = digits_once (digits_of 10 n) (digits_of 10 m) r s (digits_below n) (digits_below m) a b (tails e) in
    (same_from_digits_of 10 n m (omega arith) i.0, i.1)

name_once : (a b r s : List ℕ) → IsName a → IsName b → Ends r → Ends s → chars a ++ r ≡ chars b ++ s → (a ≡ b) × (r ≡ s)
name_once a b r s p q x y e =
    let c = ap chars p.1 ∙ name_chars p.0 in
    let d = ap chars q.1 ∙ name_chars q.0 in
    let i = number_once p.0 q.0 r s x y (ap (λ z. z ++ r) (sym c) ∙ (e ∙ ap (λ z. z ++ s) d)) in
    (p.1 ∙ (ap anchor_name i.0 ∙ sym q.1), i.1)

abbrev pub IsAnchor : Anchor → Type 0
IsAnchor None = Unit {0}
IsAnchor (Some name) = IsName name

cancel : (xs r s : List ℕ) → xs ++ r ≡ xs ++ s → r ≡ s
cancel [] r s e = e
cancel (x ∷ xs) r s e = cancel xs r s (let q : xs ++ r ≡ xs ++ s = cc in q)

three : {a b c : ℕ} {r s : List ℕ} → ◌≡◌ {A = List ℕ} (a ∷ b ∷ c ∷ r) (a ∷ b ∷ c ∷ s) → r ≡ s
three e = tails (tails (tails e))

-- marks as canonical text has them
abbrev mutual
  pub IsFine : SerialNode → Type 0
  IsFine (alias_at name) = IsName name
  IsFine (scalar_at a g y x) = IsAnchor a × IsWritten g × (y ≡ double) × (is_utf8 x ≡ true)
  IsFine (sequence_at a g b ts) = IsAnchor a × IsWritten g × (b ≡ true) × AreFine ts
  IsFine (mapping_at a g b ps) = IsAnchor a × IsWritten g × (b ≡ true) × ArePairsFine ps

  pub AreFine : SerialNodes → Type 0
  AreFine end_serial = Unit {0}
  AreFine (item_serial t ts) = IsFine t × AreFine ts

  pub ArePairsFine : SerialPairs → Type 0
  ArePairsFine done_serial = Unit {0}
  ArePairsFine (entry_serial k v ps) = IsFine k × IsFine v × ArePairsFine ps

abbrev AreScalars : List ℕ → Type 0
AreScalars xs = scalars xs ≡ true

chars_once : (xs ys r s : List ℕ) → AreScalars xs → AreScalars ys → quoted xs r ≡ quoted ys s → (xs ≡ ys) × (r ≡ s)
chars_once [] [] r s m n e = (refl, tails e)
chars_once [] (y ∷ ys) r s m n e = let q = and_both (scalar y) (scalars ys) n in absurd (no_quote y (quoted ys s) r q.0 (sym e))
chars_once (x ∷ xs) [] r s m n e = let q = and_both (scalar x) (scalars xs) m in absurd (no_quote x (quoted xs r) s q.0 e)
chars_once (x ∷ xs) (y ∷ ys) r s m n e =
    let a = and_both (scalar x) (scalars xs) m in
    let b = and_both (scalar y) (scalars ys) n in
    let p = char_once x y (quoted xs r) (quoted ys s) a.0 b.0 e in
    let q = chars_once xs ys r s a.1 b.1 p.1 in
    (λ z. p.0 z ∷ q.0 z, q.1)

quoted_once : (xs ys r s : List ℕ) → is_utf8 xs ≡ true → is_utf8 ys ≡ true → quoted (chars xs) r ≡ quoted (chars ys) s → (xs ≡ ys) × (r ≡ s)
quoted_once xs ys r s m n e =
    let u = IsUtf8-from_is_utf8 xs m in
    let v = IsUtf8-from_is_utf8 ys n in
    let p = chars_once (chars xs) (chars ys) r s (scalars-chars xs u) (scalars-chars ys v) e in
    (sym (encodes-chars xs u) ∙ (ap encodes p.0 ∙ encodes-chars ys v), p.1)

node_once : (a b : Anchor) (k j : ℕ) (g h : WrittenTag) (r s : List ℕ) → k < 3 → j < 3 → IsAnchor a → IsAnchor b → IsWritten g → IsWritten h
    → anchor_text a (tag_text g ++ (bracket k ∷ r)) ≡ anchor_text b (tag_text h ++ (bracket j ∷ s)) → (a ≡ b) × (k ≡ j) × (g ≡ h) × (r ≡ s)
node_once None None k j g h r s c d x y m n e = let p = tag_once k j g h r s c d m n e in (refl, p.0, p.1, p.2)
node_once None (Some b) k j g h r s c d x y m n e = absurd (cc (tag_opens k g r _ 38 m e))
node_once (Some a) None k j g h r s c d x y m n e = absurd (cc (tag_opens j h s _ 38 n (sym e)))
node_once (Some a) (Some b) k j g h r s c d x y m n e =
    let p = name_once a b (32 ∷ (tag_text g ++ (bracket k ∷ r))) (32 ∷ (tag_text h ++ (bracket j ∷ s))) x y (λ d m q. omega arith) (λ d m q. omega arith) (tails e) in
    let q = tag_once k j g h r s c d m n (tails p.1) in
    (ap Some p.0, q.0, q.1, q.2)

-- the place of its kind
abbrev kind_at : SerialNode → ℕ
kind_at (alias_at name) = 3
kind_at (scalar_at a g y x) = 0
kind_at (sequence_at a g b ts) = 1
kind_at (mapping_at a g b ps) = 2

-- an alias and another node begin otherwise
no_star : (a : Anchor) (k : ℕ) (g : WrittenTag) (r s : List ℕ) → IsWritten g → anchor_text a (tag_text g ++ (bracket k ∷ r)) ≡ 42 ∷ s → ⊥
no_star None k g r s m e = cc (tag_opens k g r s 42 m e)
no_star (Some a) k g r s m e = omega (arith, heads e)

-- a node's first character closes nothing
no_close : (t : SerialNode) (r s : List ℕ) (c : ℕ) → IsFine t → node_text t r ≡ c ∷ s → opens c ≡ false → (c ≡ 42 → ⊥) → (c ≡ 38 → ⊥) → ⊥
unfolding node_text
no_close (alias_at n) r s c m e o x y = x (sym (heads e))
no_close (scalar_at (Some a) g w z) r s c m e o x y = y (sym (heads e))
no_close (sequence_at (Some a) g w z) r s c m e o x y = y (sym (heads e))
no_close (mapping_at (Some a) g w z) r s c m e o x y = y (sym (heads e))
no_close (scalar_at None g w z) r s c m e o x y = cc (tag_opens 0 g (quoted (chars z) r) s c m.1 e)
no_close (sequence_at None g w z) r s c m e o x y = cc (tag_opens 1 g (items_text [] z r) s c m.1 e)
no_close (mapping_at None g w z) r s c m e o x y = cc (tag_opens 2 g (pairs_text [] z r) s c m.1 e)

one_kind : (t u : SerialNode) (r s : List ℕ) → IsFine t → IsFine u → node_text t r ≡ node_text u s → kind_at t ≡ kind_at u
unfolding node_text
one_kind (alias_at n) (alias_at m) r s f g e = refl
one_kind (alias_at n) (scalar_at a h v x) r s f g e = absurd (no_star a 0 h _ _ g.1 (sym e))
one_kind (alias_at n) (sequence_at a h v x) r s f g e = absurd (no_star a 1 h _ _ g.1 (sym e))
one_kind (alias_at n) (mapping_at a h v x) r s f g e = absurd (no_star a 2 h _ _ g.1 (sym e))
one_kind (scalar_at a h v x) (alias_at m) r s f g e = absurd (no_star a 0 h _ _ f.1 e)
one_kind (sequence_at a h v x) (alias_at m) r s f g e = absurd (no_star a 1 h _ _ f.1 e)
one_kind (mapping_at a h v x) (alias_at m) r s f g e = absurd (no_star a 2 h _ _ f.1 e)
one_kind (scalar_at a h v x) (scalar_at b i w y) r s f g e = refl
one_kind (sequence_at a h v x) (sequence_at b i w y) r s f g e = refl
one_kind (mapping_at a h v x) (mapping_at b i w y) r s f g e = refl
one_kind (scalar_at a h v x) (sequence_at b i w y) r s f g e = (node_once a b 0 1 h i _ _ (omega arith) (omega arith) f.0 g.0 f.1 g.1 e).1
one_kind (scalar_at a h v x) (mapping_at b i w y) r s f g e = (node_once a b 0 2 h i _ _ (omega arith) (omega arith) f.0 g.0 f.1 g.1 e).1
one_kind (sequence_at a h v x) (scalar_at b i w y) r s f g e = (node_once a b 1 0 h i _ _ (omega arith) (omega arith) f.0 g.0 f.1 g.1 e).1
one_kind (sequence_at a h v x) (mapping_at b i w y) r s f g e = (node_once a b 1 2 h i _ _ (omega arith) (omega arith) f.0 g.0 f.1 g.1 e).1
one_kind (mapping_at a h v x) (scalar_at b i w y) r s f g e = (node_once a b 2 0 h i _ _ (omega arith) (omega arith) f.0 g.0 f.1 g.1 e).1
one_kind (mapping_at a h v x) (sequence_at b i w y) r s f g e = (node_once a b 2 1 h i _ _ (omega arith) (omega arith) f.0 g.0 f.1 g.1 e).1

-- what stands before an item is no closing bracket, nor the item's first character
abbrev Apart : List ℕ → Type 0
Apart before = (t : SerialNode) (r s : List ℕ) → IsFine t → (before ++ node_text t r ≡ 93 ∷ s → ⊥) × (before ++ node_text t r ≡ 125 ∷ s → ⊥)

none_before : Apart []
none_before t r s f = (λ e. no_close t r s 93 f e refl (λ q. omega arith) (λ q. omega arith), λ e. no_close t r s 125 f e refl (λ q. omega arith) (λ q. omega arith))

comma_before : Apart (44 ∷ 32 ∷ [])
comma_before t r s f = (λ e. omega (arith, heads e), λ e. omega (arith, heads e))

items_end : (ts : SerialNodes) (r : List ℕ) → Ends (items_text (44 ∷ 32 ∷ []) ts r)
unfolding node_text
items_end end_serial r = λ d m q. omega arith
items_end (item_serial t ts) r = λ d m q. omega arith

pairs_end : (ps : SerialPairs) (r : List ℕ) → Ends (pairs_text (44 ∷ 32 ∷ []) ps r)
unfolding node_text
pairs_end done_serial r = λ d m q. omega arith
pairs_end (entry_serial k v ps) r = λ d m q. omega arith

mutual
  unfolding node_text

  pub text_once : (t u : SerialNode) (r s : List ℕ) → IsFine t → IsFine u → Ends r → Ends s → node_text t r ≡ node_text u s → (t ≡ u) × (r ≡ s)
  text_once (alias_at n) (alias_at m) r s f g x y e =
      let p = name_once n m r s f g x y (tails e) in
      (ap alias_at p.0, p.1)
  text_once (scalar_at a h v i) (scalar_at b k w j) r s f g x y e =
      let p = node_once a b 0 0 h k (quoted (chars i) r) (quoted (chars j) s) (omega arith) (omega arith) f.0 g.0 f.1 g.1 e in
      let q = quoted_once i j r s f.3 g.3 p.3 in
      let o : v ≡ w = f.2 ∙ sym g.2 in
      (λ z. scalar_at (p.0 z) (p.2 z) (o z) (q.0 z), q.1)
  text_once (sequence_at a h v i) (sequence_at b k w j) r s f g x y e =
      let p = node_once a b 1 1 h k (items_text [] i r) (items_text [] j s) (omega arith) (omega arith) f.0 g.0 f.1 g.1 e in
      let q = items_once [] none_before i j r s f.3 g.3 p.3 in
      let o : v ≡ w = f.2 ∙ sym g.2 in
      (λ z. sequence_at (p.0 z) (p.2 z) (o z) (q.0 z), q.1)
  text_once (mapping_at a h v i) (mapping_at b k w j) r s f g x y e =
      let p = node_once a b 2 2 h k (pairs_text [] i r) (pairs_text [] j s) (omega arith) (omega arith) f.0 g.0 f.1 g.1 e in
      let q = pairs_once [] none_before i j r s f.3 g.3 p.3 in
      let o : v ≡ w = f.2 ∙ sym g.2 in
      (λ z. mapping_at (p.0 z) (p.2 z) (o z) (q.0 z), q.1)
  text_once t u r s f g x y e = let q : kind_at t ≡ kind_at u = one_kind t u r s f g e in absurd (omega arith)

  items_once : (before : List ℕ) → Apart before → (ts us : SerialNodes) (r s : List ℕ) → AreFine ts → AreFine us
      → items_text before ts r ≡ items_text before us s → (ts ≡ us) × (r ≡ s)
  items_once before b end_serial end_serial r s f g e = (refl, tails e)
  items_once before b end_serial (item_serial u us) r s f g e = absurd ((b u (items_text (44 ∷ 32 ∷ []) us s) r g.0).0 (sym e))
  items_once before b (item_serial t ts) end_serial r s f g e = absurd ((b t (items_text (44 ∷ 32 ∷ []) ts r) s f.0).0 e)
  items_once before b (item_serial t ts) (item_serial u us) r s f g e =
      let n = items_text (44 ∷ 32 ∷ []) ts r in
      let m = items_text (44 ∷ 32 ∷ []) us s in
      let p = text_once t u n m f.0 g.0 (items_end ts r) (items_end us s) (cancel before (node_text t n) (node_text u m) e) in
      let q = items_once (44 ∷ 32 ∷ []) comma_before ts us r s f.1 g.1 p.1 in
      (λ i. item_serial (p.0 i) (q.0 i), q.1)

  pairs_once : (before : List ℕ) → Apart before → (ps qs : SerialPairs) (r s : List ℕ) → ArePairsFine ps → ArePairsFine qs
      → pairs_text before ps r ≡ pairs_text before qs s → (ps ≡ qs) × (r ≡ s)
  pairs_once before b done_serial done_serial r s f g e = (refl, tails e)
  pairs_once before b done_serial (entry_serial j w qs) r s f g e = absurd ((b j (32 ∷ 58 ∷ 32 ∷ node_text w (pairs_text (44 ∷ 32 ∷ []) qs s)) r g.0).1 (sym e))
  pairs_once before b (entry_serial k v ps) done_serial r s f g e = absurd ((b k (32 ∷ 58 ∷ 32 ∷ node_text v (pairs_text (44 ∷ 32 ∷ []) ps r)) s f.0).1 e)
  pairs_once before b (entry_serial k v ps) (entry_serial j w qs) r s f g e =
      let n = pairs_text (44 ∷ 32 ∷ []) ps r in
      let m = pairs_text (44 ∷ 32 ∷ []) qs s in
      let nv : List ℕ = 32 ∷ 58 ∷ 32 ∷ node_text v n in
      let mw : List ℕ = 32 ∷ 58 ∷ 32 ∷ node_text w m in
      let p = text_once k j nv mw f.0 g.0 (λ d x y. omega arith) (λ d x y. omega arith) (cancel before (node_text k nv) (node_text j mw) e) in
      let o : node_text v n ≡ node_text w m = three p.1 in
      let q = text_once v w n m f.1 g.1 (pairs_end ps r) (pairs_end qs s) o in
      let i = pairs_once (44 ∷ 32 ∷ []) comma_before ps qs r s f.2 g.2 q.1 in
      (λ x. entry_serial (p.0 x) (q.0 x) (i.0 x), i.1)
