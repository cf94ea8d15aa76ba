-- Proper trees: arranged they are proper, their marks are those of canonical text, and these give their tags and contents back.
use Rattle.std.proofs.Common.{◌≡◌, ℕ, suc, length, Some, None, ◌<◌, Bool, true, false, cond, nat_lt, nat_le, not, ◌&&◌, List, [], ◌∷◌, ◌++◌, inl, inr, refl, sym, ap, subst, arith, Ok}
use Rattle.std.proofs.lemmas.Bool.{cond_both, ltb-true}
use Rattle.std.proofs.lemmas.Str.{IsUtf8-from_is_utf8}
use Rattle.std.specs.Str.{is_utf8}
use Rattle.std.specs.Ordering.{is_gt}
use lib.Utf8.{scalar, scalars, scalar_cases, encode, encodes}
use lib.Pointwise.{bytes_decides}
use Rattle.yaml_definitions.specs.model.Tree.{Tree, Trees, Pairs, scalar as leaf, sequence, mapping, end, item, done, entry}
use Rattle.yaml_definitions.specs.model.Order.{tree_cmp, enter, arranged, arranged_trees, arranged_pairs}
use Rattle.std.specs.Prelude.{bytes_eq}
use Rattle.yaml_definitions.specs.canonical.Walk.{walk, firsts, is_again}
use Rattle.yaml_definitions.specs.model.Event.{full, double}
use Rattle.yaml_definitions.specs.model.Serial.{SerialNode, alias_at}
use Rattle.yaml_definitions.specs.canonical.Serialize.{anchor_name, is_anchored, anchored, anchor_of, serialize, serialize_all, serialize_pairs}
use Rattle.yaml_definitions.specs.canonical.TagText.{written_tag}
use Rattle.yaml_definitions.specs.model.Core.{resolve, collection_tag}
use Rattle.yaml_definitions.specs.model.Proper.{IsProper, AreProper, ArePairsProper}
use Rattle.yaml_definitions.specs.model.Limits.{tag_limit}
use Rattle.yaml_definitions.specs.model.Tag.{is_full, IsTag, default_tag}
use Rattle.yaml_definitions.proofs.Members.{and_both}
use Rattle.yaml_definitions.proofs.TagLaws.{AreBytes, IsWritten, written_bytes}
use Rattle.yaml_definitions.proofs.TextLaws.{IsName, IsAnchor, IsFine, AreFine, ArePairsFine}
use Rattle.yaml_definitions.proofs.UnfoldLaws.{Resolves, ResolvesAll, ResolvesPairs}

-- ---- the bytes of a text

bytes_append : (xs ys : List ℕ) → AreBytes xs → AreBytes ys → AreBytes (xs ++ ys)
bytes_append [] ys m n = n
bytes_append (x ∷ xs) ys m n = (m.0, bytes_append xs ys m.1 n)

pub low : (c : ℕ) → scalar c ≡ true → c < 1114112
low c h = elim (scalar_cases c h) [ inl a ↦ omega arith | inr a ↦ omega (arith, a.1) ]

encode_bytes : (c : ℕ) → c < 1114112 → AreBytes (encode c)
unfolding encode
encode_bytes c h =
    cond_both (nat_lt c 128) _ _ AreBytes (λ e. let l = ltb-true c 128 e in (omega arith, tt)) (λ n1.
    cond_both (nat_lt c 2048) _ _ AreBytes (λ e. let l = ltb-true c 2048 e in (omega arith, (omega arith, tt))) (λ n2.
    cond_both (nat_lt c 65536) _ _ AreBytes (λ e. let l = ltb-true c 65536 e in (omega arith, (omega arith, (omega arith, tt)))) (λ n3. (omega arith, (omega arith, (omega arith, (omega arith, tt)))))))

encodes_bytes : (cs : List ℕ) → scalars cs ≡ true → AreBytes (encodes cs)
encodes_bytes [] h = tt
encodes_bytes (c ∷ cs) h = let p = and_both (scalar c) (scalars cs) h in bytes_append (encode c) (encodes cs) (encode_bytes c (low c p.0)) (encodes_bytes cs p.1)

pub utf8_bytes : (bs : List ℕ) → is_utf8 bs ≡ true → AreBytes bs
utf8_bytes bs h = let u = IsUtf8-from_is_utf8 bs h in subst AreBytes u.1.1 (encodes_bytes u.0 u.1.0)

-- ---- arranged

proper_enter : (k v : Tree) (ps : Pairs) → IsProper k → IsProper v → ArePairsProper ps → ArePairsProper (enter k v ps)
unfolding IsProper
proper_enter k v done m n h = (m, n, tt)
proper_enter k v (entry j w ps) m n h = elim (is_gt (tree_cmp k j)) as (λ b. ArePairsProper (cond b (entry j w (enter k v ps)) (entry k v (entry j w ps))))
    [ true ↦ (h.0, h.1, proper_enter k v ps m n h.2) | false ↦ (m, n, h) ]

mutual
  unfolding arranged IsProper

  pub proper_arranged : (t : Tree) → IsProper t → IsProper (arranged t)
  proper_arranged (leaf g x) h = h
  proper_arranged (sequence g ts) h = (h.0, h.1, proper_trees ts h.2)
  proper_arranged (mapping g ps) h = (h.0, h.1, proper_pairs ps h.2)

  proper_trees : (ts : Trees) → AreProper ts → AreProper (arranged_trees ts)
  proper_trees end h = tt
  proper_trees (item t ts) h = (proper_arranged t h.0, proper_trees ts h.1)

  proper_pairs : (ps : Pairs) → ArePairsProper ps → ArePairsProper (arranged_pairs ps)
  proper_pairs done h = tt
  proper_pairs (entry k v ps) h = proper_enter (arranged k) (arranged v) (arranged_pairs ps) (proper_arranged k h.0) (proper_arranged v h.1) (proper_pairs ps h.2)

-- ---- read back

scalar_back : (g x : List ℕ) → resolve (full g) double x ≡ Ok (g, x) → resolve (written_tag 0 g) double x ≡ Ok (g, x)
unfolding written_tag resolve
scalar_back g x h = cond_both (bytes_eq g (default_tag 0)) _ _ (λ z. resolve z double x ≡ Ok (g, x)) (λ e. ap (λ z. Ok (z, x)) (sym ((bytes_decides g (default_tag 0)).0 e))) (λ e. h)

collection_back : (k : ℕ) (g : List ℕ) → collection_tag k (full g) ≡ Ok g → collection_tag k (written_tag k g) ≡ Ok g
unfolding written_tag collection_tag
collection_back k g h = cond_both (bytes_eq g (default_tag k)) _ _ (λ z. collection_tag k z ≡ Ok g) (λ e. ap (λ z. Ok z) (sym ((bytes_decides g (default_tag k)).0 e))) (λ e. h)

mutual
  unfolding IsProper

  pub proper_resolves : (t : Tree) → IsProper t → Resolves t
  proper_resolves (leaf g x) h = scalar_back g x h.2
  proper_resolves (sequence g ts) h = (collection_back 1 g h.1, trees_resolve ts h.2)
  proper_resolves (mapping g ps) h = (collection_back 2 g h.1, pairs_resolve ps h.2)

  trees_resolve : (ts : Trees) → AreProper ts → ResolvesAll ts
  trees_resolve end h = tt
  trees_resolve (item t ts) h = (proper_resolves t h.0, trees_resolve ts h.1)

  pairs_resolve : (ps : Pairs) → ArePairsProper ps → ResolvesPairs ps
  pairs_resolve done h = tt
  pairs_resolve (entry k v ps) h = (proper_resolves k h.0, proper_resolves v h.1, pairs_resolve ps h.2)

-- ---- marks

either : (b : Bool) (n : ℕ) (m : SerialNode) → IsFine m → IsFine (cond b (alias_at (anchor_name n)) m)
either true n m f = (n, refl)
either false n m f = f

tag_fine : (k : ℕ) (g : List ℕ) → IsTag g → IsWritten (written_tag k g)
unfolding is_full
tag_fine k g h = written_bytes k g (utf8_bytes g (and_both (is_utf8 g) (nat_le 1 (length g) && (nat_le (length g) tag_limit && not (bytes_eq g (33 ∷ [])))) h).0)

module _ (short : Tree → Bool) (repeated : List Tree) where
  anchor_fine : (t : Tree) (w : List Tree) → IsAnchor (anchor_of repeated t w)
  anchor_fine t w =
      let n : ℕ = suc (length (anchored repeated w)) in
      let name : IsName (anchor_name n) = (n, refl) in
      elim (is_anchored repeated t) as (λ b. IsAnchor (cond b (Some (anchor_name n)) None)) [ true ↦ name | false ↦ tt ]

  mutual
    unfolding walk serialize IsProper

    pub fine_mark : (t : Tree) (w : List Tree) → IsProper t → IsFine (serialize short repeated t w)
    fine_mark (leaf g x) w h = either (is_again short (leaf g x) w) _ _ (anchor_fine (leaf g x) w, tag_fine 0 g h.0, refl, h.1)
    fine_mark (sequence g ts) w h =
        either (is_again short (sequence g ts) w) _ _ (anchor_fine (sequence g ts) w, tag_fine 1 g h.0, refl, fine_marks ts (w ++ (sequence g ts ∷ [])) h.2)
    fine_mark (mapping g ps) w h =
        either (is_again short (mapping g ps) w) _ _ (anchor_fine (mapping g ps) w, tag_fine 2 g h.0, refl, fine_pairs ps (w ++ (mapping g ps ∷ [])) h.2)

    fine_marks : (ts : Trees) (w : List Tree) → AreProper ts → AreFine (serialize_all short repeated ts w)
    fine_marks end w h = tt
    fine_marks (item t ts) w h = (fine_mark t w h.0, fine_marks ts (w ++ firsts (walk short t w)) h.1)

    fine_pairs : (ps : Pairs) (w : List Tree) → ArePairsProper ps → ArePairsFine (serialize_pairs short repeated ps w)
    fine_pairs done w h = tt
    fine_pairs (entry k v ps) w h =
        let u : List Tree = w ++ firsts (walk short k w) in
        (fine_mark k w h.0, fine_mark v u h.1, fine_pairs ps (u ++ firsts (walk short v u)) h.2)
