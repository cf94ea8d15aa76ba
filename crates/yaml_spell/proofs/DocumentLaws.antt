-- The text of documents.
use Rattle.std.proofs.Common.{◌≡◌, ℕ, suc, ◌+◌, ◌<◌, Bool, true, false, ◌==◌, List, [], ◌∷◌, ◌++◌, length, map, drop, refl, sym, ◌∙◌, ap, subst, arith}
use Rattle.std.specs.Prelude.{None}
use Rattle.std.proofs.lemmas.Bool.{eqb-true}
use Rattle.std.proofs.lemmas.Bool.Decides.{nat_tests}
use Rattle.std.specs.List.{All}
use Rattle.std.specs.Char.{encode_utf8}
use Rattle.std.specs.Str.{encode_utf8_all}
use Rattle.yaml_text.specs.declared.fault.Fault.{Fault}
use Rattle.yaml_text.specs.declared.fault.Fault.TheVariants.{TextTooLong, OutOfMemory}
use Rattle.yaml_definitions.specs.model.Tree.{Tree, Trees, Pairs, sequence, mapping}
use Rattle.yaml_definitions.specs.model.Order.{arranged}
use Rattle.yaml_definitions.specs.model.Same.{same}
use Rattle.yaml_definitions.specs.model.Serial.{SerialNode}
use Rattle.yaml_definitions.specs.canonical.NodeText.{node_text}
use Rattle.yaml_definitions.specs.canonical.Spell.{serial_of, serial_of_arranged, spell, spell_bytes}
use Rattle.yaml_tree.specs.TreeLists.{trees, pairs}
use Rattle.yaml_tree.specs.View.{Inside, content, items, entries, InsideBelow, inside_tree}
use Rattle.yaml_spell.specs.declared.names.State.TheVariants.{Unseen}
use Rattle.yaml_spell.specs.NamesView.{Given}
use Rattle.yaml_spell.specs.Pieces.{Began, TakesPiece, Puts, Misses, Fails}
use Rattle.yaml_spell.specs.RankedNodes.{RanksTell}
use Rattle.yaml_spell.specs.Walked.{noticed, written}
use Rattle.yaml_definitions.specs.model.Limits.{text_limit}
use Rattle.yaml_spell.specs.declared.length.Length.{Length}
use Rattle.yaml_spell.specs.SinkViews.{len_of, limit_of}
use Rattle.yaml_spell.specs.Documents.{document_text, spell_more, arranged_text, arranged_more, arranged_bytes, RefusesLength, RefusesArranged}
use Rattle.yaml_spell.proofs.ShortLaws.{Holds, Stops}
use Rattle.yaml_spell.proofs.Linking.{OfAll, OfPairs, written_is}
use Rattle.yaml_spell.proofs.PieceLaws.{Left, puts_as, puts_piece, puts_then, fails_as, fails_piece, fails_later, fails_more, left_next}

bool_eq : (a b : Bool) → (a ≡ true → b ≡ true) → (b ≡ true → a ≡ true) → a ≡ b
bool_eq true b f g = sym (f refl)
bool_eq false true f g = g refl
bool_eq false false f g = refl

equal_test : (n m : ℕ) → n ≡ m → (n == m) ≡ true
equal_test n m e = grind (arith, nat_tests)

module _ (count : ℕ) (T : ℕ → Tree) (R : Tree → ℕ) (tells : RanksTell count T R) where
  abbrev Of : Tree → Type 0
  Of t = (i : ℕ) × (i < count) × (t ≡ T i)

  tell : (t u : Tree) → Of t → Of u → (R t == R u) ≡ same t u
  tell t u a b =
      let both = tells.tell a.0 b.0 a.1 b.1 in
      bool_eq (R t == R u) (same t u)
      (λ h. let q : R t ≡ R u = eqb-true (R t) (R u) h in
      subst (λ z. same z u ≡ true) (sym a.2) (subst (λ z. same (T a.0) z ≡ true) (sym b.2) (both.0 (sym (ap R a.2) ∙ q ∙ ap R b.2))))
      (λ h. equal_test (R t) (R u) (ap R a.2 ∙ both.1 (subst (λ z. same z (T b.0) ≡ true) a.2 (subst (λ z. same t z ≡ true) b.2 h)) ∙ sym (ap R b.2)))

  all-of : (is : List ℕ) → All (λ j. j < count) is → OfAll R Of tell (trees (map T is))
  all-of [] h = tt
  all-of (j ∷ is) h = ((j, h 0 j (omega arith), refl), all-of is (λ k d m. h (suc k) d (omega arith)))

  pairs-of : (es : List (ℕ × ℕ)) → All (λ p. (p.0 < count) × (p.1 < count)) es → OfPairs R Of tell (pairs (map (λ p. (T p.0, T p.1)) es))
  pairs-of [] h = tt
  pairs-of (p ∷ es) h =
      let b = h 0 p (omega arith) in
      ((p.0, b.0, refl), (p.1, b.1, refl), pairs-of es (λ k d m. h (suc k) d (omega arith)))

  in_sequence : (x : List ℕ) (ts : Trees) → Of (sequence x ts) → OfAll R Of tell ts
  in_sequence x ts o = let m = tells.made o.0 o.1 in by m.0.0 m.0.1 (o.2 ∙ m.2) m.1
    where
      by : (tag : List ℕ) (n : Inside) → sequence x ts ≡ inside_tree T tag n → InsideBelow count n → OfAll R Of tell ts
      by tag (content y) q h = absurd (cc)
      by tag (items is) q h = let f : ts ≡ trees (map T is) = cc in subst (OfAll R Of tell) (sym f) (all-of is h.0)
      by tag (entries es) q h = absurd (cc)

  in_mapping : (x : List ℕ) (ps : Pairs) → Of (mapping x ps) → OfPairs R Of tell ps
  in_mapping x ps o = let m = tells.made o.0 o.1 in by m.0.0 m.0.1 (o.2 ∙ m.2) m.1
    where
      by : (tag : List ℕ) (n : Inside) → mapping x ps ≡ inside_tree T tag n → InsideBelow count n → OfPairs R Of tell ps
      by tag (content y) q h = absurd (cc)
      by tag (items is) q h = absurd (cc)
      by tag (entries es) q h = let f : ps ≡ pairs (map (λ p. (T p.0, T p.1)) es) = cc in subst (OfPairs R Of tell) (sym f) (pairs-of es h.1)

  -- what is written of a root after both passes
  pub marks-there : (i : ℕ) (p : Given) → i < count → p ≡ (noticed R (T i) (λ _. Unseen), 0) → written R (T i) p ≡ serial_of_arranged (T i)
  marks-there i p l e = ap (written R (T i)) e ∙ written_is R Of tell in_sequence in_mapping (T i) (i, l, refl)

-- ---- pieces of a document

start_bytes : encode_utf8_all (45 ∷ 45 ∷ 45 ∷ 32 ∷ []) ≡ 45 ∷ 45 ∷ 45 ∷ 32 ∷ []
unfolding encode_utf8
start_bytes = refl

end_bytes : encode_utf8_all (10 ∷ []) ≡ 10 ∷ []
unfolding encode_utf8
end_bytes = refl

module _ {S O : Type 0} (holds : S → O → Began → List ℕ → Type 0) (stops : O → Began → Fault → List ℕ → Type 0) where
  abbrev opened : SerialNode → List ℕ → List ℕ
  opened m more = (45 ∷ 45 ∷ 45 ∷ 32 ∷ []) ++ node_text m more

  begun : (m : SerialNode) (s : S) (o : O) (t : S) (p : O) (u : S) (q : O) → TakesPiece holds s o t p (45 ∷ 45 ∷ 45 ∷ 32 ∷ []) → Puts holds t p u q (node_text m) → Puts holds s o u q (opened m)
  begun m s o t p u q a h = puts_then holds s o t p u q (λ more. (45 ∷ 45 ∷ 45 ∷ 32 ∷ []) ++ more) (node_text m) (puts_piece holds s o t p (45 ∷ 45 ∷ 45 ∷ 32 ∷ []) (45 ∷ 45 ∷ 45 ∷ 32 ∷ []) a start_bytes) h

  pub document_put : (t : Tree) (m : SerialNode) (s : S) (o : O) (v : S) (p : O) (u : S) (q : O) (x : S) (y : O) → m ≡ serial_of_arranged t → TakesPiece holds s o v p (45 ∷ 45 ∷ 45 ∷ 32 ∷ []) → Puts holds v p u q (node_text m) → TakesPiece holds u q x y (10 ∷ []) → Puts holds s o x y (arranged_text t)
  document_put t m s o v p u q x y e a h b =
      puts_as holds s o x y (λ more. opened m ((10 ∷ []) ++ more)) (arranged_text t) (puts_then holds s o u q x y (opened m) (λ more. (10 ∷ []) ++ more) (begun m s o v p u q a h) (puts_piece holds u q x y (10 ∷ []) (10 ∷ []) b end_bytes))
      (λ more. ap (λ z. 45 ∷ 45 ∷ 45 ∷ 32 ∷ node_text z (10 ∷ more)) e)

  pub document_broken : (t : Tree) (m : SerialNode) (s : S) (o : O) (v : S) (p q : O) (fault : Fault) → m ≡ serial_of_arranged t → TakesPiece holds s o v p (45 ∷ 45 ∷ 45 ∷ 32 ∷ []) → Fails holds stops v p q fault (node_text m) → Fails holds stops s o q fault (arranged_text t)
  document_broken t m s o v p q fault e a h =
      fails_as holds stops s o q fault (λ more. opened m (10 ∷ more)) (arranged_text t)
      (fails_later holds stops s o v p q fault (λ more. (45 ∷ 45 ∷ 45 ∷ 32 ∷ []) ++ more) (λ more. node_text m (10 ∷ more)) (puts_piece holds s o v p (45 ∷ 45 ∷ 45 ∷ 32 ∷ []) (45 ∷ 45 ∷ 45 ∷ 32 ∷ []) a start_bytes) (fails_more holds stops v p q fault (node_text m) (λ more. 10 ∷ more) h))
      (λ more. ap (λ z. 45 ∷ 45 ∷ 45 ∷ 32 ∷ node_text z (10 ∷ more)) e)

  pub document_unended : (t : Tree) (m : SerialNode) (s : S) (o : O) (v : S) (p : O) (u : S) (q y : O) (fault : Fault) → m ≡ serial_of_arranged t → TakesPiece holds s o v p (45 ∷ 45 ∷ 45 ∷ 32 ∷ []) → Puts holds v p u q (node_text m) → Misses holds stops u q y fault (10 ∷ []) → Fails holds stops s o y fault (arranged_text t)
  document_unended t m s o v p u q y fault e a h b =
      fails_as holds stops s o y fault (λ more. opened m ((10 ∷ []) ++ more)) (arranged_text t) (fails_later holds stops s o u q y fault (opened m) (λ more. (10 ∷ []) ++ more) (begun m s o v p u q a h) (fails_piece holds stops u q y fault (10 ∷ []) (10 ∷ []) b end_bytes))
      (λ more. ap (λ z. 45 ∷ 45 ∷ 45 ∷ 32 ∷ node_text z (10 ∷ more)) e)

  -- ---- documents one after the other

  module _ {X : Type 0} (f : X → Tree) (xs : List X) where
    split : (i : ℕ) (d : X) → drop i xs ≡ d ∷ drop (i + 1) xs → (more : List ℕ) → arranged_text (f d) (arranged_more (map f (drop (i + 1) xs)) more) ≡ arranged_more (map f (drop i xs)) more
    split i d l more = ap (λ z. arranged_more (map f z) more) (sym l)

    pub next_document : (whole : List ℕ → List ℕ) (i : ℕ) (d : X) (s : S) (o : O) (t : S) (p : O) (u : S) (q : O) → drop i xs ≡ d ∷ drop (i + 1) xs → Left holds s o t p (arranged_more (map f (drop i xs))) whole → Puts holds t p u q (arranged_text (f d)) → Left holds s o u q (arranged_more (map f (drop (i + 1) xs))) whole
    next_document whole i d s o t p u q l h k = left_next holds s o t p u q (arranged_more (map f (drop i xs))) whole (arranged_text (f d)) (arranged_more (map f (drop (i + 1) xs))) h k (split i d l)

-- arranged trees are written as the trees that they are made of
pub arranged_same : {X : Type 0} (f : X → Tree) (xs : List X) (more : List ℕ) → arranged_more (map (λ x. arranged (f x)) xs) more ≡ spell_more (map f xs) more
unfolding serial_of
arranged_same f [] more = refl
arranged_same f (x ∷ xs) more = ap (document_text (f x)) (arranged_same f xs more)

pub spell_whole : (f : List Tree) → encode_utf8_all (spell_more f []) ≡ spell_bytes f
unfolding spell_bytes spell
spell_whole f = ap encode_utf8_all (same_text f)
  where
    same_text : (h : List Tree) → spell_more h [] ≡ spell h
    same_text [] = refl
    same_text (t ∷ h) = ap (λ z. 45 ∷ 45 ∷ 45 ∷ 32 ∷ node_text (serial_of t) (10 ∷ z)) (same_text h)

-- ---- texts that are too long

-- why a length is not taken
pub length_refused : (ts : List Tree) (s : Length) (o p : Unit {0}) (fault : Fault) → len_of s ≡ 0 → limit_of s ≡ text_limit → Fails Holds Stops s o p fault (arranged_more ts) → RefusesArranged ts fault
length_refused ts s o p fault e l h =
    let z = h.is (record { number = text_limit; held = None }) [] [] (record { limit = l; len = e }) in
    subst (RefusesArranged ts) (sym z.too_long) z.longer

-- trees that are refused arranged are refused, where the text is the same
pub arranged_refused : (ts f : List Tree) (fault : Fault) → arranged_bytes ts ≡ spell_bytes f → RefusesArranged ts fault → RefusesLength f fault
arranged_refused ts f TextTooLong e h = subst (λ z. text_limit < length z) e h
arranged_refused ts f OutOfMemory e h = tt
arranged_refused ts f _ e h = absurd h
