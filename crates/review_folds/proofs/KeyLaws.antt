-- Keys that name items, and their ranks.
use Rattle.std.proofs.Common.{◌≡◌, ℕ, suc, ◌+◌, ◌<◌, ◌≤◌, inl, inr, Bool, true, false, ◌&&◌, Bor, List, [], ◌∷◌, ◌++◌, length, map, take, get_or, refl, sym, ◌∙◌, ap, subst, arith}
use Rattle.std.specs.Prelude.{Option, Some, None, bytes_eq}
use Rattle.std.specs.List.{slice_get}
use Rattle.std.proofs.lemmas.Bool.{cases_lt}
use Rattle.std.proofs.lemmas.List.{take_more, take_all, map-append}
use Rattle.std.proofs.lemmas.Option.{slice_get-get_or}
use lib.Pointwise.{bytes_decides}
use Rattle.yaml_definitions.specs.model.Tree.{Tree, scalar, sequence, mapping}
use Rattle.yaml_definitions.specs.model.Same.{same}
use Rattle.yaml_definitions.specs.model.Tag.{str_tag}
use Rattle.yaml_definitions.proofs.Members.{and_both}
use Rattle.yaml_tree.specs.declared.node.NodeId.{NodeId}
use Rattle.yaml_tree.specs.declared.shown.Inside.{Inside}
use Rattle.yaml_tree.specs.declared.shown.Inside.TheVariants as shown
use Rattle.yaml_tree.specs.declared.shown.Shown.{Shown}
use Rattle.yaml_store_rank.specs.Forests.{Forests, count, tree, rank, held_shown, IsRanked}
use Rattle.yaml_store_rank.proofs.ForestTrees.{scalar-shown, sequence-shown, mapping-shown}
use Rattle.review_folds.specs.declared.keys.Key.{Key}
use Rattle.review_folds.specs.Labels.{string, IsRankOf, IsKey, AreEach}

pub some-is : {X : Type 0} {x y : X} → Some x ≡ Some y → x ≡ y
some-is e = cc

pub none-some : {X : Type 0} {x : X} → None ≡ Some x → ⊥
none-some e = absurd (cc)

true-false : true ≡ false → ⊥
true-false e = absurd (cc)

-- ---- strings

pub string_is : (text : List ℕ) (t : Tree) → same (string text) t ≡ true → string text ≡ t
unfolding same
string_is text (scalar b y) h =
    let a = and_both (bytes_eq str_tag b) (bytes_eq text y) h in
    ap (λ z. scalar z text) ((bytes_decides str_tag b).0 a.0) ∙ ap (scalar b) ((bytes_decides text y).0 a.1)
string_is text (sequence b ts) h = absurd (cc)
string_is text (mapping b ps) h = absurd (cc)

module _ (f : Forests) (are : IsRanked f) (i : ℕ) (text : List ℕ) (n : Shown NodeId) (is : slice_get f.nodes i ≡ Some (held_shown n)) where
  pub string_scalar : (content : Bor (List ℕ)) → n.inside ≡ shown.Scalar content → (b : Bool) → b ≡ (bytes_eq str_tag n.tag.now && bytes_eq text content.now) → b ≡ same (string text) (tree f i)
  unfolding same
  string_scalar content e b h = h ∙ sym (ap (same (string text)) (scalar-shown f are i n is content e))

  pub string_other : ((content : Bor (List ℕ)) → n.inside ≡ shown.Scalar content → ⊥) → false ≡ same (string text) (tree f i)
  unfolding same
  string_other not = by n.inside refl
    where
      by : (x : Inside NodeId) → n.inside ≡ x → false ≡ same (string text) (tree f i)
      by (shown.Scalar content) e = absurd (not content e)
      by (shown.Sequence items) e = sym (ap (same (string text)) (sequence-shown f are i n is items e))
      by (shown.Mapping entries) e = sym (ap (same (string text)) (mapping-shown f are i n is entries e))

-- ---- ranks

module _ (f : Forests) (are : IsRanked f) where
  -- that of a node is the rank of all that are the same
  pub key_rank : (key : ℕ) → key < count f → IsRankOf f (tree f key) (Some (rank f key))
  key_rank key l i m = let e = (are.ranked key i l m).0 in (λ s. ap Some (e.1 s), λ q. e.0 (some-is q))

  pub number_there : (i : ℕ) → i < count f → slice_get f.ranks i ≡ Some (rank f i)
  number_there i l = slice_get-get_or f.ranks i 0 (omega (arith, l, are.long))

  pub found_rank : (text : List ℕ) (i : ℕ) (result : Option ℕ) → i < count f → same (string text) (tree f i) ≡ true → result ≡ Some (rank f i) → IsRankOf f (string text) result
  found_rank text i result l s e = subst (IsRankOf f (string text)) (sym e) (subst (λ t. IsRankOf f t (Some (rank f i))) (sym (string_is text (tree f i) s)) (key_rank i l))

pub no_rank : (f : Forests) (text : List ℕ) (n : ℕ) → count f ≤ n → ((i : ℕ) → i < n → same (string text) (tree f i) ≡ false) → IsRankOf f (string text) None
no_rank f text n m h i l = (λ s. absurd (true-false (sym s ∙ h i (omega (arith, l, m)))), λ q. absurd (none-some q))

-- one node more is another
pub other_more : (f : Forests) (text : List ℕ) (n : ℕ) → ((i : ℕ) → i < n → same (string text) (tree f i) ≡ false) → same (string text) (tree f n) ≡ false → (i : ℕ) → i < suc n → same (string text) (tree f i) ≡ false
other_more f text n h s i l = elim (cases_lt i n) [ inl low ↦ h i low | inr high ↦ let e : n ≡ i = omega (arith, high, l) in subst (λ z. same (string text) (tree f z) ≡ false) e s ]

-- ---- a key for each text

pub each_more : (f : Forests) (ts : List (List ℕ)) (ks : List Key) (t : List ℕ) (k : Key) → AreEach f ts ks → IsKey f t k → AreEach f (ts ++ (t ∷ [])) (ks ++ (k ∷ []))
each_more f [] [] t k h is = (is, tt)
each_more f [] (x ∷ ks) t k h is = absurd h
each_more f (s ∷ ts) [] t k h is = absurd h
each_more f (s ∷ ts) (x ∷ ks) t k h is = (h.0, each_more f ts ks t k h.1 is)

pub each_next : {B : Type 0} (h : B → List ℕ) (f : Forests) (ts : List B) (ks new : List Key) (i : ℕ) (d e : B) (k : Key) → i < length ts → e ≡ get_or ts i d → AreEach f (map h (take i ts)) ks → IsKey f (h e) k → new ≡ ks ++ (k ∷ []) → AreEach f (map h (take (i + 1) ts)) new
each_next h f ts ks new i d e k m q each is p =
    let more : map h (take (i + 1) ts) ≡ map h (take i ts) ++ (h e ∷ []) = ap (map h) (take_more ts i d m) ∙ map-append h (take i ts) (get_or ts i d ∷ []) ∙ ap (λ z. map h (take i ts) ++ (h z ∷ [])) (sym q) in
    subst (λ z. AreEach f z new) (sym more) (subst (AreEach f (map h (take i ts) ++ (h e ∷ []))) (sym p) (each_more f (map h (take i ts)) ks (h e) k each is))

pub each_whole : {B : Type 0} (h : B → List ℕ) (f : Forests) (ts : List B) (ks : List Key) (i : ℕ) → length ts ≤ i → AreEach f (map h (take i ts)) ks → AreEach f (map h ts) ks
each_whole h f ts ks i m each = subst (λ z. AreEach f (map h z) ks) (take_all i ts m) each
