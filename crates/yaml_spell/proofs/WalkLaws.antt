-- The walk by ranks, step by step.
use Rattle.std.proofs.Common.{◌≡◌, ℕ, ◌+◌, ◌<◌, ◌≤◌, true, false, cond, List, [], ◌∷◌, ◌++◌, length, map, drop, get_or, refl, sym, ◌∙◌, ap, subst, add-one}
use Rattle.std.specs.Str.{encode_utf8_all}
use Rattle.std.specs.Char.{encode_utf8}
use Rattle.std.proofs.Math.Seq.{drop-cons}
use Rattle.std.proofs.Math.ListN.{drop_of_length-le}
use Rattle.std.proofs.lemmas.List.{length-append}
use Rattle.std.proofs.lemmas.Str.{encodes-append}
use Rattle.yaml_definitions.specs.model.Tree.{Tree, Trees, Pairs, scalar, sequence, mapping}
use Rattle.yaml_definitions.specs.canonical.Spell.{short}
use Rattle.yaml_definitions.specs.canonical.TagText.{tag_text, written_tag}
use Rattle.yaml_tree.specs.TreeLists.{trees, pairs}
use Rattle.yaml_spell.specs.Known.{is_unseen}
use Rattle.yaml_spell.specs.NamesView.{RankStates, met_at}
use Rattle.yaml_spell.specs.Walked.{entered, noticed, noticed_all, noticed_pairs}
use Rattle.yaml_spell.specs.declared.names.State.{State}
use Rattle.yaml_spell.specs.declared.names.State.TheVariants.{Unseen, Seen, Repeated, Named}

-- ---- short nodes

pub brackets : (kind : ℕ) (tag more : List ℕ) → length (encode_utf8_all more) ≡ 2 → length (encode_utf8_all (tag_text (written_tag kind tag) ++ more)) ≡ length (encode_utf8_all (tag_text (written_tag kind tag))) + 2
brackets kind tag more e = ap length (encodes-append (tag_text (written_tag kind tag)) more) ∙ length-append (encode_utf8_all (tag_text (written_tag kind tag))) (encode_utf8_all more) ∙ ap (λ n. length (encode_utf8_all (tag_text (written_tag kind tag))) + n) e

pub two_square : length (encode_utf8_all (91 ∷ 93 ∷ [])) ≡ 2
unfolding encode_utf8
two_square = refl

pub square_bytes : encode_utf8_all (91 ∷ 93 ∷ []) ≡ 91 ∷ 93 ∷ []
unfolding encode_utf8
square_bytes = refl

pub two_curly : length (encode_utf8_all (123 ∷ 125 ∷ [])) ≡ 2
unfolding encode_utf8
two_curly = refl

-- ---- lists from a place on

pub drop_next : {A : Type 0} (xs : List A) (i : ℕ) (d : A) → i < length xs → drop i xs ≡ get_or xs i d ∷ drop (i + 1) xs
drop_next xs i d h = rw add-one (drop-cons xs i d h)

pub drop_item : {A : Type 0} (xs : List A) (i : ℕ) (x : A) → i < length xs → x ≡ get_or xs i x → drop i xs ≡ x ∷ drop (i + 1) xs
drop_item xs i x h e = drop_next xs i x h ∙ ap (λ z. z ∷ drop (i + 1) xs) (sym e)

-- ---- the first pass

module _ (rank : Tree → ℕ) where
  pub noticed_short : (t : Tree) (m : RankStates) → short t ≡ true → m ≡ noticed rank t m
  unfolding noticed
  noticed_short (scalar g x) m h = ap (λ b. cond b m (entered (m (rank (scalar g x))) (met_at (rank (scalar g x)) m) (met_at (rank (scalar g x)) m))) (sym h)
  noticed_short (sequence g ts) m h = ap (λ b. cond b m (entered (m (rank (sequence g ts))) (met_at (rank (sequence g ts)) m) (noticed_all rank ts (met_at (rank (sequence g ts)) m)))) (sym h)
  noticed_short (mapping g ps) m h = ap (λ b. cond b m (entered (m (rank (mapping g ps))) (met_at (rank (mapping g ps)) m) (noticed_pairs rank ps (met_at (rank (mapping g ps)) m)))) (sym h)

  outside : (s : State) (a b : RankStates) → is_unseen s ≡ false → entered s a b ≡ a
  outside Unseen a b h = absurd (cc)
  outside Seen a b h = refl
  outside Repeated a b h = refl
  outside (Named k) a b h = refl

  inside : (s : State) (a b : RankStates) → is_unseen s ≡ true → entered s a b ≡ b
  inside Unseen a b h = refl
  inside Seen a b h = absurd (cc)
  inside Repeated a b h = absurd (cc)
  inside (Named k) a b h = absurd (cc)

  stays : (t : Tree) (m n : RankStates) → short t ≡ false → is_unseen (m (rank t)) ≡ false → met_at (rank t) m ≡ cond (short t) m (entered (m (rank t)) (met_at (rank t) m) n)
  stays t m n h k = sym (outside (m (rank t)) (met_at (rank t) m) n k) ∙ ap (λ b. cond b m (entered (m (rank t)) (met_at (rank t) m) n)) (sym h)

  enters : (t : Tree) (m n : RankStates) → short t ≡ false → is_unseen (m (rank t)) ≡ true → n ≡ cond (short t) m (entered (m (rank t)) (met_at (rank t) m) n)
  enters t m n h k = sym (inside (m (rank t)) (met_at (rank t) m) n k) ∙ ap (λ b. cond b m (entered (m (rank t)) (met_at (rank t) m) n)) (sym h)

  pub noticed_again : (t : Tree) (m : RankStates) → short t ≡ false → is_unseen (m (rank t)) ≡ false → met_at (rank t) m ≡ noticed rank t m
  unfolding noticed
  noticed_again (scalar g x) m h k = stays (scalar g x) m _ h k
  noticed_again (sequence g ts) m h k = stays (sequence g ts) m _ h k
  noticed_again (mapping g ps) m h k = stays (mapping g ps) m _ h k

  pub noticed_scalar : (t : Tree) (g x : List ℕ) (m : RankStates) → t ≡ scalar g x → short t ≡ false → is_unseen (m (rank t)) ≡ true → met_at (rank t) m ≡ noticed rank t m
  unfolding noticed
  noticed_scalar t g x m e h k =
      subst (λ z. short z ≡ false → is_unseen (m (rank z)) ≡ true → met_at (rank z) m ≡ noticed rank z m) (sym e) (λ i j. enters (scalar g x) m (met_at (rank (scalar g x)) m) i j) h k

  pub noticed_sequence : (t : Tree) (g : List ℕ) (ts : Trees) (m n : RankStates) → t ≡ sequence g ts → short t ≡ false → is_unseen (m (rank t)) ≡ true → n ≡ noticed_all rank ts (met_at (rank t) m) → n ≡ noticed rank t m
  unfolding noticed
  noticed_sequence t g ts m n e h k f =
      f ∙ subst (λ z. short z ≡ false → is_unseen (m (rank z)) ≡ true → noticed_all rank ts (met_at (rank z) m) ≡ noticed rank z m) (sym e) (λ i j. enters (sequence g ts) m (noticed_all rank ts (met_at (rank (sequence g ts)) m)) i j) h k

  pub noticed_mapping : (t : Tree) (g : List ℕ) (ps : Pairs) (m n : RankStates) → t ≡ mapping g ps → short t ≡ false → is_unseen (m (rank t)) ≡ true → n ≡ noticed_pairs rank ps (met_at (rank t) m) → n ≡ noticed rank t m
  unfolding noticed
  noticed_mapping t g ps m n e h k f =
      f ∙ subst (λ z. short z ≡ false → is_unseen (m (rank z)) ≡ true → noticed_pairs rank ps (met_at (rank z) m) ≡ noticed rank z m) (sym e) (λ i j. enters (mapping g ps) m (noticed_pairs rank ps (met_at (rank (mapping g ps)) m)) i j) h k

  pub items_noticed : {X : Type 0} (f : X → Tree) (xs : List X) (i : ℕ) (d : X) (m n w : RankStates) → drop i xs ≡ d ∷ drop (i + 1) xs → noticed_all rank (trees (map f (drop i xs))) m ≡ w → n ≡ noticed rank (f d) m → noticed_all rank (trees (map f (drop (i + 1) xs))) n ≡ w
  unfolding noticed
  items_noticed f xs i d m n w l h e = ap (noticed_all rank (trees (map f (drop (i + 1) xs)))) e ∙ ap (λ z. noticed_all rank (trees (map f z)) m) (sym l) ∙ h

  pub items_done : {X : Type 0} (f : X → Tree) (xs : List X) (i : ℕ) (m w : RankStates) → length xs ≤ i → noticed_all rank (trees (map f (drop i xs))) m ≡ w → m ≡ w
  unfolding noticed
  items_done f xs i m w l h = ap (λ z. noticed_all rank (trees (map f z)) m) (sym (drop_of_length-le xs l)) ∙ h

  pub entries_noticed : {X : Type 0} (f : X → Tree × Tree) (xs : List X) (i : ℕ) (d : X) (m n o w : RankStates) → drop i xs ≡ d ∷ drop (i + 1) xs → noticed_pairs rank (pairs (map f (drop i xs))) m ≡ w
      → n ≡ noticed rank (f d).0 m → o ≡ noticed rank (f d).1 n → noticed_pairs rank (pairs (map f (drop (i + 1) xs))) o ≡ w
  unfolding noticed
  entries_noticed f xs i d m n o w l h e k =
      ap (noticed_pairs rank (pairs (map f (drop (i + 1) xs)))) (k ∙ ap (noticed rank (f d).1) e) ∙ ap (λ z. noticed_pairs rank (pairs (map f z)) m) (sym l) ∙ h

  pub entries_done : {X : Type 0} (f : X → Tree × Tree) (xs : List X) (i : ℕ) (m w : RankStates) → length xs ≤ i → noticed_pairs rank (pairs (map f (drop i xs))) m ≡ w → m ≡ w
  unfolding noticed
  entries_done f xs i m w l h = ap (λ z. noticed_pairs rank (pairs (map f z)) m) (sym (drop_of_length-le xs l)) ∙ h
