-- The marks that a walk by ranks writes are those of the definition.
use Rattle.std.proofs.Common.{◌≡◌, ℕ, suc, ◌+◌, Bool, true, false, not, cond, ◌&&◌, ◌||◌, ◌==◌, List, [], ◌∷◌, ◌++◌, length, refl, sym, ◌∙◌, ap, subst, arith}
use Rattle.std.proofs.lemmas.List.{append_assoc, append-nil, length-append}
use Rattle.std.specs.List.{position_or_len}
use Rattle.std.specs.declared.option.Option.TheVariants.{None, Some}
use Rattle.yaml_definitions.specs.model.Tree.{Tree, Trees, Pairs, scalar, sequence, mapping, end, item, done, entry}
use Rattle.yaml_definitions.specs.model.Same.{same}
use Rattle.yaml_definitions.specs.canonical.Spell.{short, serial_of_arranged}
use Rattle.yaml_definitions.specs.model.Event.{Anchor, double}
use Rattle.yaml_definitions.specs.canonical.Serialize.{anchor_name}
use Rattle.yaml_definitions.specs.model.Serial.{SerialNode, scalar_at, sequence_at, mapping_at, item_serial, entry_serial}
use Rattle.yaml_definitions.specs.canonical.TagText.{written_tag}
use Rattle.yaml_definitions.proofs.Equivalence.{short_like}
use Rattle.yaml_spell.specs.Anchored.{has, alias_to, anchor_at, enrolled, serialized, serialized_all, serialized_pairs}
use Rattle.yaml_spell.specs.Anchored as twin
use Rattle.yaml_spell.specs.Repeats.{repeats_one, kept, kept_all, kept_pairs, repeats, repeats_all, repeats_pairs}
use Rattle.yaml_spell.specs.Repeats as seen
use Rattle.yaml_spell.specs.declared.names.State.{State}
use Rattle.yaml_spell.specs.declared.names.State.TheVariants.{Unseen, Seen, Repeated, Named}
use Rattle.yaml_spell.specs.declared.names.Opening.{Opening}
use Rattle.yaml_spell.specs.declared.names.Opening.TheVariants.{Plain, Anchored, Alias}
use Rattle.yaml_spell.specs.NamesView.{RankStates, Given, put, met_at, opening, rank_begun_by}
use Rattle.yaml_spell.specs.Known.{met_state}
use Rattle.yaml_spell.specs.Walked.{entered, noted, noticed, noticed_all, noticed_pairs, after, anchor_in, begun, start, started, given, given_all, given_pairs, written, written_all, written_pairs}
use Rattle.yaml_spell.proofs.Anchors.{Every, of_has, has_like, IsLong, agains_long, repeats_are}
use Rattle.yaml_spell.proofs.Markings.{marked_is}

-- ---- one more of a list

has_end : (xs : List Tree) (t u : Tree) → has (xs ++ (t ∷ [])) u ≡ has xs u || same u t
has_end [] t u = by (same u t)
  where
    by : (b : Bool) → (b || false) ≡ (false || b)
    by true = refl
    by false = refl
has_end (x ∷ xs) t u = ap (λ z. same u x || z) (has_end xs t u) ∙ regroup (same u x) (has xs u) (same u t)
  where
    regroup : (a b c : Bool) → (a || (b || c)) ≡ ((a || b) || c)
    regroup true b c = refl
    regroup false b c = refl

or_false : (a b : Bool) → b ≡ false → (a || b) ≡ a
or_false true b e = refl
or_false false b e = e

or_true : (a b : Bool) → b ≡ true → (a || b) ≡ true
or_true true b e = refl
or_true false b e = e

-- where a tree is found in a list that grew
found_before : (xs : List Tree) (t u : Tree) → has xs u ≡ true → position_or_len (same u) (xs ++ (t ∷ [])) ≡ position_or_len (same u) xs
found_before [] t u h = absurd (cc)
found_before (x ∷ xs) t u h = by (same u x) h (λ g. found_before xs t u g)
  where
    by : (b : Bool) → (b || has xs u) ≡ true → (has xs u ≡ true → position_or_len (same u) (xs ++ (t ∷ [])) ≡ position_or_len (same u) xs) → cond (not b) (1 + position_or_len (same u) (xs ++ (t ∷ []))) 0 ≡ cond (not b) (1 + position_or_len (same u) xs) 0
    by true g f = refl
    by false g f = ap (λ n. 1 + n) (f g)

found_last : (xs : List Tree) (t u : Tree) → has xs u ≡ false → same u t ≡ true → position_or_len (same u) (xs ++ (t ∷ [])) ≡ length xs
found_last [] t u h e = ap (λ b. cond (not b) 1 0) e
found_last (x ∷ xs) t u h e = by (same u x) h (λ g. found_last xs t u g e)
  where
    by : (b : Bool) → (b || has xs u) ≡ false → (has xs u ≡ false → position_or_len (same u) (xs ++ (t ∷ [])) ≡ length xs) → cond (not b) (1 + position_or_len (same u) (xs ++ (t ∷ []))) 0 ≡ suc (length xs)
    by true g f = absurd (cc)
    by false g f = let r = f g in omega arith

-- how a tree is known: the nodes that are kept, those that repeat, and those with a name
abbrev pub state_for : List Tree → List Tree → List Tree → Tree → State
state_for k r w t = cond (has w t) (Named (suc (position_or_len (same t) w))) (cond (has r t) Repeated (cond (has k t) Seen Unseen))

module _ (rank : Tree → ℕ) (Of : Tree → Type 0) (tell : (t u : Tree) → Of t → Of u → (rank t == rank u) ≡ same t u) where
  -- ---- the first pass

  pub record Knows (m : RankStates) (k r : List Tree) : Type 0 where
    pub is : (t : Tree) → Of t → m (rank t) ≡ state_for k r [] t
    pub within : (t : Tree) → has r t ≡ true → has k t ≡ true

  -- a node that was kept comes again
  again : (t : Tree) (m : RankStates) (k r : List Tree) → Of t → has k t ≡ true → Knows m k r → Knows (met_at (rank t) m) k (r ++ (t ∷ []))
  again t m k r o h n = record {
    is = λ u p. ap (λ b. cond b (met_state (m (rank t))) (m (rank u))) (tell u t p o) ∙ by (same u t) refl u p refl;
    within = λ u g. back (same u t) u refl (sym (has_end r t u) ∙ g);
  }
    where
      becomes : (a : Bool) → met_state (cond a Repeated (cond true Seen Unseen)) ≡ Repeated
      becomes true = refl
      becomes false = refl

      repeated_now : met_state (m (rank t)) ≡ Repeated
      repeated_now = ap met_state (n.is t o ∙ ap (λ b. cond (has r t) Repeated (cond b Seen Unseen)) h) ∙ becomes (has r t)

      by : (b : Bool) (c : b ≡ b) (u : Tree) → Of u → same u t ≡ b → cond b (met_state (m (rank t))) (m (rank u)) ≡ state_for k (r ++ (t ∷ [])) [] u
      by true c u p e = repeated_now ∙ ap (λ z. cond z Repeated (cond (has k u) Seen Unseen)) (sym (has_end r t u ∙ or_true (has r u) (same u t) e))
      by false c u p e = n.is u p ∙ ap (λ z. cond z Repeated (cond (has k u) Seen Unseen)) (sym (has_end r t u ∙ or_false (has r u) (same u t) e))

      back : (b : Bool) (u : Tree) → same u t ≡ b → (has r u || b) ≡ true → has k u ≡ true
      back true u e g = has_like k u t e ∙ h
      back false u e g = n.within u (sym (or_false (has r u) false refl) ∙ g)

  -- a node is met for the first time
  fresh : (t : Tree) (m : RankStates) (k r : List Tree) → Of t → has k t ≡ false → Knows m k r → Knows (met_at (rank t) m) (k ++ (t ∷ [])) r
  fresh t m k r o h n = record {
    is = λ u p. ap (λ b. cond b (met_state (m (rank t))) (m (rank u))) (tell u t p o) ∙ by (same u t) u p refl;
    within = λ u g. has_end k t u ∙ ap (λ z. z || same u t) (n.within u g);
  }
    where
      unrepeated : (b : Bool) → has r t ≡ b → b ≡ false
      unrepeated true e = sym (n.within t e) ∙ h
      unrepeated false e = refl

      none : has r t ≡ false
      none = unrepeated (has r t) refl

      seen_now : met_state (m (rank t)) ≡ Seen
      seen_now = ap met_state (n.is t o ∙ (λ z. cond (none z) Repeated (cond (h z) Seen Unseen)))

      by : (b : Bool) (u : Tree) → Of u → same u t ≡ b → cond b (met_state (m (rank t))) (m (rank u)) ≡ state_for (k ++ (t ∷ [])) r [] u
      by true u p e = seen_now ∙ sym (λ z. cond ((has_like r u t e ∙ none) z) Repeated (cond ((has_end k t u ∙ or_true (has k u) (same u t) e) z) Seen Unseen))
      by false u p e = n.is u p ∙ ap (λ z. cond (has r u) Repeated (cond z Seen Unseen)) (sym (has_end k t u ∙ or_false (has k u) (same u t) e))

  none_repeats : (t : Tree) (m : RankStates) (k r : List Tree) → has k t ≡ false → Knows m k r → has r t ≡ false
  none_repeats t m k r h n = by (has r t) refl
    where
      by : (b : Bool) → has r t ≡ b → b ≡ false
      by true e = sym (n.within t e) ∙ h
      by false e = refl

  met_before : (a : Bool) → Unseen ≡ cond a Repeated (cond true Seen Unseen) → ⊥
  met_before true e = cc
  met_before false e = cc

  -- one node, of which the inside is known
  node_linked : (t : Tree) (m : RankStates) (k r : List Tree) (inside : RankStates → RankStates) (kin rin : List Tree → List Tree) → Of t → Knows m k r → (short t ≡ true → (kin k ≡ k) × (rin k ≡ []))
      → ((n : RankStates) (l : List Tree) → Knows n l r → Knows (inside n) (kin l) (r ++ rin l)) → Knows (noted rank t m inside) (cond (repeats_one t k) k (kin (seen.noticed t k))) (r ++ cond (repeats_one t k) (t ∷ []) (rin (seen.noticed t k)))
  node_linked t m k r inside kin rin o n f g = by (short t) (has k t) (m (rank t)) refl refl refl
    where
      by : (b c : Bool) (s : State) → short t ≡ b → has k t ≡ c → m (rank t) ≡ s
          → Knows (cond b m (entered s (met_at (rank t) m) (inside (met_at (rank t) m)))) (cond (not b && c) k (kin (cond b k (k ++ (t ∷ []))))) (r ++ cond (not b && c) (t ∷ []) (rin (cond b k (k ++ (t ∷ [])))))
      by true c s e h i = let z = f e in subst (λ l. Knows m l (r ++ rin k)) (sym z.0) (subst (λ l. Knows m k l) (sym (ap (λ l. r ++ l) z.1 ∙ append-nil r)) n)
      by false true Unseen e h i = absurd (met_before (has r t) (sym i ∙ n.is t o ∙ ap (λ b. cond (has r t) Repeated (cond b Seen Unseen)) h))
      by false true Seen e h i = again t m k r o h n
      by false true Repeated e h i = again t m k r o h n
      by false true (Named x) e h i = again t m k r o h n
      by false false Unseen e h i = g (met_at (rank t) m) (k ++ (t ∷ [])) (fresh t m k r o h n)
      by false false Seen e h i = absurd (let z : Seen ≡ Unseen = sym i ∙ n.is t o ∙ (λ j. cond (none_repeats t m k r h n j) Repeated (cond (h j) Seen Unseen)) in cc)
      by false false Repeated e h i = absurd (let z : Repeated ≡ Unseen = sym i ∙ n.is t o ∙ (λ j. cond (none_repeats t m k r h n j) Repeated (cond (h j) Seen Unseen)) in cc)
      by false false (Named x) e h i = absurd (let z : Named x ≡ Unseen = sym i ∙ n.is t o ∙ (λ j. cond (none_repeats t m k r h n j) Repeated (cond (h j) Seen Unseen)) in cc)

  abbrev pub OfAll : Trees → Type 0
  OfAll end = Unit {0}
  OfAll (item t ts) = Of t × OfAll ts

  abbrev pub OfPairs : Pairs → Type 0
  OfPairs done = Unit {0}
  OfPairs (entry k v ps) = Of k × Of v × OfPairs ps

  short_items : (g : List ℕ) (ts : Trees) (k : List Tree) → short (sequence g ts) ≡ true → (kept_all ts k ≡ k) × (repeats_all ts k ≡ [])
  unfolding short kept repeats
  short_items g end k h = (refl, refl)
  short_items g (item t ts) k h = absurd (cc)

  short_entries : (g : List ℕ) (ps : Pairs) (k : List Tree) → short (mapping g ps) ≡ true → (kept_pairs ps k ≡ k) × (repeats_pairs ps k ≡ [])
  unfolding short kept repeats
  short_entries g done k h = (refl, refl)
  short_entries g (entry x y ps) k h = absurd (cc)

  module _ (in_sequence : (g : List ℕ) (ts : Trees) → Of (sequence g ts) → OfAll ts) (in_mapping : (g : List ℕ) (ps : Pairs) → Of (mapping g ps) → OfPairs ps) where
    mutual
      unfolding noticed kept repeats

      linked : (t : Tree) (m : RankStates) (k r : List Tree) → Of t → Knows m k r → Knows (noticed rank t m) (kept t k) (r ++ repeats t k)
      linked (scalar g x) m k r o n = node_linked (scalar g x) m k r (λ z. z) (λ l. l) (λ l. []) o n (λ _. (refl, refl)) (λ z l h. subst (λ y. Knows z l y) (sym (append-nil r)) h)
      linked (sequence g ts) m k r o n = node_linked (sequence g ts) m k r (noticed_all rank ts) (kept_all ts) (repeats_all ts) o n (short_items g ts k) (λ z l h. linked_all ts z l r (in_sequence g ts o) h)
      linked (mapping g ps) m k r o n = node_linked (mapping g ps) m k r (noticed_pairs rank ps) (kept_pairs ps) (repeats_pairs ps) o n (short_entries g ps k) (λ z l h. linked_pairs ps z l r (in_mapping g ps o) h)

      linked_all : (ts : Trees) (m : RankStates) (k r : List Tree) → OfAll ts → Knows m k r → Knows (noticed_all rank ts m) (kept_all ts k) (r ++ repeats_all ts k)
      linked_all end m k r o n = subst (λ y. Knows m k y) (sym (append-nil r)) n
      linked_all (item t ts) m k r o n =
          subst (λ y. Knows (noticed_all rank ts (noticed rank t m)) (kept_all ts (kept t k)) y) (append_assoc r (repeats t k) (repeats_all ts (kept t k))) (linked_all ts (noticed rank t m) (kept t k) (r ++ repeats t k) o.1 (linked t m k r o.0 n))

      linked_pairs : (ps : Pairs) (m : RankStates) (k r : List Tree) → OfPairs ps → Knows m k r → Knows (noticed_pairs rank ps m) (kept_pairs ps k) (r ++ repeats_pairs ps k)
      linked_pairs done m k r o n = subst (λ y. Knows m k y) (sym (append-nil r)) n
      linked_pairs (entry x v ps) m k r o n =
          subst (λ y. Knows (noticed_pairs rank ps (noticed rank v (noticed rank x m))) (kept_pairs ps (kept v (kept x k))) y)
          (append_assoc (r ++ repeats x k) (repeats v (kept x k)) (repeats_pairs ps (kept v (kept x k))) ∙ append_assoc r (repeats x k) (repeats v (kept x k) ++ repeats_pairs ps (kept v (kept x k))))
          (linked_pairs ps (noticed rank v (noticed rank x m)) (kept v (kept x k)) ((r ++ repeats x k) ++ repeats v (kept x k)) o.2 (linked v (noticed rank x m) (kept x k) (r ++ repeats x k) o.1 (linked x m k r o.0 n)))

    -- ---- the second pass, where `r` are the nodes that repeat

    module _ (k r : List Tree) (all_long : Every IsLong r) where
      long_one : (t : Tree) → has r t ≡ true → short t ≡ false
      long_one t h = of_has IsLong t r (λ x i l. short_like t x i ∙ l) all_long h

      pub record Names (p : Given) (w : List Tree) : Type 0 where
        pub is : (t : Tree) → Of t → p.0 (rank t) ≡ state_for k r w t
        pub count : p.1 ≡ length w
        pub within : (t : Tree) → has w t ≡ true → has r t ≡ true

      -- a node that comes again gets its name
      enroll : (t : Tree) (p : Given) (w : List Tree) → Of t → has w t ≡ false → has r t ≡ true → Names p w → Names (put (rank t) (Named (suc p.1)) p.0, suc p.1) (w ++ (t ∷ []))
      enroll t p w o h g n = record {
        is = λ u q. ap (λ b. cond b (Named (suc p.1)) (p.0 (rank u))) (tell u t q o) ∙ by (same u t) (has w u) u q refl refl;
        count = let c = n.count in omega (arith, length-append w (t ∷ []));
        within = λ u z. back (same u t) u refl (sym (has_end w t u) ∙ z);
      }
        where
          by : (b c : Bool) (u : Tree) → Of u → same u t ≡ b → has w u ≡ c → cond b (Named (suc p.1)) (p.0 (rank u)) ≡ state_for k r (w ++ (t ∷ [])) u
          by true c u q e f =
              let at : position_or_len (same u) (w ++ (t ∷ [])) ≡ p.1 = found_last w t u (has_like w u t e ∙ h) e ∙ sym n.count in
              let yes : has (w ++ (t ∷ [])) u ≡ true = has_end w t u ∙ or_true (has w u) (same u t) e in
              sym (λ z. cond (yes z) (Named (suc (at z))) (cond (has r u) Repeated (cond (has k u) Seen Unseen)))
          by false true u q e f =
              let yes : has (w ++ (t ∷ [])) u ≡ has w u = has_end w t u ∙ or_false (has w u) (same u t) e in
              n.is u q ∙ sym (λ z. cond (yes z) (Named (suc (found_before w t u f z))) (cond (has r u) Repeated (cond (has k u) Seen Unseen)))
          by false false u q e f =
              let no : has (w ++ (t ∷ [])) u ≡ false = has_end w t u ∙ or_false (has w u) (same u t) e ∙ f in
              n.is u q ∙ (λ z. cond (f z) (Named (suc (position_or_len (same u) w))) (cond (has r u) Repeated (cond (has k u) Seen Unseen)))
              ∙ sym (λ z. cond (no z) (Named (suc (position_or_len (same u) (w ++ (t ∷ []))))) (cond (has r u) Repeated (cond (has k u) Seen Unseen)))

          back : (b : Bool) (u : Tree) → same u t ≡ b → (has w u || b) ≡ true → has r u ≡ true
          back true u e z = has_like r u t e ∙ g
          back false u e z = n.within u (sym (or_false (has w u) false refl) ∙ z)

      module _ (t : Tree) (p : Given) (w : List Tree) (body : Anchor → Given → SerialNode) (twin_body : Anchor → List Tree → SerialNode) (gin : Given → Given) (nin : List Tree → List Tree) where
        abbrev at : Bool → State → Opening
        at b s = cond b Plain (opening p.1 s)

        abbrev then : Bool → State → Given
        then b s = cond b p (rank_begun_by (rank t) s p)

        abbrev Goal : Bool → Bool → Bool → State → Type 0
        Goal b cw cr s =
            (begun (at b s) (body (anchor_in (at b s)) (then b s)) ≡ cond cw (alias_to t w) (twin_body (cond cr (Some (anchor_name (suc (length w)))) None) (cond cr (w ++ (t ∷ [])) w)))
            × Names (after (at b s) (then b s) (gin (then b s))) (cond cw w (nin (cond cr (w ++ (t ∷ [])) w)))

      both : (b : Bool) → b ≡ true → b ≡ false → ⊥
      both true e h = absurd (cc)
      both false e h = absurd (cc)

      -- one node, of which the inside is known
      node_named : (t : Tree) (p : Given) (w : List Tree) (body : Anchor → Given → SerialNode) (twin_body : Anchor → List Tree → SerialNode) (gin : Given → Given) (nin : List Tree → List Tree) → Of t → Names p w
          → ((q : Given) (v : List Tree) → Names q v → ((a : Anchor) → body a q ≡ twin_body a v) × Names (gin q) (nin v))
          → (begun (start rank t p) (body (anchor_in (start rank t p)) (started rank t p)) ≡ cond (has w t) (alias_to t w) (twin_body (anchor_at r t w) (enrolled r t w)))
          × Names (after (start rank t p) (started rank t p) (gin (started rank t p))) (cond (has w t) w (nin (enrolled r t w)))
      node_named t p w body twin_body gin nin o n f = by (short t) (has w t) (has r t) refl refl refl
        where
          plain : (a : Bool) → Goal t p w body twin_body gin nin false false false (cond a Seen Unseen)
          plain true = let z = f p w n in (z.0 None, z.1)
          plain false = let z = f p w n in (z.0 None, z.1)

          by : (b cw cr : Bool) → short t ≡ b → has w t ≡ cw → has r t ≡ cr → Goal t p w body twin_body gin nin b cw cr (p.0 (rank t))
          by true true cr e h g = absurd (both (short t) e (long_one t (n.within t h)))
          by true false true e h g = absurd (both (short t) e (long_one t g))
          by true false false e h g = let z = f p w n in (z.0 None, z.1)
          by false true cr e h g =
              let s : p.0 (rank t) ≡ Named (suc (position_or_len (same t) w)) = n.is t o ∙ ap (λ b. cond b (Named (suc (position_or_len (same t) w))) (cond (has r t) Repeated (cond (has k t) Seen Unseen))) h in
              subst (λ z. Goal t p w body twin_body gin nin false true cr z) (sym s) (refl, n)
          by false false true e h g =
              let s : p.0 (rank t) ≡ Repeated = n.is t o ∙ (λ z. cond (h z) (Named (suc (position_or_len (same t) w))) (cond (g z) Repeated (cond (has k t) Seen Unseen))) in
              let z = f (put (rank t) (Named (suc p.1)) p.0, suc p.1) (w ++ (t ∷ [])) (enroll t p w o h g n) in
              subst (λ z. Goal t p w body twin_body gin nin false false true z) (sym s) (z.0 (Some (anchor_name (suc p.1))) ∙ ap (λ i. twin_body (Some (anchor_name (suc i))) (w ++ (t ∷ []))) n.count, z.1)
          by false false false e h g =
              let s : p.0 (rank t) ≡ cond (has k t) Seen Unseen = n.is t o ∙ (λ z. cond (h z) (Named (suc (position_or_len (same t) w))) (cond (g z) Repeated (cond (has k t) Seen Unseen))) in
              subst (λ z. Goal t p w body twin_body gin nin false false false z) (sym s) (plain (has k t))

      after_same : (o : Opening) (a : Given) → after o a a ≡ a
      after_same Plain a = refl
      after_same (Anchored i) a = refl
      after_same (Alias i) a = refl

      mutual
        unfolding written given serialized twin.noted

        named : (t : Tree) (p : Given) (w : List Tree) → Of t → Names p w → (written rank t p ≡ serialized r t w) × Names (given rank t p) (twin.noted r t w)
        named (scalar g x) p w o n =
            let z = node_named (scalar g x) p w (λ a q. scalar_at a (written_tag 0 g) double x) (λ a v. scalar_at a (written_tag 0 g) double x) (λ q. q) (λ v. v) o n (λ q v h. (λ a. refl, h)) in
            (z.0, subst (λ y. Names y (cond (has w (scalar g x)) w (enrolled r (scalar g x) w))) (after_same (start rank (scalar g x) p) (started rank (scalar g x) p)) z.1)
        named (sequence g ts) p w o n =
            node_named (sequence g ts) p w (λ a q. sequence_at a (written_tag 1 g) true (written_all rank ts q)) (λ a v. sequence_at a (written_tag 1 g) true (serialized_all r ts v)) (given_all rank ts) (twin.noted_all r ts) o n
            (λ q v h. let z = named_all ts q v (in_sequence g ts o) h in (λ a. ap (sequence_at a (written_tag 1 g) true) z.0, z.1))
        named (mapping g ps) p w o n =
            node_named (mapping g ps) p w (λ a q. mapping_at a (written_tag 2 g) true (written_pairs rank ps q)) (λ a v. mapping_at a (written_tag 2 g) true (serialized_pairs r ps v)) (given_pairs rank ps) (twin.noted_pairs r ps) o n
            (λ q v h. let z = named_pairs ps q v (in_mapping g ps o) h in (λ a. ap (mapping_at a (written_tag 2 g) true) z.0, z.1))

        named_all : (ts : Trees) (p : Given) (w : List Tree) → OfAll ts → Names p w → (written_all rank ts p ≡ serialized_all r ts w) × Names (given_all rank ts p) (twin.noted_all r ts w)
        named_all end p w o n = (refl, n)
        named_all (item t ts) p w o n =
            let a = named t p w o.0 n in
            let b = named_all ts (given rank t p) (twin.noted r t w) o.1 a.1 in
            (λ z. item_serial (a.0 z) (b.0 z), b.1)

        named_pairs : (ps : Pairs) (p : Given) (w : List Tree) → OfPairs ps → Names p w → (written_pairs rank ps p ≡ serialized_pairs r ps w) × Names (given_pairs rank ps p) (twin.noted_pairs r ps w)
        named_pairs done p w o n = (refl, n)
        named_pairs (entry x v ps) p w o n =
            let a = named x p w o.0 n in
            let b = named v (given rank x p) (twin.noted r x w) o.1 a.1 in
            let c = named_pairs ps (given rank v (given rank x p)) (twin.noted r v (twin.noted r x w)) o.2 b.1 in
            (λ z. entry_serial (a.0 z) (b.0 z) (c.0 z), c.1)

    -- what is written after both passes are the marks of the definition
    pub written_is : (t : Tree) → Of t → written rank t (noticed rank t (λ _. Unseen), 0) ≡ serial_of_arranged t
    written_is t o =
        let none : Knows (λ _. Unseen) [] [] = record { is = λ u p. refl; within = λ u h. h } in
        let n : Knows (noticed rank t (λ _. Unseen)) (kept t []) (repeats t []) = linked t (λ _. Unseen) [] [] o none in
        let long : Every IsLong (repeats t []) = subst (Every IsLong) (sym (repeats_are t)) (agains_long t []) in
        let all : Names (kept t []) (repeats t []) long (noticed rank t (λ _. Unseen), 0) [] = record { is = n.is; count = refl; within = λ u h. absurd (cc) } in
        (named (kept t []) (repeats t []) long t (noticed rank t (λ _. Unseen), 0) [] o all).0 ∙ marked_is t
