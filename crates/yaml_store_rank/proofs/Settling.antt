-- One node's parts are overwritten, and no others.
use Rattle.std.proofs.Common.{◌≡◌, inl, inr, ℕ, zero, suc, ◌+◌, ◌-◌, ◌<◌, List, [], ◌∷◌, ◌++◌, length, map, take, drop, get_or, add-one, refl, sym, ◌∙◌, ap, subst, arith, length-append, length-take, length-drop}
use Rattle.std.specs.Prelude.{Option, None, Some, MatchOption, Result, Ok, Err, IfOk}
use Rattle.std.proofs.Math.Seq.{take-suc}
use Rattle.std.specs.List.{slice_get, slice_range}
use Rattle.std.specs.List.Sorted.{IsPermutation}
use Rattle.std.proofs.lemmas.List.{length-map}
use Rattle.std.proofs.lemmas.List.Sorted.{length_permutation}
use Rattle.std.proofs.lemmas.List.Edits.{length-between}
use Rattle.std.proofs.lemmas.Slice.{between_is, take-put_mid_below, drop-put_mid, between-put_mid}
use borrow.Rule.Slice.PartMut.{put_mid}
use Rattle.yaml_tree.proofs.Lists.{get-more, push-get, take-get}
use Rattle.yaml_tree.proofs.Numbering.{get-there, get-within, one-there}
use Rattle.yaml_tree.specs.View.{items, entries}
use Rattle.yaml_tree.specs.Places.{IsFirstEqual}
use Rattle.yaml_store.specs.declared.nodes.Span.{Span}
use Rattle.yaml_store.specs.declared.nodes.Node.{Node}
use Rattle.yaml_store.specs.declared.nodes.Place.{Place}
use Rattle.yaml_store.specs.declared.nodes.Place.TheVariants.{Scalar, Sequence, Mapping}
use Rattle.yaml_store.specs.StoreModel.{place_of, inside_of, SpanWithin, PartsWithin, SpansApart, Apart, PlacesApart}
use Rattle.yaml_store_rank.specs.PartsModel.{two_ranks, key_ranks, KeysRise, PartsRanked, PlaceSettled, LevelSettled, LevelEquals, Rising}

module _ {X : Type 0} (s : Span) (xs ys : List X) (within : SpanWithin (length xs) s) (long : length ys ≡ s.end - s.start) where
  abbrev pub put : List X
  put = put_mid s.start (s.end - s.start) xs ys

  pub put-long : length put ≡ length xs
  put-long =
      let a = within.0 in
      let b = within.1 in
      omega (arith, length-append (take s.start xs) (ys ++ drop (s.end - s.start) (drop s.start xs)), length-append ys (drop (s.end - s.start) (drop s.start xs)), length-take s.start xs, length-drop (s.end - s.start) (drop s.start xs), length-drop s.start xs)

  pub put-here : slice_range put s.start s.end ≡ ys
  put-here = let a = within.0 in let b = within.1 in between-put_mid s.start (s.end - s.start) xs ys s.end (omega arith) long

  pub put-other : (t : Span) → SpansApart s t → SpanWithin (length xs) t → slice_range put t.start t.end ≡ slice_range xs t.start t.end
  put-other t (inl h) w =
      let a = within.0 in
      let b = within.1 in
      ap (take (t.end - t.start)) (drop-put_mid s.start (s.end - s.start) xs ys t.start (omega arith) (omega arith) long)
  put-other t (inr h) w =
      let a = within.0 in
      let b = within.1 in
      between_is put t.start t.end ∙ (ap (drop t.start) (take-put_mid_below s.start (s.end - s.start) xs ys t.end h (omega arith)) ∙ sym (between_is xs t.start t.end))

module _ (rank : ℕ → ℕ) (is : List ℕ) (es : List (ℕ × ℕ)) where
  pub scalar-settled : (place : Place) (s : Span) → place ≡ Scalar s → PlaceSettled rank place is es is es
  scalar-settled place s e = subst (λ k. PlaceSettled rank k is es is es) (sym e) (record {
    long = refl;
    wide = refl;
    here = λ text. refl;
    others = λ text other a w. refl;
  })

  pub sequence-settled : (place : Place) (s : Span) → place ≡ Sequence s → SpanWithin (length is) s → (ys : List ℕ) → ys ≡ map rank (slice_range is s.start s.end) → PlaceSettled rank place is es (put_mid s.start (s.end - s.start) is ys) es
  sequence-settled place s e w ys q =
      let b = w.1 in
      let long : length ys ≡ s.end - s.start = ap length q ∙ (length-map (slice_range is s.start s.end) rank ∙ length-between is s.start s.end b) in
      subst (λ k. PlaceSettled rank k is es (put_mid s.start (s.end - s.start) is ys) es) (sym e) (record {
        long = put-long s is ys w long;
        wide = refl;
        here = λ text. put-here s is ys w long ∙ q;
        others = λ text other a v. other-place ys long other text a v;
      })
    where
      other-place : (ys : List ℕ) (long : length ys ≡ s.end - s.start) (other : Place) (text : List ℕ) → PlacesApart (Sequence s) other → PartsWithin (length is) (length es) other
          → inside_of text (put_mid s.start (s.end - s.start) is ys) es other ≡ inside_of text is es other
      other-place ys long (Scalar t) text a v = refl
      other-place ys long (Sequence t) text a v = ap items (put-other s is ys w long t a v)
      other-place ys long (Mapping t) text a v = refl

  pub mapping-settled : (place : Place) (s : Span) → place ≡ Mapping s → SpanWithin (length es) s → (mid ys : List (ℕ × ℕ)) → mid ≡ map (two_ranks rank) (slice_range es s.start s.end) → IsPermutation mid ys → KeysRise ys
      → PlaceSettled rank place is es is (put_mid s.start (s.end - s.start) es ys)
  mapping-settled place s e w mid ys q p rise =
      let b = w.1 in
      let long : length ys ≡ s.end - s.start = length_permutation mid ys p ∙ (ap length q ∙ (length-map (slice_range es s.start s.end) (two_ranks rank) ∙ length-between es s.start s.end b)) in
      let same : slice_range (put_mid s.start (s.end - s.start) es ys) s.start s.end ≡ ys = put-here s es ys w long in
      subst (λ k. PlaceSettled rank k is es is (put_mid s.start (s.end - s.start) es ys)) (sym e) (record {
        long = refl;
        wide = put-long s es ys w long;
        here = λ text. subst (λ z. IsPermutation (map (two_ranks rank) (slice_range es s.start s.end)) z × KeysRise z) (sym same) (subst (λ z. IsPermutation z ys) q p, rise);
        others = λ text other a v. other-place ys long other text a v;
      })
    where
      other-place : (ys : List (ℕ × ℕ)) (long : length ys ≡ s.end - s.start) (other : Place) (text : List ℕ) → PlacesApart (Mapping s) other → PartsWithin (length is) (length es) other
          → inside_of text is (put_mid s.start (s.end - s.start) es ys) other ≡ inside_of text is es other
      other-place ys long (Scalar t) text a v = refl
      other-place ys long (Sequence t) text a v = refl
      other-place ys long (Mapping t) text a v = ap entries (put-other s es ys w long t a v)

  keys-told : (xs : List (ℕ × ℕ)) → map (λ p. p.0) (map (two_ranks rank) xs) ≡ map (λ p. rank p.0) xs
  keys-told [] = refl
  keys-told (x ∷ xs) = ap (λ z. rank x.0 ∷ z) (keys-told xs)

  -- its entries are arranged, or its first two equal keys are told
  pub mapping-told : {E : Type 0} (place : Place) (s : Span) → place ≡ Mapping s → SpanWithin (length es) s → (mid ys : List (ℕ × ℕ)) → mid ≡ map (two_ranks rank) (slice_range es s.start s.end) → (r : Result (Option (ℕ × ℕ)) E)
      → IfOk r (λ equal. MatchOption equal (IsPermutation mid ys × KeysRise ys) (λ p. IsFirstEqual (map (λ q. q.0) mid) p.0 p.1))
      → IfOk r (λ equal. MatchOption equal (PlaceSettled rank place is es is (put_mid s.start (s.end - s.start) es ys)) (λ p. IsFirstEqual (key_ranks rank (inside_of [] is es place)) p.0 p.1))
  mapping-told place s e w mid ys q (Ok None) h = mapping-settled place s e w mid ys q h.0 h.1
  mapping-told place s e w mid ys q (Ok (Some p)) h =
      subst (λ k. IsFirstEqual (key_ranks rank (inside_of [] is es k)) p.0 p.1) (sym e) (subst (λ z. IsFirstEqual z p.0 p.1) (ap (map (λ (z : ℕ × ℕ). z.0)) q ∙ keys-told (slice_range es s.start s.end)) h)
  mapping-told place s e w mid ys q (Err x) h = h

-- ---- one more node of a level

get-take : {X : Type 0} (xs : List X) (n i : ℕ) (x : X) → i < n → slice_get (take n xs) i ≡ Some x → slice_get xs i ≡ Some x
get-take [] zero i x l h = h
get-take [] (suc n) i x l h = h
get-take (y ∷ xs) zero i x l h = absurd (omega arith)
get-take (y ∷ xs) (suc n) zero x l h = h
get-take (y ∷ xs) (suc n) (suc i) x l h = get-take xs n i x (omega arith) h

module _ (rank : ℕ → ℕ) (nodes : List Node) (level : List ℕ) (is : List ℕ) (es : List (ℕ × ℕ)) (within : (i : ℕ) (s : Node) → slice_get nodes i ≡ Some s → PartsWithin (length is) (length es) (place_of s)) (apart : Apart nodes) (rising : Rising level) (k : ℕ) (inside : k < length level) (js : List ℕ) (fs : List (ℕ × ℕ)) (before : LevelSettled rank nodes (take k level) is es js fs) where
  abbrev n : ℕ
  n = get_or level k 0

  not-before : (j : ℕ) → slice_get (take k level) j ≡ Some n → ⊥
  not-before j e =
      let l = get-within (take k level) j n e in
      let m : j < k = omega (arith, length-take k level) in
      let w = rising j k n n m (get-take level k j n m e) (get-there level k 0 inside) in
      omega arith

  module _ (s : Node) (there : slice_get nodes n ≡ Some s) where
    pub parts-now : PartsWithin (length js) (length fs) (place_of s)
    parts-now = subst (λ z. PartsWithin z (length fs) (place_of s)) (sym before.long) (subst (λ z. PartsWithin (length is) z (place_of s)) (sym before.wide) (within n s there))

    pub inside-now : (text : List ℕ) → inside_of text js fs (place_of s) ≡ inside_of text is es (place_of s)
    inside-now text = before.others text n s there not-before

    -- its first two equal keys are those of the level
    pub equals-now : (first second : ℕ) → IsFirstEqual (key_ranks rank (inside_of [] js fs (place_of s))) first second → LevelEquals rank nodes level is es n first second
    equals-now first second e = record {
      place = k;
      stands = get-there level k 0 inside;
      stored = s;
      stored_is = there;
      equal = subst (λ z. IsFirstEqual (key_ranks rank z) first second) (inside-now []) e;
      js = js;
      fs = fs;
      before = before;
    }

    module _ (gs : List ℕ) (hs : List (ℕ × ℕ)) (done : PlaceSettled rank (place_of s) js fs gs hs) where
      more-level : take (k + 1) level ≡ take k level ++ (n ∷ [])
      more-level = ap (λ m. take m level) (add-one k) ∙ take-suc level k 0 inside

      kept : (text : List ℕ) (i : ℕ) (t : Node) → (n ≡ i → ⊥) → slice_get nodes i ≡ Some t → inside_of text gs hs (place_of t) ≡ inside_of text js fs (place_of t)
      kept text i t d e = done.others text (place_of t) (apart n i s t d there e) (subst (λ z. PartsWithin z (length fs) (place_of t)) (sym before.long) (subst (λ z. PartsWithin (length is) z (place_of t)) (sym before.wide) (within i t e)))

      pub settled-more : LevelSettled rank nodes (take (k + 1) level) is es gs hs
      settled-more = record {
        long = done.long ∙ before.long;
        wide = done.wide ∙ before.wide;
        here = λ text j i t a e. elim (push-get (take k level) n i j (subst (λ z. slice_get z j ≡ Some i) more-level a)) [
          | inl u ↦ subst (PartsRanked rank (inside_of text is es (place_of t))) (sym (kept text i t (λ q. not-before j (u ∙ ap Some (sym q))) e)) (before.here text j i t u e)
          | inr u ↦ (let same : s ≡ t = one-there nodes n s t there (subst (λ z. slice_get nodes z ≡ Some t) u.1 e) in
              subst (λ z. PartsRanked rank (inside_of text is es (place_of z)) (inside_of text gs hs (place_of z))) same (subst (λ z. PartsRanked rank z (inside_of text gs hs (place_of s))) (inside-now text) (done.here text)))
        ];
        others = λ text i t e d.
            kept text i t (λ q. d k (get-after q)) e
            ∙ before.others text i t e (λ j a. d j (subst (λ z. slice_get z j ≡ Some i) (sym more-level) (get-more (take k level) (n ∷ []) j i a)));
      }
        where
          get-after : {i : ℕ} → n ≡ i → slice_get (take (k + 1) level) k ≡ Some i
          get-after q = take-get level (k + 1) k _ (omega arith) (get-there level k 0 inside ∙ ap Some q)
