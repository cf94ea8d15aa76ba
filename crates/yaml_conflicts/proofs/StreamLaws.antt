-- Streams as lists of their documents.
use Rattle.std.proofs.Common.{◌≡◌, ℕ, zero, suc, ◌+◌, ◌<◌, ◌≤◌, Bool, true, false, ◌&&◌, ◌==◌, ◌⊎◌, List, [], ◌∷◌, ◌++◌, map, length, inl, inr, refl, sym, ◌∙◌, ap, subst, arith}
use Rattle.std.specs.Prelude.{Option, Some, None, Result, Ok, Err, IfOk}
use Rattle.std.specs.List.{slice_get}
use Rattle.std.proofs.lemmas.Bool.{eqb-true, eq-eqb}
use Rattle.std.specs.declared.alloc.AllocError.{AllocError}
use Rattle.yaml_definitions.specs.model.Tree.{Tree, Trees}
use Rattle.yaml_definitions.specs.model.Same.{same, same_trees}
use Rattle.yaml_definitions.proofs.Members.{and_both}
use Rattle.yaml_tree.specs.TreeLists.{trees}
use Rattle.yaml_tree.specs.declared.node.NodeId.{NodeId}
use Rattle.yaml_store_rank.specs.Forests.{Forests}
use Rattle.yaml_path.specs.Path.{Step, Path, at_item, at_key, item_in}
use Rattle.yaml_path.specs.Ways.{count_in}
use Rattle.yaml_diff.specs.Lines.{tree_of, trees_of}
use Rattle.yaml_diff.specs.Found.{Within, AllWithin}
use Rattle.yaml_diff.proofs.Shapes.{item-there}
use Rattle.yaml_conflicts.specs.Merge.{alike, settled}
use Rattle.yaml_conflicts.specs.MergedStreams.{stream, are_paired, DocumentBreaks, StreamBreaks}
use Rattle.yaml_conflicts.proofs.RuleLaws.{true-false, not-true}
use Rattle.yaml_conflicts.proofs.MergedLaws.{like-count, like-at, all-like}
use Rattle.yaml_conflicts.specs.declared.sides.Step.TheVariants.{Document}
use Rattle.yaml_conflicts.specs.declared.sides.Sides.{Sides}
use Rattle.yaml_conflicts.specs.declared.sides.Found.{Found}
use Rattle.yaml_conflicts.specs.declared.streams.Roots.{Roots}
use Rattle.yaml_conflicts.specs.Rooms.{is_spent}
use Rattle.yaml_conflicts.specs.Found.{Finds, Spends, lines_of, under, Listed, Lists}
use Rattle.yaml_conflicts.specs.Streams.{documents, DocumentsAre, FindsDocument, FindsDocuments}
use Rattle.yaml_conflicts.proofs.KeyLaws.{split}
use Rattle.yaml_conflicts.proofs.WalkLaws.{none-lists, one-lists, nothing-breaks, ListsSome, some-first, some-next, and-either}

-- ---- documents

pub get-within : (g : Forests) (roots : List NodeId) (place : ℕ) (found : Option NodeId) → AllWithin g roots → found ≡ slice_get roots place → Within g found
get-within g roots place None w e = tt
get-within g roots place (Some i) w e = w place i (sym e)

-- ---- streams that are alike

pub stream-alike : (g : Forests) (xs ys : List NodeId) → alike (stream (documents g xs)) (stream (documents g ys)) ≡ same_trees (trees (map (tree_of g) xs)) (trees (map (tree_of g) ys))
unfolding same
stream-alike g xs ys = refl

-- ---- how many documents there are

pub counted : (g : Forests) (roots : List NodeId) → count_in (documents g roots) ≡ length roots
counted g [] = refl
counted g (i ∷ roots) = ap suc (counted g roots)

pub counts-are : (g : Forests) (xs ys : List NodeId) → (length xs == length ys) ≡ (count_in (documents g xs) == count_in (documents g ys))
counts-are g xs ys = (λ z. sym (counted g xs) z == sym (counted g ys) z)

pub counts-length : (g : Forests) (xs ys : List NodeId) → (count_in (documents g xs) == count_in (documents g ys)) ≡ true → length xs ≡ length ys
counts-length g xs ys e = eqb-true (length xs) (length ys) (counts-are g xs ys ∙ e)

pub other-count : (g : Forests) (xs ys : List NodeId) → (count_in (documents g xs) == count_in (documents g ys)) ≡ false → false ≡ alike (stream (documents g xs)) (stream (documents g ys))
other-count g xs ys n = sym (not-true (alike (stream (documents g xs)) (stream (documents g ys))) (λ e. true-false (eq-eqb (count_in (documents g xs)) (count_in (documents g ys)) (like-count (documents g xs) (documents g ys) (sym (stream-alike g xs ys) ∙ e))) n))

document-part : (g : Forests) (xs : List NodeId) (k : ℕ) (found : Option NodeId) → found ≡ slice_get xs k → trees_of g found ≡ item_in (documents g xs) k
document-part g xs k found e = ap (trees_of g) e ∙ sym (item-there (tree_of g) xs k)

past-end : (g : Forests) (roots : List NodeId) (k : ℕ) → length roots ≤ k → item_in (documents g roots) k ≡ None
past-end g [] k l = refl
past-end g (x ∷ roots) zero l = absurd (omega (arith, l))
past-end g (x ∷ roots) (suc k) l = past-end g roots k (omega (arith, l))

less-or : (k n : ℕ) → (k < n) ⊎ (n ≤ k)
less-or zero zero = inr (omega arith)
less-or zero (suc n) = inl (omega arith)
less-or (suc k) zero = inr (omega arith)
less-or (suc k) (suc n) = elim (less-or k n) [ inl l ↦ inl (omega (arith, l)) | inr l ↦ inr (omega (arith, l)) ]

-- ---- documents one after another

pub other-at : (g : Forests) (xs ys : List NodeId) (k : ℕ) (first second : Option NodeId) → first ≡ slice_get xs k → second ≡ slice_get ys k → alike (trees_of g first) (trees_of g second) ≡ false → false ≡ alike (stream (documents g xs)) (stream (documents g ys))
other-at g xs ys k first second p q n =
    let h : alike (trees_of g first) (trees_of g second) ≡ alike (item_in (documents g xs) k) (item_in (documents g ys) k) = (λ z. alike (document-part g xs k first p z) (document-part g ys k second q z)) in
    sym (not-true (alike (stream (documents g xs)) (stream (documents g ys))) (λ e. true-false (h ∙ like-at (documents g xs) (documents g ys) (sym (stream-alike g xs ys) ∙ e) k) n))

-- the documents before a place are the same
abbrev pub AlikeBelow : Forests → List NodeId → List NodeId → ℕ → Type 0
AlikeBelow g xs ys n = (k : ℕ) → k < n → alike (item_in (documents g xs) k) (item_in (documents g ys) k) ≡ true

pub alike-first : (g : Forests) (xs ys : List NodeId) → AlikeBelow g xs ys 0
alike-first g xs ys k l = absurd (omega (arith, l))

pub alike-next : (g : Forests) (xs ys : List NodeId) (n : ℕ) (first second : Option NodeId) → AlikeBelow g xs ys n → first ≡ slice_get xs n → second ≡ slice_get ys n → alike (trees_of g first) (trees_of g second) ≡ true → AlikeBelow g xs ys (n + 1)
alike-next g xs ys n first second h p q e k l = elim (split k n l) [
  | inl m ↦ h k m
  | inr m ↦ ap (λ z. alike (item_in (documents g xs) z) (item_in (documents g ys) z)) m ∙ (λ z. alike (sym (document-part g xs n first p) z) (sym (document-part g ys n second q) z)) ∙ e
]

pub alike-whole : (g : Forests) (xs ys : List NodeId) (n : ℕ) → length xs ≡ length ys → length xs ≤ n → AlikeBelow g xs ys n → true ≡ alike (stream (documents g xs)) (stream (documents g ys))
alike-whole g xs ys n e l h = sym (stream-alike g xs ys ∙ all-like (documents g xs) (documents g ys) (λ k. at k (less-or k (length xs))))
  where
    at : (k : ℕ) → (k < length xs) ⊎ (length xs ≤ k) → alike (item_in (documents g xs) k) (item_in (documents g ys) k) ≡ true
    at k (inl m) = h k (omega (arith, l, m))
    at k (inr m) = λ z. alike (past-end g xs k m z) (past-end g ys k (omega (arith, e, m)) z)

-- ---- the documents at one place

module _ (g : Forests) (given : Bool) (s : Sides) where
  abbrev Here : Bool → Path → Type 0
  Here is_alone p = DocumentBreaks given is_alone p (trees_of g s.base) (trees_of g s.ours) (trees_of g s.theirs) (trees_of g s.merge)

  pub alone-found : (is_alone : Bool) → is_alone ≡ true → (answer : Result Found AllocError) → IfOk answer (Finds g given s) → IfOk answer (FindsDocument g given is_alone s)
  alone-found is_alone e (Ok f) h = subst (λ z. FindsDocument g given z s f) (sym e) h
  alone-found is_alone e (Err x) h = tt

  pub document-settled : (is_alone : Bool) → is_alone ≡ false → (f : Found) → lines_of f ≡ [] → settled given (trees_of g s.base) (trees_of g s.ours) (trees_of g s.theirs) (trees_of g s.merge) ≡ true → FindsDocument g given is_alone s f
  document-settled is_alone e f n h = subst (λ z. FindsDocument g given z s f) (sym e) (none-lists g (Here false) (trees_of g s.base) (trees_of g s.ours) (trees_of g s.theirs) (trees_of g s.merge) (lines_of f) f.whole n (λ w p x. true-false h x.0))

  pub document-cut : (is_alone : Bool) (f : Found) → lines_of f ≡ [] → f.whole ≡ false → FindsDocument g given is_alone s f
  document-cut is_alone f n h = none-lists g (Here is_alone) (trees_of g s.base) (trees_of g s.ours) (trees_of g s.theirs) (trees_of g s.merge) (lines_of f) f.whole n (λ w p x. true-false w h)

  pub document-one : (is_alone : Bool) → is_alone ≡ false → (answer : Result Found AllocError) → IfOk answer (λ f. lines_of f ≡ ([], s) ∷ []) → settled given (trees_of g s.base) (trees_of g s.ours) (trees_of g s.theirs) (trees_of g s.merge) ≡ false → IfOk answer (FindsDocument g given is_alone s)
  document-one is_alone e (Ok f) n h = subst (λ z. FindsDocument g given z s f) (sym e) (one-lists g (Here false) s (lines_of f) f.whole n (h, refl) (λ p x. x.1))
  document-one is_alone e (Err x) n h = tt

-- ---- the loop over documents

abbrev pub TakenPlace : ℕ → Step → Type 0
TakenPlace n s = (k : ℕ) × (k < n) × (s ≡ at_item k)

none-document : (given is_alone : Bool) (q : Path) (b o t m : Option Tree) → b ≡ None → o ≡ None → t ≡ None → m ≡ None → DocumentBreaks given is_alone q b o t m → ⊥
none-document given is_alone q b o t m e f h i x =
    no given is_alone (subst (λ z. DocumentBreaks given is_alone q None None None z) i (subst (λ z. DocumentBreaks given is_alone q None None z m) h (subst (λ z. DocumentBreaks given is_alone q None z t m) f (subst (λ z. DocumentBreaks given is_alone q z o t m) e x))))
  where
    no : (given is_alone : Bool) → DocumentBreaks given is_alone q None None None None → ⊥
    no given true x = nothing-breaks given q x
    no true false x = true-false refl x.0
    no false false x = true-false refl x.0

abbrev ListsHere : Forests → Bool → Found → Bool → (b o t m : Option Tree) → Type 0
ListsHere g given f is_alone b o t m = Lists g (λ q. DocumentBreaks given is_alone q b o t m) b o t m (lines_of f) f.whole

module _ (g : Forests) (given : Bool) (r : Roots) where
  abbrev pub base-docs : Trees
  base-docs = documents g r.base.now

  abbrev pub our-docs : Trees
  our-docs = documents g r.ours.now

  abbrev pub their-docs : Trees
  their-docs = documents g r.theirs.now

  abbrev pub merge-docs : Trees
  merge-docs = documents g r.merge.now

  abbrev pub InStream : Path → Type 0
  InStream p = StreamBreaks given p base-docs our-docs their-docs merge-docs

  abbrev pub IsAt : ℕ → Path → Type 0
  IsAt k q = DocumentBreaks given (count_in base-docs == 1) q (item_in base-docs k) (item_in our-docs k) (item_in their-docs k) (item_in merge-docs k)

  abbrev pub ArePaired : Type 0
  ArePaired = are_paired base-docs our-docs their-docs merge-docs ≡ true

  -- what is found in the first so many documents, and where not all is, the room is spent
  pub record StreamWalked (n : ℕ) (f : Found) : Type 0 where
    pub lists : ListsSome g InStream (stream base-docs) (stream our-docs) (stream their-docs) (stream merge-docs) (TakenPlace n) (lines_of f) f.whole
    pub cut : f.whole ≡ false → is_spent f.room ≡ true

  pub stream-first : (f : Found) → lines_of f ≡ [] → f.whole ≡ true → StreamWalked 0 f
  stream-first f e w = record {
    lists = some-first g InStream (stream base-docs) (stream our-docs) (stream their-docs) (stream merge-docs) (TakenPlace 0) (lines_of f) f.whole e (λ s i. absurd (omega (arith, i.1)));
    cut = λ x. absurd (true-false w x);
  }

  pub stream-next : (is_alone : Bool) → is_alone ≡ (length r.base.now == 1) → (s : Sides) (n : ℕ) (old more new : Found) → ArePaired → StreamWalked n old → DocumentsAre r n s → FindsDocument g given is_alone s more
      → Spends old.room more → lines_of new ≡ lines_of old ++ map (under (Document n)) (lines_of more) → new.room ≡ more.room → new.whole ≡ (old.whole && more.whole) → StreamWalked (n + 1) new
  stream-next is_alone is s n old more new e w d m u el er ew = record {
    lists = some-next g InStream (stream base-docs) (stream our-docs) (stream their-docs) (stream merge-docs) (IsAt n) (TakenPlace n) (TakenPlace (n + 1)) (Document n) (λ q x. (e, x)) down (lines_of old) (lines_of more) (lines_of new) old.whole more.whole new.whole w.lists parts el ew;
    cut = λ y. ap is_spent er ∙ elim (and-either old.whole more.whole (sym ew ∙ y)) [ inl x ↦ u.stays (w.cut x) | inr x ↦ u.cut x ];
  }
    where
      alone : is_alone ≡ (count_in base-docs == 1)
      alone = is ∙ (λ z. sym (counted g r.base.now) z == 1)

      down : (x : Step) (q : Path) → TakenPlace (n + 1) x → InStream (x ∷ q) → TakenPlace n x ⊎ ((x ≡ at_item n) × IsAt n q)
      down x q i y = elim (split i.0 n i.1) [
        | inl j ↦ inl (i.0, j, i.2)
        | inr j ↦ let h : x ≡ at_item n = i.2 ∙ ap at_item j in inr (h, (subst (λ z. StreamBreaks given (z ∷ q) base-docs our-docs their-docs merge-docs) h y).1)
      ]

      parts : ListsHere g given more (count_in base-docs == 1) (item_in base-docs n) (item_in our-docs n) (item_in their-docs n) (item_in merge-docs n)
      parts =
          subst (λ z. ListsHere g given more (count_in base-docs == 1) z (item_in our-docs n) (item_in their-docs n) (item_in merge-docs n)) (document-part g r.base.now n s.base d.base)
          (subst (λ z. ListsHere g given more (count_in base-docs == 1) (trees_of g s.base) z (item_in their-docs n) (item_in merge-docs n)) (document-part g r.ours.now n s.ours d.ours)
          (subst (λ z. ListsHere g given more (count_in base-docs == 1) (trees_of g s.base) (trees_of g s.ours) z (item_in merge-docs n)) (document-part g r.theirs.now n s.theirs d.theirs)
          (subst (λ z. ListsHere g given more (count_in base-docs == 1) (trees_of g s.base) (trees_of g s.ours) (trees_of g s.theirs) z) (document-part g r.merge.now n s.merge d.merge)
          (subst (λ z. ListsHere g given more z (trees_of g s.base) (trees_of g s.ours) (trees_of g s.theirs) (trees_of g s.merge)) alone m))))

  pub stream-done : (n : ℕ) (f : Found) → ArePaired → length r.base.now ≤ n → StreamWalked n f → FindsDocuments g given base-docs our-docs their-docs merge-docs f
  stream-done n f e a w = record {
    lists = record { each = w.lists.each; whole = λ p q x. by p q x };
    cut = w.cut;
  }
    where
      lengths : (length r.base.now ≡ length r.ours.now) × (length r.base.now ≡ length r.theirs.now) × (length r.base.now ≡ length r.merge.now)
      lengths =
          let x = and_both (count_in base-docs == count_in our-docs) ((count_in base-docs == count_in their-docs) && (count_in base-docs == count_in merge-docs)) e in
          let y = and_both (count_in base-docs == count_in their-docs) (count_in base-docs == count_in merge-docs) x.1 in
          (counts-length g r.base.now r.ours.now x.0, counts-length g r.base.now r.theirs.now y.0, counts-length g r.base.now r.merge.now y.1)

      by : f.whole ≡ true → (q : Path) → InStream q → Listed g q (lines_of f)
      by p [] x = absurd (true-false e x.0)
      by p (at_item k ∷ q) x = elim (less-or k (length r.base.now)) [
        | inl l ↦ w.lists.whole p (at_item k) q (k, omega (arith, l, a), refl) x
        | inr l ↦
            absurd (none-document given (count_in base-docs == 1) q (item_in base-docs k) (item_in our-docs k) (item_in their-docs k) (item_in merge-docs k) (past-end g r.base.now k l) (past-end g r.ours.now k (omega (arith, l, lengths.0))) (past-end g r.theirs.now k (omega (arith, l, lengths.1))) (past-end g r.merge.now k (omega (arith, l, lengths.2))) x.1)
      ]
      by p (at_key y ∷ q) x = absurd x

  pub stream-settled : (f : Found) → lines_of f ≡ [] → f.whole ≡ true → are_paired base-docs our-docs their-docs merge-docs ≡ false → settled given (stream base-docs) (stream our-docs) (stream their-docs) (stream merge-docs) ≡ true → FindsDocuments g given base-docs our-docs their-docs merge-docs f
  stream-settled f e w n h = record {
    lists = none-lists g InStream (stream base-docs) (stream our-docs) (stream their-docs) (stream merge-docs) (lines_of f) f.whole e (λ p q x. no q x);
    cut = λ x. absurd (true-false w x);
  }
    where
      no : (q : Path) → InStream q → ⊥
      no [] x = true-false h x.1
      no (at_item k ∷ q) x = true-false x.0 n
      no (at_key y ∷ q) x = x
