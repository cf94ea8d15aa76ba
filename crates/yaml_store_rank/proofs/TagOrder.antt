-- Tags in order, and their places.
use Rattle.std.proofs.Common.{Bor, ◌≡◌, ℕ, zero, suc, ◌<◌, Bool, true, false, cond, List, [], ◌∷◌, ◌++◌, length, get_or, slice_index, refl, sym, ◌∙◌, ap, subst, arith}
use Rattle.std.specs.BTreeSet.{BTreeSet, contains, Updates}
use Rattle.std.specs.List.{All, AllZip}
use Rattle.std.specs.Ordering.{is_eq}
use Rattle.std.specs.declared.cmp.Ordering.TheVariants.{Equal}
use Rattle.std.proofs.lemmas.Cmp.{nat_list_cmp_total, tied_itself}
use Rattle.std.proofs.lemmas.List.Elements.{All-push, All-weaker}
use Rattle.yaml_definitions.specs.model.Order.{bytes_cmp}
use Rattle.yaml_tree.specs.Tags.{Texts, text_cmp, TagsRise, IsTagAt, IsListed}
use Rattle.yaml_tree.proofs.Numbering.{get-within}
use Rattle.yaml_tree.proofs.TagLaws.{tags-agree, found-place}
use Rattle.yaml_store.specs.StoreModel.{tag_at}
use Rattle.yaml_store_rank.specs.TagPlaces.{IsFound, PlacesAmong, PlacesAre}

abbrev Text : Type 0
Text = Bor (List ℕ)

-- ---- tags that are found

either : (b c : Bool) → c ≡ true → cond b true c ≡ true
either true c h = refl
either false c h = h

-- one more tag
pub found-more : (old new : BTreeSet Text) (tag : Text) → Updates text_cmp old new tag true → (tags : List (List ℕ)) → All (IsFound old) tags → All (IsFound new) (tags ++ (tag.now ∷ []))
found-more old new tag more tags before = All-push (IsFound new) tags tag.now (All-weaker (IsFound old) (IsFound new) kept tags before) here
  where
    kept : (g : List ℕ) → IsFound old g → IsFound new g
    kept g h t e = more.0 t ∙ either (is_eq (text_cmp tag t)) (contains text_cmp old t) (h t e)

    here : IsFound new tag.now
    here t e =
        let tied : text_cmp tag t ≡ Equal = subst (λ z. bytes_cmp tag.now z ≡ Equal) (sym e) (tied_itself nat_list_cmp_total tag.now) in
        more.0 t ∙ ap (λ z. cond (is_eq z) true (contains text_cmp old t)) tied

pub all-listed : (found : BTreeSet Text) (ordered : Texts) → ordered ≡ found.keys → (tags : List (List ℕ)) → All (IsFound found) tags → All (IsListed ordered) tags
all-listed found ordered e tags all = All-weaker (IsFound found) (IsListed ordered) listed tags all
  where
    listed : (g : List ℕ) → IsFound found g → IsListed ordered g
    listed g h = let t : Text = record { ref_ptr = (0, 0); now = g } in subst (λ z. IsListed z g) (sym e) (found-place found.keys t (h t refl))

-- ---- places

zip-long : {A B : Type 0} (R : A → B → Type 0) (xs : List A) (ys : List B) → AllZip R xs ys → length ys ≡ length xs
zip-long R [] [] z = refl
zip-long R [] (y ∷ ys) z = absurd z
zip-long R (x ∷ xs) [] z = absurd z
zip-long R (x ∷ xs) (y ∷ ys) z = ap suc (zip-long R xs ys z.1)

zip-at : {A B : Type 0} (R : A → B → Type 0) (xs : List A) (ys : List B) → AllZip R xs ys → (k : ℕ) (c : A) (d : B) → k < length xs → R (get_or xs k c) (get_or ys k d)
zip-at R [] ys z k c d l = absurd (omega arith)
zip-at R (x ∷ xs) [] z k c d l = absurd z
zip-at R (x ∷ xs) (y ∷ ys) z zero c d l = z.0
zip-at R (x ∷ xs) (y ∷ ys) z (suc k) c d l = zip-at R xs ys z.1 k c d (omega arith)

zip-push : {A B : Type 0} (R : A → B → Type 0) (xs : List A) (ys : List B) (x : A) (y : B) → AllZip R xs ys → R x y → AllZip R (xs ++ (x ∷ [])) (ys ++ (y ∷ []))
zip-push R [] [] x y z h = (h, tt)
zip-push R [] (b ∷ ys) x y z h = absurd z
zip-push R (a ∷ xs) [] x y z h = absurd z
zip-push R (a ∷ xs) (b ∷ ys) x y z h = (z.0, zip-push R xs ys x y z.1 h)

-- one more tag, and its place
pub among-more : (ordered : Texts) (tags : List (List ℕ)) (places : List ℕ) (tag : List ℕ) (place : ℕ) → PlacesAmong ordered tags places → IsTagAt ordered place tag → PlacesAmong ordered (tags ++ (tag ∷ [])) (places ++ (place ∷ []))
among-more ordered tags places tag place among at = zip-push (λ g p. IsTagAt ordered p g) tags places tag place among at

-- places among tags that rise stand as their tags do
pub places-are : (ordered : Texts) → TagsRise ordered → length ordered < 1073741824 → (tags : List (List ℕ)) (places : List ℕ) → PlacesAmong ordered tags places → PlacesAre tags places
places-are ordered rise few tags places among =
    let at : List ℕ → ℕ → Type 0 = λ tag place. IsTagAt ordered place tag in
    let long = zip-long at tags places among in
    record {
      long = omega (arith, long);
      small = λ k d l.
          let t = zip-at at tags places among k [] d (omega (arith, long)) in
          let w = get-within ordered (get_or places k d) t.0 t.1 in
          omega arith;
      agree = λ p q v w. tags-agree ordered rise (slice_index places p) (slice_index places q) (tag_at tags p) (tag_at tags q) (zip-at at tags places among p [] 0 v) (zip-at at tags places among q [] 0 w);
    }
