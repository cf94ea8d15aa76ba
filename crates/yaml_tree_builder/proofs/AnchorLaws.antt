-- The names of anchors, as they grow and come into the map.
use Rattle.std.proofs.Common.{inl, inr, ◌≡◌, ℕ, zero, suc, ◌+◌, ◌-◌, ◌<◌, ◌≤◌, Bool, true, false, cond, bytes_eq, List, [], ◌∷◌, ◌++◌, length, set, take, drop, refl, sym, ◌∙◌, ap, subst, arith, length-append, length-take-le, length-drop}
use Rattle.std.specs.Prelude.{Option, None, Some, String, IfSome}
use Rattle.std.specs.List.{slice_get, slice_range}
use Rattle.std.specs.Option.{option_map}
use Rattle.std.specs.String.{string_bytes}
use Rattle.std.specs.BTreeMap.{BTreeMap, get_by_text}
use Rattle.std.specs.Map.{lookup}
use Rattle.std.specs.Cmp.Lexicographic.{slice_cmp}
use Rattle.std.specs.Ordering.{nat_cmp, is_eq}
use Rattle.std.proofs.lemmas.Bool.{cases_eq, cond-true, cond-false, false_from_ne_true}
use Rattle.std.proofs.lemmas.Slice.Eq.{bytes_eq-Decides}
use Rattle.std.proofs.lemmas.Option.{slice_get_within, get_or_from_slice_get, same_Some, none-some}
use Rattle.std.proofs.lemmas.List.{take_all, take_more, take-append-le, drop-append-le}
use Rattle.yaml_definitions.specs.model.Unfold.{or_else}
use Rattle.yaml_tree.specs.Anchors.{last_place}
use Rattle.yaml_store.specs.StoreModel.{SpanWithin}
use Rattle.yaml_store.specs.declared.nodes.Span.{Span}
use Rattle.yaml_store.specs.declared.text.Text.{Text}
use Rattle.yaml_store.specs.TextModel.{text_of, PutsText}
use Rattle.yaml_tree_builder.specs.AnchorsModel.{table_place, StandIn, SeesLast, Maps, Names}
use Rattle.yaml_tree_builder.specs.declared.anchors.Anchors.{Anchors}

-- ---- the last place of a name

push-cases : (b : Bool) (n : ℕ) (p z : Option ℕ) → or_else (option_map suc (cond b (Some n) p)) z ≡ cond b (Some (suc n)) (or_else (option_map suc p) z)
push-cases true n p z = refl
push-cases false n p z = refl

pub place-push : (name : List ℕ) (xs : List (List ℕ)) (y : List ℕ) → last_place name (xs ++ (y ∷ [])) ≡ cond (bytes_eq y name) (Some (length xs)) (last_place name xs)
unfolding last_place
place-push name [] y = refl
place-push name (x ∷ xs) y =
    ap (λ p. or_else (option_map suc p) (cond (bytes_eq x name) (Some 0) None)) (place-push name xs y) ∙ push-cases (bytes_eq y name) (length xs) (last_place name xs) (cond (bytes_eq x name) (Some 0) None)

-- one name more, which is the asked one or is not
place-same : (name : List ℕ) (xs : List (List ℕ)) → last_place name (xs ++ (name ∷ [])) ≡ Some (length xs)
place-same name xs = place-push name xs name ∙ cond-true (bytes_eq name name) (Some (length xs)) (last_place name xs) ((bytes_eq-Decides name name).1 refl)

place-other : (name : List ℕ) (xs : List (List ℕ)) (y : List ℕ) → bytes_eq y name ≡ false → last_place name (xs ++ (y ∷ [])) ≡ last_place name xs
place-other name xs y n = place-push name xs y ∙ cond-false (bytes_eq y name) (Some (length xs)) (last_place name xs) n

-- the first of the cases of a list with a first element
next-within : (b : Bool) (q : Option ℕ) (n p : ℕ) → ((k : ℕ) → q ≡ Some k → k < n) → or_else (option_map suc q) (cond b (Some 0) None) ≡ Some p → p < suc n
next-within b (Some k) n p h e = let l = h k refl in let q : suc k ≡ p = same_Some (suc k) p e in omega (arith, l, q)
next-within true None n p h e = let q : 0 ≡ p = same_Some 0 p e in omega (arith, q)
next-within false None n p h e = absurd (none-some p e)

pub last-within : (name : List ℕ) (xs : List (List ℕ)) (p : ℕ) → last_place name xs ≡ Some p → p < length xs
unfolding last_place
last-within name [] p e = absurd (none-some p e)
last-within name (x ∷ xs) p e = next-within (bytes_eq x name) (last_place name xs) (length xs) p (last-within name xs) e

-- A name that stands somewhere has its last place there or behind.
record IsAfter (i : ℕ) (q : Option ℕ) : Type 0 where
  pub place : ℕ
  pub is : q ≡ Some place
  pub behind : i ≤ place

after-next : (q : Option ℕ) (i : ℕ) (z : Option ℕ) → IsAfter i q → IsAfter (suc i) (or_else (option_map suc q) z)
after-next q i z a = record { place = suc a.place; is = ap (λ r. or_else (option_map suc r) z) a.is; behind = omega (arith, a.behind) }

after-first : (q : Option ℕ) (b : Bool) → b ≡ true → IsAfter 0 (or_else (option_map suc q) (cond b (Some 0) None))
after-first (Some k) b e = record { place = suc k; is = refl; behind = omega arith }
after-first None b e = record { place = 0; is = cond-true b (Some 0) None e; behind = omega arith }

last-after : (name : List ℕ) (xs : List (List ℕ)) (i : ℕ) → slice_get xs i ≡ Some name → IsAfter i (last_place name xs)
unfolding last_place
last-after name [] i e = absurd (cc)
last-after name (x ∷ xs) zero e = let q : x ≡ name = cc in after-first (last_place name xs) (bytes_eq x name) ((bytes_eq-Decides x name).1 q)
last-after name (x ∷ xs) (suc i) e = after-next (last_place name xs) i (cond (bytes_eq x name) (Some 0) None) (last-after name xs i e)

-- ---- the texts

range-grown : (xs more : List ℕ) (a b : ℕ) → a ≤ b → b ≤ length xs → slice_range (xs ++ more) a b ≡ slice_range xs a b
range-grown xs more a b l m =
    let n : a ≤ length xs = omega arith in
    ap (take (b - a)) (drop-append-le a xs more n) ∙ take-append-le (b - a) (drop a xs) more (omega (arith, length-drop a xs))

stand-more : (text more : List ℕ) (spans : List Span) (names : List (List ℕ)) → StandIn text spans names → StandIn (text ++ more) spans names
stand-more text more [] [] h = tt
stand-more text more (s ∷ spans) (x ∷ names) h =
    ((h.0.0, omega (arith, h.0.1, length-append text more)), range-grown text more s.start s.end h.0.0 h.0.1 ∙ h.1, stand-more text more spans names h.2)
stand-more text more [] (x ∷ names) h = absurd h
stand-more text more (s ∷ spans) [] h = absurd h

stand-push : (text : List ℕ) (spans : List Span) (names : List (List ℕ)) (s : Span) (x : List ℕ) → StandIn text spans names → SpanWithin (length text) s → slice_range text s.start s.end ≡ x → StandIn text (spans ++ (s ∷ [])) (names ++ (x ∷ []))
stand-push text [] [] s x h w e = (w, e, tt)
stand-push text (t ∷ spans) (y ∷ names) s x h w e = (h.0, h.1, stand-push text spans names s x h.2 w e)
stand-push text [] (y ∷ names) s x h w e = absurd h
stand-push text (t ∷ spans) [] s x h w e = absurd h

pub stand-length : (text : List ℕ) (spans : List Span) (names : List (List ℕ)) → StandIn text spans names → length spans ≡ length names
stand-length text [] [] h = refl
stand-length text (s ∷ spans) (x ∷ names) h = ap suc (stand-length text spans names h.2)
stand-length text [] (x ∷ names) h = absurd h
stand-length text (s ∷ spans) [] h = absurd h

pub stand-at : (text : List ℕ) (spans : List Span) (names : List (List ℕ)) (i : ℕ) (s : Span) → StandIn text spans names → slice_get spans i ≡ Some s → slice_get names i ≡ Some (slice_range text s.start s.end)
stand-at text (t ∷ spans) (x ∷ names) zero s h e =
    let q : t ≡ s = same_Some t s e in
    ap Some (sym h.1 ∙ ap (λ z. slice_range text z.start z.end) q)
stand-at text (t ∷ spans) (x ∷ names) (suc i) s h e = stand-at text spans names i s h.2 e
stand-at text [] names i s h e = absurd (cc)
stand-at text (t ∷ spans) [] i s h e = absurd h

-- the texts with one more
pub stand-new : (before after : Text) (spans spans2 : List Span) (names : List (List ℕ)) (s : Span) (x : List ℕ) → PutsText before after x s → spans2 ≡ spans ++ (s ∷ []) → StandIn (text_of before) spans names → StandIn (text_of after) spans2 (names ++ (x ∷ []))
stand-new before after spans spans2 names s x p e h =
    let grown = subst (λ z. StandIn z spans names) (sym p.grows) (stand-more (text_of before) p.more spans names h) in
    subst (λ z. StandIn (text_of after) z (names ++ (x ∷ []))) (sym e) (stand-push (text_of after) spans names s x grown p.within p.is)

-- what is got, if anything is, has what follows from what is told of it
pub got : {X : Type 0} (r : Option X) {P Q : X → Type 0} → IfSome r P → ((x : X) → P x → Q x) → IfSome r Q
got None h f = tt
got (Some x) h f = f x h

-- ---- the table

pub sees-none : (table : List ℕ) → SeesLast table []
unfolding last_place
sees-none table name place seen e f = absurd (none-some place e)

get-set : (xs : List ℕ) (i v w : ℕ) → slice_get (set xs i v) i ≡ Some w → w ≡ v
get-set [] i v w e = absurd (cc)
get-set (x ∷ xs) zero v w e = sym (same_Some v w e)
get-set (x ∷ xs) (suc i) v w e = get-set xs i v w e

get-set-other : (xs : List ℕ) (i j v : ℕ) → (j ≡ i → ⊥) → slice_get (set xs i v) j ≡ slice_get xs j
get-set-other [] i j v n = refl
get-set-other (x ∷ xs) zero zero v n = absurd (n refl)
get-set-other (x ∷ xs) zero (suc j) v n = refl
get-set-other (x ∷ xs) (suc i) zero v n = refl
get-set-other (x ∷ xs) (suc i) (suc j) v n = get-set-other xs i j v (λ e. n (ap suc e))

-- the last name takes its hash's place
pub sees-new : (table : List ℕ) (names : List (List ℕ)) (x : List ℕ) (last : ℕ) → last ≡ length names → SeesLast table names → SeesLast (set table (table_place x) last) (names ++ (x ∷ []))
sees-new table names x last n h name place seen e f = elim (cases_eq (table_place name) (table_place x)) [
  | inl same ↦ (
      let g : seen ≡ last = get-set table (table_place x) last seen (subst (λ z. slice_get (set table (table_place x) last) z ≡ Some seen) same f) in
      let w = last-within name (names ++ (x ∷ [])) place e in
      omega (arith, g, n, w, length-append names (x ∷ [])))
  | inr other ↦ (
      let differ : bytes_eq x name ≡ false = false_from_ne_true (bytes_eq x name) (λ y. other (ap table_place (sym ((bytes_eq-Decides x name).0 y)))) in
      h name place seen (sym (place-other name names x differ) ∙ e) (sym (get-set-other table (table_place x) (table_place name) last other) ∙ f))
]

-- a name that the table has stands where its last place is
pub sees-is : (table : List ℕ) (names : List (List ℕ)) (name : List ℕ) (seen : ℕ) → SeesLast table names → slice_get table (table_place name) ≡ Some seen → slice_get names seen ≡ Some name → last_place name names ≡ Some seen
sees-is table names name seen h t e =
    let a = last-after name names seen e in
    let l : a.place ≤ seen = h name a.place seen a.is t in
    let q : a.place ≡ seen = omega (arith, l, a.behind) in
    a.is ∙ ap Some q

-- ---- the map

pub maps-none : (named : List ℕ → Option ℕ) (count : ℕ) → count ≡ 0 → ((name : List ℕ) → named name ≡ None) → Maps named count []
unfolding last_place
maps-none named count e h = record { few = omega (arith, e); is = λ name. h name ∙ sym (ap (last_place name) (take_all count [] (omega arith))) }

-- no name has a place in an empty map
pub none-mapped : {Y : Type 0} (m : BTreeMap (String Y) ℕ) → m.entries ≡ [] → (name : List ℕ) → get_by_text m name ≡ None
none-mapped m e name = ap (λ es. lookup (λ k. is_eq (slice_cmp nat_cmp name (string_bytes k))) es) e

-- names come behind
pub maps-more : (named : List ℕ → Option ℕ) (count : ℕ) (names more : List (List ℕ)) → Maps named count names → Maps named count (names ++ more)
maps-more named count names more h = record {
  few = omega (arith, h.few, length-append names more);
  is = λ name. h.is name ∙ ap (last_place name) (sym (take-append-le count names more h.few));
}

-- the next name comes into the map
pub maps-next : (named new : List ℕ → Option ℕ) (count next : ℕ) (names : List (List ℕ)) (x : List ℕ) → next ≡ count + 1 → slice_get names count ≡ Some x → ((y : List ℕ) → new y ≡ cond (bytes_eq x y) (Some count) (named y)) → Maps named count names → Maps new next names
maps-next named new count next names x n e u h =
    let w : count < length names = slice_get_within names count x e in
    let long : count ≡ length (take count names) = sym (length-take-le count names h.few) in
    let t : take next names ≡ take count names ++ (x ∷ []) = ap (λ z. take z names) n ∙ (take_more names count x w ∙ ap (λ z. take count names ++ (z ∷ [])) (get_or_from_slice_get names count x x e)) in
    record {
      few = omega (arith, n, w);
      is = λ y. u y ∙ ((λ z. cond (bytes_eq x y) (Some (long z)) (h.is y z)) ∙ (sym (place-push y (take count names) x) ∙ ap (last_place y) (sym t)));
    }

-- all names are in the map
pub maps-all : (named : List ℕ → Option ℕ) (count : ℕ) (names : List (List ℕ)) → length names ≤ count → Maps named count names → (name : List ℕ) → named name ≡ last_place name names
maps-all named count names l h name = h.is name ∙ ap (last_place name) (take_all count names l)

-- ---- all of them

stand-none : (text : List ℕ) (spans : List Span) → spans ≡ [] → StandIn text spans []
stand-none text spans e = subst (λ z. StandIn text z []) (sym e) tt

-- no names
pub names-none : (a : Anchors) → a.spans.items ≡ [] → a.mapped ≡ 0 → ((name : List ℕ) → get_by_text a.places name ≡ None) → Names a []
names-none a e m h = record { texts = stand-none (text_of a.text) a.spans.items e; sees = sees-none a.recent.items; maps = maps-none (get_by_text a.places) a.mapped m h }

none-standing : (text : List ℕ) (spans : List Span) (names : List (List ℕ)) → length spans ≤ 0 → StandIn text spans names → names ≡ []
none-standing text [] [] l h = refl
none-standing text (s ∷ spans) names l h = absurd (omega arith)
none-standing text [] (x ∷ names) l h = absurd h

-- any table will do where there are no names
pub names-tabled : (a b : Anchors) (names : List (List ℕ)) → length a.spans.items ≤ 0 → b.text ≡ a.text → b.spans ≡ a.spans → b.places ≡ a.places → b.mapped ≡ a.mapped → Names a names → Names b names
names-tabled a b names l et es ep em h =
    let e = none-standing (text_of a.text) a.spans.items names l h.texts in
    record {
      texts = subst (λ z. StandIn (text_of z) b.spans.items names) (sym et) (subst (λ z. StandIn (text_of a.text) z.items names) (sym es) h.texts);
      sees = subst (SeesLast b.recent.items) (sym e) (sees-none b.recent.items);
      maps = subst (λ z. Maps (get_by_text z) b.mapped names) (sym ep) (subst (λ z. Maps (get_by_text a.places) z names) (sym em) h.maps);
    }

-- one name more
pub names-more : (a b : Anchors) (names : List (List ℕ)) (x : List ℕ) (s : Span) (last hash : ℕ) → PutsText a.text b.text x s → b.spans.items ≡ a.spans.items ++ (s ∷ [])
    → last ≡ length names → hash ≡ table_place x → b.recent.items ≡ set a.recent.items hash last → b.places ≡ a.places → b.mapped ≡ a.mapped → Names a names → Names b (names ++ (x ∷ []))
names-more a b names x s last hash put ep en eh er em ec h = record {
  texts = stand-new a.text b.text a.spans.items b.spans.items names s x put ep h.texts;
  sees = subst (λ z. SeesLast z (names ++ (x ∷ []))) (sym (er ∙ ap (λ z. set a.recent.items z last) eh)) (sees-new a.recent.items names x last en h.sees);
  maps = subst (λ z. Maps (get_by_text z) b.mapped (names ++ (x ∷ []))) (sym em) (subst (λ z. Maps (get_by_text a.places) z (names ++ (x ∷ []))) (sym ec) (maps-more (get_by_text a.places) a.mapped names (x ∷ []) h.maps));
}
