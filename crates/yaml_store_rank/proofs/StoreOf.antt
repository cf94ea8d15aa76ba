-- The lists of a store hold the nodes of its view.
use Rattle.std.proofs.Common.{◌≡◌, inl, inr, ℕ, ◌≤◌, true, List, Vec, Global, length, refl, sym, ◌∙◌, ap, subst, arith}
use Rattle.std.specs.declared.cmp.Ordering.{Ordering}
use Rattle.std.specs.declared.cmp.Ordering.TheVariants.{Less, Equal, Greater}
use Rattle.std.specs.Ordering.{nat_cmp}
use Rattle.std.specs.Vec.{with_items}
use Rattle.std.proofs.lemmas.List.{with_items_is}
use Rattle.yaml_definitions.specs.model.Order.{bytes_cmp}
use Rattle.yaml_tree.specs.View.{View}
use Rattle.yaml_tree.specs.declared.visits.Visits.{Visits}
use Rattle.yaml_tree.proofs.Numbers.{less-cmp, equal-cmp, greater-cmp}
use Rattle.yaml_store.specs.declared.nodes.Place.{Place}
use Rattle.yaml_store.specs.declared.nodes.Place.TheVariants.{Scalar, Sequence, Mapping}
use Rattle.yaml_store.specs.declared.nodes.Node.{Node}
use Rattle.yaml_store.specs.declared.store.Store.{Store}
use Rattle.yaml_store.specs.TextModel.{text_of, border, AllWhole}
use Rattle.yaml_store.specs.StoreModel.{place_of, Within, Apart, PlacesApart, PartsInOrder, start_of, end_of, room_of, share}
use Rattle.yaml_store.specs.StoreGrows.{Good, IsLow, tags_of}
use Rattle.yaml_store_rank.specs.Ranking.{Stored, AllRanked}
use Rattle.yaml_store_rank.specs.TagPlaces.{PlacesAre}
use Rattle.yaml_store.specs.StoreView.{view_of, tag_in, inside_at}
use Rattle.yaml_store_rank.specs.StoreRanks.{StoreListed}
use Rattle.yaml_store.proofs.Growing.{uncut-at, within-from}

apart-from : (k l : Place) → (share k l ≡ true → end_of k ≤ start_of l) → PlacesApart k l
apart-from (Scalar s) l f = tt
apart-from (Sequence s) (Scalar t) f = tt
apart-from (Sequence s) (Sequence t) f = inl (f refl)
apart-from (Sequence s) (Mapping t) f = tt
apart-from (Mapping s) (Scalar t) f = tt
apart-from (Mapping s) (Sequence t) f = tt
apart-from (Mapping s) (Mapping t) f = inl (f refl)

apart-sym : (k l : Place) → PlacesApart k l → PlacesApart l k
apart-sym (Scalar s) (Scalar t) a = tt
apart-sym (Scalar s) (Sequence t) a = tt
apart-sym (Scalar s) (Mapping t) a = tt
apart-sym (Sequence s) (Scalar t) a = tt
apart-sym (Sequence s) (Sequence t) (inl a) = inr a
apart-sym (Sequence s) (Sequence t) (inr a) = inl a
apart-sym (Sequence s) (Mapping t) a = tt
apart-sym (Mapping s) (Scalar t) a = tt
apart-sym (Mapping s) (Sequence t) a = tt
apart-sym (Mapping s) (Mapping t) (inl a) = inr a
apart-sym (Mapping s) (Mapping t) (inr a) = inl a

all-apart : (nodes : List Node) → PartsInOrder nodes → Apart nodes
all-apart nodes order i j k l n a b = by (nat_cmp i j) refl
  where
    by : (o : Ordering) → nat_cmp i j ≡ o → PlacesApart (place_of k) (place_of l)
    by Less e = apart-from (place_of k) (place_of l) (order i j k l (less-cmp i j e) a b)
    by Equal e = absurd (n (equal-cmp i j e))
    by Greater e = apart-sym (place_of l) (place_of k) (apart-from (place_of l) (place_of k) (order j i l k (greater-cmp i j e) b a))

pub stored : (s : Store) (good : Good s) → IsLow s → (places : List ℕ) → PlacesAre (tags_of s) places → Stored (view_of s good) s.nodes.items (text_of s.text) s.items.items s.entries.items places
stored s good low places are = record {
  count = refl;
  few = good.few;
  within = λ i k e. let p = good.placed i k e in (within-from (length (text_of s.text)) (length s.items.items) (length s.entries.items) (place_of k) p.0 p.1, (let q = p.2 in let l = are.long in omega arith));
  small = are.small;
  apart = all-apart s.nodes.items good.apart;
  inside = λ i k e. ap (inside_at (text_of s.text) s.items.items s.entries.items) e;
  high = λ i k e. (uncut-at s good low i k e).0;
  placed = λ i j k l a b.
      are.agree k.tag l.tag (good.placed i k a).2 (good.placed j l b).2
      ∙ (λ z. bytes_cmp (sym (ap (tag_in (tags_of s)) a) z) (sym (ap (tag_in (tags_of s)) b) z));
}

-- the same, of lists that are those of the store
pub stored-as : (s : Store) (good : Good s) → IsLow s → (are : List ℕ) → PlacesAre (tags_of s) are → (nodes : List Node) (text is : List ℕ) (es : List (ℕ × ℕ)) (places : List ℕ) → nodes ≡ s.nodes.items → text ≡ text_of s.text → is ≡ s.items.items → es ≡ s.entries.items → places ≡ are → Stored (view_of s good) nodes text is es places
stored-as s good low are p nodes text is es places a b c d e =
    subst (λ z. Stored (view_of s good) z text is es places) (sym a) (subst (λ z. Stored (view_of s good) s.nodes.items z is es places) (sym b) (subst (λ z. Stored (view_of s good) s.nodes.items (text_of s.text) z es places) (sym c)
    (subst (λ z. Stored (view_of s good) s.nodes.items (text_of s.text) s.items.items z places) (sym d) (subst (Stored (view_of s good) s.nodes.items (text_of s.text) s.items.items s.entries.items) (sym e) (stored s good low are p)))))

pub ranked-as : (v : View) (nodes nodes2 : List Node) (text text2 is is2 : List ℕ) (es es2 : List (ℕ × ℕ)) (ranks first : List ℕ) → AllRanked v nodes text is es ranks first → nodes ≡ nodes2 → text ≡ text2 → is ≡ is2 → es ≡ es2 → AllRanked v nodes2 text2 is2 es2 ranks first
ranked-as v nodes nodes2 text text2 is is2 es es2 ranks first r a b c d =
    subst (λ z. AllRanked v z text2 is2 es2 ranks first) a (subst (λ z. AllRanked v nodes z is2 es2 ranks first) b (subst (λ z. AllRanked v nodes text z es2 ranks first) c (subst (λ z. AllRanked v nodes text is z ranks first) d r)))

-- what is kept of the lists of a store, once they are ranked
pub listed-as : (s : Store) (good : Good s) → IsLow s → (are : List ℕ) → PlacesAre (tags_of s) are → (nodes : List Node) (text is is2 : List ℕ) (es es2 : List (ℕ × ℕ)) (places : List ℕ) (ranks first : Vec ℕ Global) (visits : Visits)
    → nodes ≡ s.nodes.items → text ≡ text_of s.text → is ≡ s.items.items → es ≡ s.entries.items → places ≡ are → length is2 ≡ length is → length es2 ≡ length es
    → AllWhole (border s.text) s.nodes.items
    → (Stored (view_of s good) nodes text is es places → AllRanked (view_of s good) nodes text is2 es2 ranks.items first.items)
    → StoreListed s good record { tags = s.tags; text = s.text; items = with_items s.items is2; entries = with_items s.entries es2; nodes = s.nodes; ranks = ranks; first = first; visits = visits }
listed-as s good low are p nodes text is is2 es es2 places ranks first visits a b c d e long wide whole ranked =
    let m : length is2 ≡ length s.items.items = long ∙ ap length c in
    let n : length es2 ≡ length s.entries.items = wide ∙ ap length d in
    let f : (with_items s.items is2).items ≡ is2 = with_items_is s.items is2 (omega (arith, m, s.items.ok.0)) in
    let g : (with_items s.entries es2).items ≡ es2 = with_items_is s.entries es2 (omega (arith, n, s.entries.ok.0)) in
    record {
      nodes = refl;
      text = refl;
      whole = whole;
      tags = refl;
      ranked = ranked-as (view_of s good) _ _ _ _ _ _ _ _ _ _ (ranked (stored-as s good low are p nodes text is es places a b c d e)) a b (sym f) (sym g);
    }
