-- A store as it grows.
use Rattle.std.proofs.Common.{◌≡◌, ℕ, suc, min, ◌%◌, ◌<◌, ◌≤◌, true, false, List, [], ◌∷◌, ◌++◌, length, map, refl, sym, ◌∙◌, ap, subst, arith, append-nil, append_assoc, length-append}
use Rattle.std.specs.Prelude.{Some}
use Rattle.std.specs.List.{slice_get, slice_range, All}
use Rattle.std.specs.Str.{IsUtf8}
use Rattle.std.proofs.lemmas.List.{length-map, get_or_append_left}
use Rattle.std.proofs.lemmas.Option.{slice_get_within, get_or_from_slice_get}
use Rattle.yaml_definitions.specs.model.Limits.{height_limit}
use Rattle.yaml_definitions.specs.model.Tree.{Tree, scalar, sequence, mapping, heights}
use Rattle.yaml_tree.specs.TreeLists.{tree_at, cut, trees as part_list, pairs}
use Rattle.yaml_tree.specs.ComposerSteps.{paired, collection_from}
use Rattle.yaml_tree.proofs.Lists.{get-end}
use Rattle.yaml_tree.specs.View.{content, items, entries, inside_tree}
use Rattle.yaml_tree.specs.Insides.{trees_held}
use Rattle.yaml_store.specs.declared.memo.Memo.{Memo}
use Rattle.yaml_store.specs.declared.nodes.Node.{Node}
use Rattle.yaml_store.specs.declared.nodes.Span.{Span}
use Rattle.yaml_store.specs.declared.nodes.Kind.{Kind}
use Rattle.yaml_store.specs.declared.nodes.Kind.TheVariants as kinds
use Rattle.yaml_store.specs.declared.nodes.Place.{Place}
use Rattle.yaml_store.specs.declared.nodes.Place.TheVariants.{Scalar, Sequence, Mapping}
use Rattle.yaml_store.specs.declared.store.Store.{Store}
use Rattle.yaml_store.specs.declared.tag_numbers.TagNumbers.{TagNumbers}
use Rattle.yaml_store.specs.StoreModel.{SpanWithin, place, place_of, inside_of, tag_at, parts_at, node_held, trees_stored, room_of, share, start_of, end_of, AllPlaced}
use Rattle.yaml_store.specs.StoreGrows.{Sound, Good, Keeps, tags_of, trees_of}
use Rattle.yaml_store.proofs.Growing.{Grown, one-more, range-new, trees-count, stands-at}
use Rattle.yaml_store.proofs.Parts.{paired-map, paired-below, even-pairs}

-- ---- no node

pub sound-none : (tags : List (List ℕ)) (text is : List ℕ) (es : List (ℕ × ℕ)) (nodes : List Node) → nodes ≡ [] → Sound tags text is es nodes
sound-none tags text is es nodes e = subst (Sound tags text is es) (sym e) (record {
  few = omega arith;
  placed = λ i n h. absurd (cc);
  apart = λ i j m n l a b h. absurd (cc);
  below = λ i n h. absurd (cc);
  texts = λ i n h. absurd (cc);
  measured = λ i n h. absurd (cc);
})

pub trees-none : (tags : List (List ℕ)) (text is : List ℕ) (es : List (ℕ × ℕ)) (nodes : List Node) → nodes ≡ [] → trees_stored nodes text is es tags ≡ []
trees-none tags text is es nodes e = ap (λ z. trees_stored z text is es tags) e

-- ---- one more node

module _ (tags : List (List ℕ)) (text is : List ℕ) (es : List (ℕ × ℕ)) (nodes : List Node) (old : Sound tags text is es nodes) where
  abbrev ts : List Tree
  ts = trees_stored nodes text is es tags

  pub scalar-more : (tag : ℕ) (span : Span) (x text2 more : List ℕ) (nodes2 : List Node) → tag < length tags → SpanWithin (length text2) span → text2 ≡ text ++ more → slice_range text2 span.start span.end ≡ x → IsUtf8 x
      → nodes2 ≡ nodes ++ ((record { kind = kinds.Scalar; tag = tag; height = 0; span = span }) ∷ []) → length nodes2 < 4294967296 → Grown tags text2 is es nodes2 ts (scalar (tag_at tags tag) x)
  scalar-more tag span x text2 more nodes2 tagged within e there utf8 q few =
      let n : Node = record { kind = kinds.Scalar; tag = tag; height = 0; span = span } in
      let room : span.end ≤ length (text ++ more) = subst (λ z. span.end ≤ length z) e within.1 in
      one-more tags text more is [] es [] nodes old n tagged within.0 room (λ t h. absurd (alone t h))
      (λ j d l. absurd (omega arith), λ j d l. absurd (omega arith)) (content x) (ap content (subst (λ z. slice_range z span.start span.end ≡ x) e there)) utf8 refl (omega (arith, ap length q)) text2 is es nodes2 e (sym (append-nil is)) (sym (append-nil es)) q
    where
      alone : (t : Place) → share t (Scalar span) ≡ true → ⊥
      alone (Scalar u) h = cc
      alone (Sequence u) h = cc
      alone (Mapping u) h = cc

  pub sequence-more : (tag high start end : ℕ) (part is2 : List ℕ) (nodes2 : List Node) → tag < length tags → start ≡ length is → end ≡ length is2 → is2 ≡ is ++ part → All (λ i. i < length ts) part → high ≡ min (heights (part_list (parts_at ts part))) (suc height_limit)
      → nodes2 ≡ nodes ++ ((record { kind = kinds.Sequence; tag = tag; height = high; span = record { start = start; end = end } }) ∷ []) → length nodes2 < 4294967296 → Grown tags text is2 es nodes2 ts (collection_from false (tag_at tags tag) (parts_at ts part))
  sequence-more tag high start end part is2 nodes2 tagged a b e low h q few =
      let n : Node = record { kind = kinds.Sequence; tag = tag; height = high; span = record { start = start; end = end } } in
      let last : end ≡ length (is ++ part) = b ∙ ap length e in
      let inside = ap items (range-new is part start end a last) in
      one-more tags text [] is part es [] nodes old n tagged (omega (arith, length-append is part)) (omega arith) behind
      (subst (All (λ i. i < length nodes)) (sym (range-new is part start end a last)) (subst (λ k. All (λ i. i < k) part) (trees-count nodes text is es tags) low), λ j d l. absurd (omega arith)) (items part) inside tt h (omega (arith, ap length q)) text is2 es nodes2 (sym (append-nil text)) e (sym (append-nil es)) q
    where
      behind : (t : Place) → share t (Sequence (record { start = start; end = end })) ≡ true → room_of (length text) (length is) (length es) t ≤ start
      behind (Scalar u) w = cc
      behind (Sequence u) w = omega arith
      behind (Mapping u) w = cc

  pub mapping-more : (tag high start end : ℕ) (parts : List ℕ) (es2 : List (ℕ × ℕ)) (nodes2 : List Node) → tag < length tags → start ≡ length es → end ≡ length es2 → es2 ≡ es ++ paired parts → length parts % 2 ≡ 0 → All (λ i. i < length ts) parts → high ≡ min (heights (part_list (parts_at ts parts))) (suc height_limit)
      → nodes2 ≡ nodes ++ ((record { kind = kinds.Mapping; tag = tag; height = high; span = record { start = start; end = end } }) ∷ []) → length nodes2 < 4294967296 → Grown tags text is es2 nodes2 ts (collection_from true (tag_at tags tag) (parts_at ts parts))
  mapping-more tag high start end parts es2 nodes2 tagged a b e even low h q few =
      let n : Node = record { kind = kinds.Mapping; tag = tag; height = high; span = record { start = start; end = end } } in
      let last : end ≡ length (es ++ paired parts) = b ∙ ap length e in
      let inside = ap entries (range-new es (paired parts) start end a last) in
      let same = paired-map (tree_at ts) parts in
      let count : length (parts_at ts parts) % 2 ≡ 0 = ap (λ k. k % 2) (length-map {B = Tree} parts (tree_at ts)) ∙ even in
      let tall : high ≡ cut (mapping (tag_at tags tag) (pairs (map {B = Tree × Tree} (λ p. (tree_at ts p.0, tree_at ts p.1)) (paired parts)))) = h ∙ (ap (λ k. min k (suc height_limit)) (sym (even-pairs (parts_at ts parts) count)) ∙ ap (λ ps. cut (mapping (tag_at tags tag) (pairs ps))) (sym same)) in
      let grown = one-more tags text [] is [] es (paired parts) nodes old n tagged (omega (arith, length-append es (paired parts))) (omega arith) behind
      (λ j d l. absurd (omega arith), subst (All (λ (p : ℕ × ℕ). (p.0 < length nodes) × (p.1 < length nodes))) (sym (range-new es (paired parts) start end a last)) (paired-below (length nodes) parts (subst (λ k. All (λ i. i < k) parts) (trees-count nodes text is es tags) low))) (entries (paired parts)) inside tt tall (omega (arith, ap length q)) text is es2 nodes2 (sym (append-nil text)) (sym (append-nil is)) e q in
      subst (λ ps. Grown tags text is es2 nodes2 ts (mapping (tag_at tags tag) (pairs ps))) same grown
    where
      behind : (t : Place) → share t (Mapping (record { start = start; end = end })) ≡ true → room_of (length text) (length is) (length es) t ≤ start
      behind (Scalar u) w = cc
      behind (Sequence u) w = cc
      behind (Mapping u) w = omega arith

-- ---- a node that is there

module _ (tags : List (List ℕ)) (text is : List ℕ) (es : List (ℕ × ℕ)) (nodes : List Node) (s : Sound tags text is es nodes) (i : ℕ) (n : Node) (there : slice_get nodes i ≡ Some n) (k : Kind) (is-kind : n.kind ≡ k) where
  abbrev us : List Tree
  us = trees_stored nodes text is es tags

  pub span-seen : (start_of (place k n.span) ≤ end_of (place k n.span)) × (end_of (place k n.span) ≤ room_of (length text) (length is) (length es) (place k n.span))
  span-seen =
      let p = s.placed i n there in
      let e = ap (λ z. place z n.span) is-kind in
      (subst (λ z. start_of z ≤ end_of z) e p.0, subst (λ z. end_of z ≤ room_of (length text) (length is) (length es) z) e p.1)

  pub stands-seen : (tag : ℕ) → n.tag ≡ tag → slice_get us i ≡ Some (inside_tree (tree_at us) (tag_at tags tag) (inside_of text is es (place k n.span)))
  stands-seen tag e = stands-at tags text is es nodes s i n there ∙ (λ z. Some (inside_tree (tree_at us) (tag_at tags (e z)) (inside_of text is es (place (is-kind z) n.span))))

module _ (tags : List (List ℕ)) (text is : List ℕ) (es : List (ℕ × ℕ)) (nodes : List Node) (s : Sound tags text is es nodes) (i : ℕ) (n : Node) (there : slice_get nodes i ≡ Some n) (tag : ℕ) (tagged : n.tag ≡ tag) where
  abbrev vs : List Tree
  vs = trees_stored nodes text is es tags

  pub scalar-seen : n.kind ≡ kinds.Scalar → (x : List ℕ) → slice_range text n.span.start n.span.end ≡ x → slice_get vs i ≡ Some (scalar (tag_at tags tag) x)
  scalar-seen k x r = stands-seen tags text is es nodes s i n there kinds.Scalar k tag tagged ∙ ap (λ z. Some (scalar (tag_at tags tag) z)) r

  pub sequence-seen : n.kind ≡ kinds.Sequence → (parts : List ℕ) → slice_range is n.span.start n.span.end ≡ parts → slice_get vs i ≡ Some (collection_from false (tag_at tags tag) (parts_at vs parts))
  sequence-seen k parts r = stands-seen tags text is es nodes s i n there kinds.Sequence k tag tagged ∙ ap (λ z. Some (sequence (tag_at tags tag) (part_list (map (tree_at vs) z)))) r

  pub mapping-seen : n.kind ≡ kinds.Mapping → (parts : List ℕ) → slice_range es n.span.start n.span.end ≡ paired parts → slice_get vs i ≡ Some (collection_from true (tag_at tags tag) (parts_at vs parts))
  mapping-seen k parts r =
      stands-seen tags text is es nodes s i n there kinds.Mapping k tag tagged
      ∙ (ap (λ z. Some (mapping (tag_at tags tag) (pairs (map {B = Tree × Tree} (λ p. (tree_at vs p.0, tree_at vs p.1)) z)))) r
      ∙ ap (λ ps. Some (mapping (tag_at tags tag) (pairs ps))) (paired-map (tree_at vs) parts))

-- the new node's tree
pub grown-stands : (tags : List (List ℕ)) (text is text2 is2 : List ℕ) (es es2 : List (ℕ × ℕ)) (nodes nodes2 : List Node) (t : Tree) (k : ℕ) → Grown tags text2 is2 es2 nodes2 (trees_stored nodes text is es tags) t → k ≡ length nodes → slice_get (trees_stored nodes2 text2 is2 es2 tags) k ≡ Some t
grown-stands tags text is text2 is2 es es2 nodes nodes2 t k g e =
    let ts = trees_stored nodes text is es tags in
    subst (λ z. slice_get z k ≡ Some t) (sym g.trees) (subst (λ i. slice_get (ts ++ (t ∷ [])) i ≡ Some t) (trees-count nodes text is es tags ∙ sym e) (get-end ts t))

-- ---- one more tag

pub tag-more : (tags more : List (List ℕ)) (i : ℕ) → i < length tags → tag_at (tags ++ more) i ≡ tag_at tags i
tag-more tags more i l = get_or_append_left tags more [] i l

module _ (tags more : List (List ℕ)) (text is : List ℕ) (es : List (ℕ × ℕ)) where
  held-tagged : (a b c : ℕ) (nodes : List Node) → AllPlaced a b c (length tags) nodes → map (node_held text is es (tags ++ more)) nodes ≡ map (node_held text is es tags) nodes
  held-tagged a b c [] placed = refl
  held-tagged a b c (n ∷ nodes) placed =
      let r = held-tagged a b c nodes (λ i m h. placed (suc i) m h) in
      let e = tag-more tags more n.tag (placed 0 n refl).2 in
      λ z. (e z, inside_of text is es (place_of n)) ∷ r z

  module _ (nodes : List Node) (old : Sound tags text is es nodes) where
    pub tagged-trees : trees_stored nodes text is es (tags ++ more) ≡ trees_stored nodes text is es tags
    tagged-trees = ap trees_held (held-tagged (length text) (length is) (length es) nodes old.placed)

    pub tagged-sound : Sound (tags ++ more) text is es nodes
    tagged-sound = record {
      few = old.few;
      placed = λ i n e. let p = old.placed i n e in (p.0, p.1, (let q = p.2 in omega (arith, length-append tags more)));
      apart = old.apart;
      below = old.below;
      texts = old.texts;
      measured = subst (λ us. (i : ℕ) (n : Node) → slice_get nodes i ≡ Some n → n.height ≡ cut (tree_at us i)) (sym tagged-trees) old.measured;
    }

pub record Tagged (gs hs : List (List ℕ)) (t : List ℕ) (text is : List ℕ) (es : List (ℕ × ℕ)) (nodes : List Node) : Type 0 where
  pub sound : Sound hs text is es nodes
  pub tags : hs ≡ gs ++ (t ∷ [])
  pub trees : trees_stored nodes text is es hs ≡ trees_stored nodes text is es gs ++ []
  pub last : slice_get hs (length gs) ≡ Some t

pub tagged : (tags tags2 : List (List ℕ)) (t : List ℕ) (text is : List ℕ) (es : List (ℕ × ℕ)) (nodes : List Node) → Sound tags text is es nodes → tags2 ≡ tags ++ (t ∷ []) → Tagged tags tags2 t text is es nodes
tagged tags tags2 t text is es nodes s e =
    let made : Tagged tags (tags ++ (t ∷ [])) t text is es nodes = record {
      sound = tagged-sound tags (t ∷ []) text is es nodes s;
      tags = refl;
      trees = tagged-trees tags (t ∷ []) text is es nodes s ∙ sym (append-nil (trees_stored nodes text is es tags));
      last = get-end tags t;
    } in
    subst (λ z. Tagged tags z t text is es nodes) (sym e) made

-- ---- what is kept

pub kept-same : (s : Store) → Good s → Keeps s s
kept-same s h = record { good = h; more_tags = []; tags = sym (append-nil (tags_of s)); more = []; trees = sym (append-nil (trees_of s)) }

pub kept-both : (a b c : Store) → Keeps a b → Keeps b c → Keeps a c
kept-both a b c h k = record {
  good = k.good;
  more_tags = h.more_tags ++ k.more_tags;
  tags = k.tags ∙ (ap (λ z. z ++ k.more_tags) h.tags ∙ append_assoc (tags_of a) h.more_tags k.more_tags);
  more = h.more ++ k.more;
  trees = k.trees ∙ (ap (λ z. z ++ k.more) h.trees ∙ append_assoc (trees_of a) h.more k.more);
}

-- the table of what was met last may be any
pub kept-memo : (old new : Store) (m : Memo) → Keeps old new → Keeps old (record new { memo = m })
kept-memo old new m h = record { good = h.good; more_tags = h.more_tags; tags = h.tags; more = h.more; trees = h.trees }

-- and so may the numbers of tags
pub kept-numbers : (old new : Store) (m : TagNumbers) → Keeps old new → Keeps old (record new { numbers = m })
kept-numbers old new m h = record { good = h.good; more_tags = h.more_tags; tags = h.tags; more = h.more; trees = h.trees }

-- what a tag is, by its number
pub record TagIs (tags : List (List ℕ)) (i : ℕ) (t : List ℕ) : Type 0 where
  pub within : i < length tags
  pub is : tag_at tags i ≡ t

pub tag-is : (tags : List (List ℕ)) (i : ℕ) (t : List ℕ) → slice_get tags i ≡ Some t → TagIs tags i t
tag-is tags i t e = record { within = slice_get_within tags i t e; is = get_or_from_slice_get tags i t [] e }
