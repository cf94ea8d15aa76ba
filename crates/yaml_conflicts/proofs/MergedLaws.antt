-- Merges of streams.
use Rattle.std.proofs.Common.{◌≡◌, ℕ, zero, suc, Bool, true, false, ◌&&◌, ◌==◌, ◌⊎◌, [], ◌∷◌, inl, inr, refl, sym, ◌∙◌, ap, arith}
use Rattle.std.specs.Prelude.{◌↔◌, Option, Some, None}
use Rattle.std.proofs.lemmas.Bool.{eqb-true, eq-eqb}
use Rattle.yaml_definitions.specs.model.Tree.{Tree, Trees, end, item}
use Rattle.yaml_definitions.specs.model.Same.{same, same_trees, keyed, keyed_trees}
use Rattle.yaml_definitions.proofs.Members.{and_both, both_and}
use Rattle.yaml_path.specs.Path.{Path, at_item, at_key, item_in}
use Rattle.yaml_path.specs.Ways.{count_in}
use Rattle.yaml_conflicts.specs.Merge.{alike, follows, is_ruled, IsMerge, IsKeyed}
use Rattle.yaml_conflicts.specs.MergedStreams.{stream, are_paired, DocumentBreaks, StreamBreaks, StreamConflicts, IsStreamMerge}
use Rattle.yaml_conflicts.specs.Laws.{IsOfSide}
use Rattle.yaml_conflicts.proofs.RuleLaws.{alike-self, by-rule, rule-by, ruled-by, true-false, not-true, not-false, follows-ruled, follows-either, follows-merge, strays-either, conflict-none}
use Rattle.yaml_conflicts.proofs.ShownLaws.{part-keyed, merge-alike}
use Rattle.yaml_conflicts.proofs.ExistLaws.{ruled-tree, tree-decided}

-- ---- equal streams

stream-like : (ts us : Trees) → alike (stream ts) (stream us) ≡ true → same_trees ts us ≡ true
unfolding same
stream-like ts us e = e

pub like-count : (ts us : Trees) → same_trees ts us ≡ true → count_in ts ≡ count_in us
unfolding same
like-count end end e = refl
like-count (item t ts) (item u us) e = ap suc (like-count ts us (and_both (same t u) (same_trees ts us) e).1)
like-count end (item u us) e = absurd (cc)
like-count (item t ts) end e = absurd (cc)

pub like-at : (ts us : Trees) → same_trees ts us ≡ true → (k : ℕ) → alike (item_in ts k) (item_in us k) ≡ true
unfolding same
like-at end end e k = refl
like-at (item t ts) (item u us) e zero = (and_both (same t u) (same_trees ts us) e).0
like-at (item t ts) (item u us) e (suc k) = like-at ts us (and_both (same t u) (same_trees ts us) e).1 k
like-at end (item u us) e k = absurd (cc)
like-at (item t ts) end e k = absurd (cc)

pub all-like : (ts us : Trees) → ((k : ℕ) → alike (item_in ts k) (item_in us k) ≡ true) → same_trees ts us ≡ true
unfolding same
all-like end end h = refl
all-like (item t ts) (item u us) h = both_and (same t u) (same_trees ts us) (h 0) (all-like ts us (λ k. h (suc k)))
all-like end (item u us) h = let e = h 0 in absurd (cc)
all-like (item t ts) end h = let e = h 0 in absurd (cc)

-- ---- pairs of documents

record Paired (b o t m : Trees) : Type 0 where
  ours : count_in b ≡ count_in o
  theirs : count_in b ≡ count_in t
  merge : count_in b ≡ count_in m

paired : (b o t m : Trees) → are_paired b o t m ≡ true → Paired b o t m
paired b o t m e =
    let x = and_both (count_in b == count_in o) ((count_in b == count_in t) && (count_in b == count_in m)) e in
    let y = and_both (count_in b == count_in t) (count_in b == count_in m) x.1 in
    record { ours = eqb-true (count_in b) (count_in o) x.0; theirs = eqb-true (count_in b) (count_in t) y.0; merge = eqb-true (count_in b) (count_in m) y.1 }

are-paired : (b o t m : Trees) → Paired b o t m → are_paired b o t m ≡ true
are-paired b o t m p =
    both_and (count_in b == count_in o) ((count_in b == count_in t) && (count_in b == count_in m)) (eq-eqb (count_in b) (count_in o) p.ours)
    (both_and (count_in b == count_in t) (count_in b == count_in m) (eq-eqb (count_in b) (count_in t) p.theirs) (eq-eqb (count_in b) (count_in m) p.merge))

-- the documents of the merge count for nothing where no merge is given
paired-base : (b o t m : Trees) → are_paired b o t m ≡ true → are_paired b o t b ≡ true
paired-base b o t m e = let p = paired b o t m e in are-paired b o t b (record { ours = p.ours; theirs = p.theirs; merge = refl })

-- a stream that follows the rules has as many documents as the sides
follows-paired : (b o t m : Trees) → are_paired b o t b ≡ true → follows (stream b) (stream o) (stream t) (stream m) ≡ true → are_paired b o t m ≡ true
follows-paired b o t m e f =
    let p = paired b o t b e in
    are-paired b o t m (record {
      ours = p.ours;
      theirs = p.theirs;
      merge = elim (by-rule (stream b) (stream o) (stream t) (stream m) f) [
        | inl x ↦ p.theirs ∙ sym (like-count m t (stream-like m t x.1))
        | inr (inl x) ↦ p.ours ∙ sym (like-count m o (stream-like m o x.1))
        | inr (inr x) ↦ p.ours ∙ sym (like-count m o (stream-like m o x.1))
      ];
    })

-- each document of a stream that follows the rules does
rule-at : (b o t m : Trees) → follows (stream b) (stream o) (stream t) (stream m) ≡ true → (k : ℕ) → follows (item_in b k) (item_in o k) (item_in t k) (item_in m k) ≡ true
rule-at b o t m f k = rule-by (item_in b k) (item_in o k) (item_in t k) (item_in m k) (elim (by-rule (stream b) (stream o) (stream t) (stream m) f) [
  | inl x ↦ inl (like-at o b (stream-like o b x.0) k, like-at m t (stream-like m t x.1) k)
  | inr (inl x) ↦ inr (inl (like-at t b (stream-like t b x.0) k, like-at m o (stream-like m o x.1) k))
  | inr (inr x) ↦ inr (inr (like-at o t (stream-like o t x.0) k, like-at m o (stream-like m o x.1) k))
])

-- ---- documents

abbrev IsDocumentMerge : Bool → (b o t m : Option Tree) → Type 0
IsDocumentMerge is_alone b o t m = (p : Path) → DocumentBreaks true is_alone p b o t m → ⊥

follows-document : (is_alone : Bool) (b o t m : Option Tree) → follows b o t m ≡ true → IsDocumentMerge is_alone b o t m
follows-document true b o t m f p s = follows-merge b o t m f p s
follows-document false b o t m f p s = true-false f s.0

document-merge : (is_alone : Bool) (b o t m : Option Tree) → IsDocumentMerge is_alone b o t m → IsMerge b o t m
document-merge true b o t m h = h
document-merge false b o t m h = follows-merge b o t m (not-false (follows b o t m) (λ e. h [] (e, refl)))

document-side : (is_alone : Bool) (b o t m : Option Tree) → IsDocumentMerge is_alone b o t m → is_alone ≡ false → IsOfSide o t m
document-side true b o t m h e = absurd (cc)
document-side false b o t m h e = elim (by-rule b o t m (not-false (follows b o t m) (λ x. h [] (x, refl)))) [ inl x ↦ inr x.1 | inr (inl x) ↦ inl x.1 | inr (inr x) ↦ inl x.1 ]

document-none : (is_alone : Bool) (p : Path) (b o t m : Option Tree) → DocumentBreaks false is_alone p b o t b → IsDocumentMerge is_alone b o t m → ⊥
document-none true p b o t m c h = conflict-none p b o t m c h
document-none false p b o t m c h = h [] (not-true (follows b o t m) (λ e. true-false (follows-ruled b o t m e) c.0), refl)

document-either : (is_alone : Bool) (p : Path) (b o t m : Option Tree) → DocumentBreaks true is_alone p b t o m → DocumentBreaks true is_alone p b o t m
document-either true p b o t m s = strays-either p b o t m s
document-either false p b o t m s = (not-true (follows b o t m) (λ e. true-false (follows-either b o t m e) s.0), s.1)

-- there is a conflict, or a merge
document-decided : (is_alone : Bool) (b o t : Tree) → keyed b ≡ true → keyed o ≡ true → keyed t ≡ true → ((p : Path) × DocumentBreaks false is_alone p (Some b) (Some o) (Some t) (Some b)) ⊎ ((m : Tree) × (keyed m ≡ true) × IsDocumentMerge is_alone (Some b) (Some o) (Some t) (Some m))
document-decided true b o t kb ko kt = tree-decided b o t kb ko kt
document-decided false b o t kb ko kt = by (is_ruled (Some b) (Some o) (Some t)) refl
  where
    by : (z : Bool) → is_ruled (Some b) (Some o) (Some t) ≡ z → ((p : Path) × DocumentBreaks false false p (Some b) (Some o) (Some t) (Some b)) ⊎ ((m : Tree) × (keyed m ≡ true) × IsDocumentMerge false (Some b) (Some o) (Some t) (Some m))
    by true e = let m = ruled-tree b o t ko kt e in inr (m.0, m.1, follows-document false (Some b) (Some o) (Some t) (Some m.0) m.2)
    by false e = inl ([], (e, refl))

abbrev AtPlaces : Bool → (b o t m : Trees) → Type 0
AtPlaces is_alone b o t m = (k : ℕ) → IsDocumentMerge is_alone (item_in b k) (item_in o k) (item_in t k) (item_in m k)

abbrev DocumentsDecided : Bool → (b o t : Trees) → Type 0
DocumentsDecided is_alone b o t =
    ((k : ℕ) × (p : Path) × DocumentBreaks false is_alone p (item_in b k) (item_in o k) (item_in t k) (item_in b k)) ⊎ ((m : Trees) × (keyed_trees m ≡ true) × (count_in b ≡ count_in m) × AtPlaces is_alone b o t m)

no-document : (is_alone : Bool) → IsDocumentMerge is_alone None None None None
no-document is_alone = follows-document is_alone None None None None refl

next-document : (is_alone : Bool) (x y z w : Tree) (b o t m : Trees) → IsDocumentMerge is_alone (Some x) (Some y) (Some z) (Some w) → AtPlaces is_alone b o t m → AtPlaces is_alone (item x b) (item y o) (item z t) (item w m)
next-document is_alone x y z w b o t m h f zero = h
next-document is_alone x y z w b o t m h f (suc k) = f k

documents-decided : (is_alone : Bool) (b o t : Trees) → keyed_trees b ≡ true → keyed_trees o ≡ true → keyed_trees t ≡ true → count_in b ≡ count_in o → count_in b ≡ count_in t → DocumentsDecided is_alone b o t
documents-decided is_alone end end end kb ko kt e f = inr (end, refl, refl, λ k. no-document is_alone)
documents-decided is_alone (item x b) (item y o) (item z t) kb ko kt e f =
    let kx = and_both (keyed x) (keyed_trees b) kb in
    let ky = and_both (keyed y) (keyed_trees o) ko in
    let kz = and_both (keyed z) (keyed_trees t) kt in
    elim (document-decided is_alone x y z kx.0 ky.0 kz.0) [
      | inl c ↦ inl (0, c.0, c.1)
      | inr m ↦ elim (documents-decided is_alone b o t kx.1 ky.1 kz.1 (omega (arith, e)) (omega (arith, f))) [
        | inl c ↦ inl (suc c.0, c.1, c.2)
        | inr n ↦ inr (item m.0 n.0, both_and (keyed m.0) (keyed_trees n.0) m.1 n.1, ap suc n.2, next-document is_alone x y z m.0 b o t n.0 m.2 n.3)
      ]
    ]
documents-decided is_alone end (item y o) t kb ko kt e f = absurd (omega (arith, e))
documents-decided is_alone end end (item z t) kb ko kt e f = absurd (omega (arith, f))
documents-decided is_alone (item x b) end t kb ko kt e f = absurd (omega (arith, e))
documents-decided is_alone (item x b) (item y o) end kb ko kt e f = absurd (omega (arith, f))

-- ---- merges

pub follows-stream : (b o t m : Trees) → follows (stream b) (stream o) (stream t) (stream m) ≡ true → IsStreamMerge b o t m
follows-stream b o t m f [] s = true-false f s.1
follows-stream b o t m f (at_item k ∷ p) s = follows-document (count_in b == 1) (item_in b k) (item_in o k) (item_in t k) (item_in m k) (rule-at b o t m f k) p s.1
follows-stream b o t m f (at_key x ∷ p) s = s

paired-merge : (b o t m : Trees) → are_paired b o t m ≡ true → AtPlaces (count_in b == 1) b o t m → IsStreamMerge b o t m
paired-merge b o t m e h [] s = true-false e s.0
paired-merge b o t m e h (at_item k ∷ p) s = h k p s.1
paired-merge b o t m e h (at_key x ∷ p) s = s

merge-paired : (b o t m : Trees) → are_paired b o t m ≡ true → IsStreamMerge b o t m → AtPlaces (count_in b == 1) b o t m
merge-paired b o t m e h k p s = h (at_item k ∷ p) (e, s)

merge-apart : (b o t m : Trees) → are_paired b o t m ≡ false → IsStreamMerge b o t m → follows (stream b) (stream o) (stream t) (stream m) ≡ true
merge-apart b o t m e h = not-false (follows (stream b) (stream o) (stream t) (stream m)) (λ f. h [] (e, f))

pub documents-merged : (b o t m : Trees) → are_paired b o t m ≡ true → IsStreamMerge b o t m → (k : ℕ) → IsMerge (item_in b k) (item_in o k) (item_in t k) (item_in m k) × ((count_in b == 1) ≡ false → IsOfSide (item_in o k) (item_in t k) (item_in m k))
documents-merged b o t m e h k =
    let d = merge-paired b o t m e h k in
    (document-merge (count_in b == 1) (item_in b k) (item_in o k) (item_in t k) (item_in m k) d, document-side (count_in b == 1) (item_in b k) (item_in o k) (item_in t k) (item_in m k) d)

breaks-either : (p : Path) (b o t m : Trees) → StreamBreaks true p b t o m → StreamBreaks true p b o t m
breaks-either [] b o t m s = (
  not-true (are_paired b o t m) (λ e. let p = paired b o t m e in true-false (are-paired b t o m (record { ours = p.theirs; theirs = p.ours; merge = p.merge })) s.0),
  not-true (follows (stream b) (stream o) (stream t) (stream m)) (λ e. true-false (follows-either (stream b) (stream o) (stream t) (stream m) e) s.1),
)
breaks-either (at_item k ∷ q) b o t m s = (
  (let p = paired b t o m s.0 in are-paired b o t m (record { ours = p.theirs; theirs = p.ours; merge = p.merge })),
  document-either (count_in b == 1) q (item_in b k) (item_in o k) (item_in t k) (item_in m k) s.1,
)
breaks-either (at_key x ∷ q) b o t m s = s

pub stream-either : (b o t m : Trees) → IsStreamMerge b o t m → IsStreamMerge b t o m
stream-either b o t m h p s = h p (breaks-either p b o t m s)

pub stream-sides : (b o : Trees) → IsStreamMerge b b o o × IsStreamMerge b o b o × IsStreamMerge b o o o
stream-sides b o =
    let x = alike-self (stream b) in
    let y = alike-self (stream o) in (
      follows-stream b b o o (rule-by (stream b) (stream b) (stream o) (stream o) (inl (x, y))),
      follows-stream b o b o (rule-by (stream b) (stream o) (stream b) (stream o) (inr (inl (x, y)))),
      follows-stream b o o o (rule-by (stream b) (stream o) (stream o) (stream o) (inr (inr (y, y)))),
    )

-- ---- a merge exists, or there is a conflict

stream-none : (p : Path) (b o t m : Trees) → StreamConflicts p b o t → IsStreamMerge b o t m → ⊥
stream-none [] b o t m c h = h [] (not-true (are_paired b o t m) (λ e. true-false (paired-base b o t m e) c.0), not-true (follows (stream b) (stream o) (stream t) (stream m)) (λ e. true-false (follows-ruled (stream b) (stream o) (stream t) (stream m) e) c.1))
stream-none (at_item k ∷ p) b o t m c h = by (are_paired b o t m) refl
  where
    by : (z : Bool) → are_paired b o t m ≡ z → ⊥
    by true e = document-none (count_in b == 1) p (item_in b k) (item_in o k) (item_in t k) (item_in m k) c.1 (merge-paired b o t m e h k)
    by false e = true-false (follows-paired b o t m c.0 (merge-apart b o t m e h)) e
stream-none (at_key x ∷ p) b o t m c h = c

abbrev StreamDecided : (b o t : Trees) → Type 0
StreamDecided b o t = ((p : Path) × StreamConflicts p b o t) ⊎ ((m : Trees) × (keyed_trees m ≡ true) × IsStreamMerge b o t m)

ruled-stream : (b o t : Trees) → keyed_trees o ≡ true → keyed_trees t ≡ true → is_ruled (stream b) (stream o) (stream t) ≡ true → (m : Trees) × (keyed_trees m ≡ true) × IsStreamMerge b o t m
ruled-stream b o t ko kt h = elim (ruled-by (stream b) (stream o) (stream t) h) [
  | inl e ↦ (t, kt, follows-stream b o t t (rule-by (stream b) (stream o) (stream t) (stream t) (inl (e, alike-self (stream t)))))
  | inr (inl e) ↦ (o, ko, follows-stream b o t o (rule-by (stream b) (stream o) (stream t) (stream o) (inr (inl (e, alike-self (stream o))))))
  | inr (inr e) ↦ (o, ko, follows-stream b o t o (rule-by (stream b) (stream o) (stream t) (stream o) (inr (inr (e, alike-self (stream o))))))
]

stream-decided : (b o t : Trees) → keyed_trees b ≡ true → keyed_trees o ≡ true → keyed_trees t ≡ true → StreamDecided b o t
stream-decided b o t kb ko kt = by (are_paired b o t b) (is_ruled (stream b) (stream o) (stream t)) refl refl
  where
    by : (x y : Bool) → are_paired b o t b ≡ x → is_ruled (stream b) (stream o) (stream t) ≡ y → StreamDecided b o t
    by true y e r =
        let p = paired b o t b e in
        elim (documents-decided (count_in b == 1) b o t kb ko kt p.ours p.theirs) [
          | inl c ↦ inl (at_item c.0 ∷ c.1, (e, c.2))
          | inr m ↦ inr (m.0, m.1, paired-merge b o t m.0 (are-paired b o t m.0 (record { ours = p.ours; theirs = p.theirs; merge = m.2 })) m.3)
        ]
    by false true e r = inr (ruled-stream b o t ko kt r)
    by false false e r = inl ([], (e, r))

pub stream-exists : (b o t : Trees) → keyed_trees b ≡ true → keyed_trees o ≡ true → keyed_trees t ≡ true → ((m : Trees) × (keyed_trees m ≡ true) × IsStreamMerge b o t m) ↔ ((p : Path) → StreamConflicts p b o t → ⊥)
stream-exists b o t kb ko kt = (λ m p c. stream-none p b o t m.0 c m.2, λ n. elim (stream-decided b o t kb ko kt) [ inl c ↦ absurd (n c.0 c.1) | inr m ↦ m ])

-- ---- two merges are the same

document-keyed : (ts : Trees) (k : ℕ) → keyed_trees ts ≡ true → IsKeyed (item_in ts k)
document-keyed ts k e = part-keyed (stream ts) (at_item k) e

pub stream-one : (b o t m n : Trees) → keyed_trees b ≡ true → keyed_trees o ≡ true → keyed_trees t ≡ true → keyed_trees m ≡ true → keyed_trees n ≡ true → IsStreamMerge b o t m → IsStreamMerge b o t n → same_trees m n ≡ true
stream-one b o t m n kb ko kt km kn h g = by (are_paired b o t m) (are_paired b o t n) refl refl
  where
    by : (x y : Bool) → are_paired b o t m ≡ x → are_paired b o t n ≡ y → same_trees m n ≡ true
    by true true e f = all-like m n (λ k. merge-alike (item_in b k) (item_in o k) (item_in t k) (item_in m k) (item_in n k) (document-keyed b k kb) (document-keyed o k ko) (document-keyed t k kt) (document-keyed m k km) (document-keyed n k kn) (documents-merged b o t m e h k).0 (documents-merged b o t n f g k).0)
    by true false e f = absurd (true-false (follows-paired b o t n (paired-base b o t m e) (merge-apart b o t n f g)) f)
    by false true e f = absurd (true-false (follows-paired b o t m (paired-base b o t n f) (merge-apart b o t m e h)) e)
    by false false e f =
        stream-like m n (merge-alike (stream b) (stream o) (stream t) (stream m) (stream n) kb ko kt km kn (follows-merge (stream b) (stream o) (stream t) (stream m) (merge-apart b o t m e h)) (follows-merge (stream b) (stream o) (stream t) (stream n) (merge-apart b o t n f g)))
