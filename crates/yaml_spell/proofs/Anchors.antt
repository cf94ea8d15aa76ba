-- What the code's walk and marks are in terms of the definitions.
use Rattle.std.proofs.Common.{◌≡◌, Bool, true, false, not, cond, ◌&&◌, ◌||◌, List, [], ◌∷◌, ◌++◌, refl, sym, ◌∙◌, ap, subst}
use Rattle.std.proofs.lemmas.List.{append_assoc, append-nil}
use Rattle.std.proofs.lemmas.List.Elements.{filter-append}
use Rattle.std.specs.List.{filter, list_any}
use Rattle.yaml_definitions.specs.model.Tree.{Tree, Trees, Pairs, scalar, sequence, mapping, end, item, done, entry}
use Rattle.yaml_definitions.specs.model.Same.{same}
use Rattle.yaml_definitions.specs.canonical.Walk.{Place, first, again, firsts, agains, is_again, walk, walk_trees, walk_pairs}
use Rattle.yaml_definitions.specs.canonical.Spell.{short}
use Rattle.yaml_definitions.proofs.Members.{and_both}
use Rattle.yaml_definitions.proofs.UnfoldLaws.{firsts-append, agains-append}
use Rattle.yaml_spell.specs.Anchored.{has}
use Rattle.yaml_definitions.proofs.Equivalence.{same_refl, same_like, short_like}
use Rattle.yaml_spell.specs.Repeats.{repeats_one, noticed, kept, kept_all, kept_pairs, repeats, repeats_all, repeats_pairs}

-- ---- lists of trees

abbrev pub Every : (Tree → Type 0) → List Tree → Type 0
Every P [] = Unit {0}
Every P (x ∷ xs) = P x × Every P xs

pub every_append : (P : Tree → Type 0) (xs ys : List Tree) → Every P xs → Every P ys → Every P (xs ++ ys)
every_append P [] ys h k = k
every_append P (x ∷ xs) ys h k = (h.0, every_append P xs ys h.1 k)

pub every_parts : (P : Tree → Type 0) (xs ys : List Tree) → Every P (xs ++ ys) → Every P xs × Every P ys
every_parts P [] ys h = (tt, h)
every_parts P (x ∷ xs) ys h = let r = every_parts P xs ys h.1 in ((h.0, r.0), r.1)

pub every_filter : (P : Tree → Type 0) (q : Tree → Bool) (xs : List Tree) → Every P xs → Every P (filter q xs)
every_filter P q [] h = tt
every_filter P q (x ∷ xs) h = by (q x) (every_filter P q xs h.1)
  where
    by : (b : Bool) → Every P (filter q xs) → Every P (cond b (x ∷ filter q xs) (filter q xs))
    by true r = (h.0, r)
    by false r = r

-- a tree that is the same as one of the list has what each of the list has
pub of_has : (P : Tree → Type 0) (t : Tree) (xs : List Tree) → ((x : Tree) → same t x ≡ true → P x → P t) → Every P xs → has xs t ≡ true → P t
of_has P t [] l h e = absurd (cc)
of_has P t (x ∷ xs) l h e = by (same t x) refl (λ g. of_has P t xs l h.1 g) e
  where
    by : (b : Bool) → same t x ≡ b → (has xs t ≡ true → P t) → (b || has xs t) ≡ true → P t
    by true i f g = l x i h.0
    by false i f g = f g

has_more : (x : Tree) (xs : List Tree) (ys : List Tree) → Every (λ z. has xs z ≡ true) ys → Every (λ z. has (x ∷ xs) z ≡ true) ys
has_more x xs [] h = tt
has_more x xs (y ∷ ys) h = (by (same y x) h.0, has_more x xs ys h.1)
  where
    by : (b : Bool) → has xs y ≡ true → (b || has xs y) ≡ true
    by true e = refl
    by false e = e

pub has_itself : (xs : List Tree) → Every (λ z. has xs z ≡ true) xs
has_itself [] = tt
has_itself (x ∷ xs) = (ap (λ b. b || has xs x) (same_refl x), has_more x xs xs (has_itself xs))

taken : (i q l r : Bool) → (i ≡ true → q ≡ true) → l ≡ (q && r) → (i || l) ≡ (q && (i || r))
taken true q l r h e = sym (ap (λ b. b && true) (h refl))
taken false q l r h e = e

left_out : (i q l r : Bool) → (i ≡ true → q ≡ false) → l ≡ (q && r) → l ≡ (q && (i || r))
left_out true q l r h e = e ∙ ap (λ b. b && r) (h refl) ∙ sym (ap (λ b. b && true) (h refl))
left_out false q l r h e = e

and_false : (q : Bool) → false ≡ (q && false)
and_false true = refl
and_false false = refl

-- a part of a list that is chosen by what trees that are the same have in common
pub has_filter : (t : Tree) (q : Tree → Bool) (b : List Tree) → ((x : Tree) → same t x ≡ true → q t ≡ q x) → has (filter q b) t ≡ (q t && has b t)
has_filter t q [] l = and_false (q t)
has_filter t q (x ∷ b) l = by (q x) refl (has_filter t q b l)
  where
    by : (c : Bool) → q x ≡ c → has (filter q b) t ≡ (q t && has b t) → has (cond c (x ∷ filter q b) (filter q b)) t ≡ (q t && (same t x || has b t))
    by true e r = taken (same t x) (q t) (has (filter q b) t) (has b t) (λ i. l x i ∙ e) r
    by false e r = left_out (same t x) (q t) (has (filter q b) t) (has b t) (λ i. l x i ∙ e) r

-- and a list has trees that are the same or none of them
pub has_like : (r : List Tree) (t u : Tree) → same t u ≡ true → has r t ≡ has r u
has_like [] t u h = refl
has_like (x ∷ r) t u h = ap (λ z. z || has r t) (same_like t u x h) ∙ ap (λ z. same u x || z) (has_like r t u h)

-- ---- the nodes written out and those that repeat

abbrev pub long : Tree → Bool
long t = not (short t)

one_kept : (t : Tree) → filter long (t ∷ []) ≡ cond (short t) [] (t ∷ [])
one_kept t = by (short t)
  where
    by : (b : Bool) → cond (not b) (t ∷ []) [] ≡ cond b [] (t ∷ [])
    by true = refl
    by false = refl

noticed_is : (t : Tree) (b : List Tree) → noticed t (filter long b) ≡ filter long (b ++ (t ∷ []))
noticed_is t b = by (short t) ∙ ap (λ z. filter long b ++ z) (sym (one_kept t)) ∙ sym (filter-append long b (t ∷ []))
  where
    by : (c : Bool) → cond c (filter long b) (filter long b ++ (t ∷ [])) ≡ filter long b ++ cond c [] (t ∷ [])
    by true = sym (append-nil (filter long b))
    by false = refl

absorb : (l h : Bool) → (l && (l && h)) ≡ (l && h)
absorb true h = refl
absorb false h = refl

again_is : (t : Tree) (b : List Tree) → repeats_one t (filter long b) ≡ is_again short t b
again_is t b = ap (λ z. long t && z) (has_filter t long b (λ x i. ap not (short_like t x i))) ∙ absorb (long t) (has b t)

put_last : (b w : List Tree) (t : Tree) → (b ++ (t ∷ [])) ++ w ≡ b ++ (t ∷ w)
put_last b w t = append_assoc b (t ∷ []) w

kept_case : (c : Bool) (t : Tree) (b n : List Tree) (w : List Place) → n ≡ filter long ((b ++ (t ∷ [])) ++ firsts w) → cond c (filter long b) n ≡ filter long (b ++ firsts (cond c (again t ∷ []) (first t ∷ w)))
kept_case true t b n w e = ap (filter long) (sym (append-nil b))
kept_case false t b n w e = e ∙ ap (filter long) (put_last b (firsts w) t)

repeats_case : (c : Bool) (t : Tree) (r : List Tree) (w : List Place) → r ≡ agains w → cond c (t ∷ []) r ≡ agains (cond c (again t ∷ []) (first t ∷ w))
repeats_case true t r w e = refl
repeats_case false t r w e = e

-- ---- the code's walk

-- what a node and those inside it do to a list of nodes
abbrev Tracks : Tree → List Tree → Type 0
Tracks t b = (kept t (filter long b) ≡ filter long (b ++ firsts (walk short t b))) × (repeats t (filter long b) ≡ agains (walk short t b))

joined : (b x y : List Tree) → (b ++ x) ++ y ≡ b ++ (x ++ y)
joined b x y = append_assoc b x y

mutual
  unfolding kept repeats walk

  pub tracked : (t : Tree) (b : List Tree) → Tracks t b
  tracked (scalar a x) b =
      let t : Tree = scalar a x in
      let e = again_is t b in (
        ap (λ c. cond c (filter long b) (noticed t (filter long b))) e ∙ kept_case (is_again short t b) t b (noticed t (filter long b)) [] (noticed_is t b ∙ ap (filter long) (sym (append-nil (b ++ (t ∷ []))))),
        ap (λ c. cond c (t ∷ []) []) e ∙ repeats_case (is_again short t b) t [] [] refl,
      )
  tracked (sequence a ts) b =
      let t : Tree = sequence a ts in
      let e = again_is t b in
      let c : List Tree = b ++ (t ∷ []) in
      let r = tracked_trees ts c in
      let w : List Place = walk_trees short ts c in (
        ap (λ z. cond z (filter long b) (kept_all ts (noticed t (filter long b)))) e ∙ kept_case (is_again short t b) t b (kept_all ts (noticed t (filter long b))) w (ap (kept_all ts) (noticed_is t b) ∙ r.0),
        ap (λ z. cond z (t ∷ []) (repeats_all ts (noticed t (filter long b)))) e ∙ repeats_case (is_again short t b) t (repeats_all ts (noticed t (filter long b))) w (ap (repeats_all ts) (noticed_is t b) ∙ r.1),
      )
  tracked (mapping a ps) b =
      let t : Tree = mapping a ps in
      let e = again_is t b in
      let c : List Tree = b ++ (t ∷ []) in
      let r = tracked_pairs ps c in
      let w : List Place = walk_pairs short ps c in (
        ap (λ z. cond z (filter long b) (kept_pairs ps (noticed t (filter long b)))) e ∙ kept_case (is_again short t b) t b (kept_pairs ps (noticed t (filter long b))) w (ap (kept_pairs ps) (noticed_is t b) ∙ r.0),
        ap (λ z. cond z (t ∷ []) (repeats_pairs ps (noticed t (filter long b)))) e ∙ repeats_case (is_again short t b) t (repeats_pairs ps (noticed t (filter long b))) w (ap (repeats_pairs ps) (noticed_is t b) ∙ r.1),
      )

  tracked_trees : (ts : Trees) (b : List Tree)
      → (kept_all ts (filter long b) ≡ filter long (b ++ firsts (walk_trees short ts b))) × (repeats_all ts (filter long b) ≡ agains (walk_trees short ts b))
  tracked_trees end b = (ap (filter long) (sym (append-nil b)), refl)
  tracked_trees (item t ts) b =
      let r = tracked t b in
      let f : List Tree = firsts (walk short t b) in
      let c : List Tree = b ++ f in
      let s = tracked_trees ts c in
      let w : List Place = walk_trees short ts c in (
        ap (kept_all ts) r.0 ∙ s.0 ∙ ap (filter long) (joined b f (firsts w) ∙ ap (λ z. b ++ z) (sym (firsts-append (walk short t b) w))),
        ap (λ z. z ++ repeats_all ts (kept t (filter long b))) r.1 ∙ ap (λ z. agains (walk short t b) ++ repeats_all ts z) r.0 ∙ ap (λ z. agains (walk short t b) ++ z) s.1 ∙ sym (agains-append (walk short t b) w),
      )

  tracked_pairs : (ps : Pairs) (b : List Tree)
      → (kept_pairs ps (filter long b) ≡ filter long (b ++ firsts (walk_pairs short ps b))) × (repeats_pairs ps (filter long b) ≡ agains (walk_pairs short ps b))
  tracked_pairs done b = (ap (filter long) (sym (append-nil b)), refl)
  tracked_pairs (entry k v ps) b =
      let q = tracked k b in
      let f : List Tree = firsts (walk short k b) in
      let c : List Tree = b ++ f in
      let r = tracked v c in
      let g : List Tree = firsts (walk short v c) in
      let d : List Tree = c ++ g in
      let s = tracked_pairs ps d in
      let w : List Place = walk_pairs short ps d in
      let rest : kept v (kept k (filter long b)) ≡ filter long d = ap (kept v) q.0 ∙ r.0 in
      let two : firsts (walk short k b ++ (walk short v c ++ w)) ≡ f ++ (g ++ firsts w) = firsts-append (walk short k b) (walk short v c ++ w) ∙ ap (λ z. f ++ z) (firsts-append (walk short v c) w) in
      let all : agains (walk short k b ++ (walk short v c ++ w)) ≡ agains (walk short k b) ++ (agains (walk short v c) ++ agains w) =
      agains-append (walk short k b) (walk short v c ++ w) ∙ ap (λ z. agains (walk short k b) ++ z) (agains-append (walk short v c) w) in (
        ap (kept_pairs ps) rest ∙ s.0 ∙ ap (filter long) (joined c g (firsts w) ∙ joined b f (g ++ firsts w) ∙ ap (λ z. b ++ z) (sym two)),
        ap (λ z. z ++ (repeats v (kept k (filter long b)) ++ repeats_pairs ps (kept v (kept k (filter long b))))) q.1
            ∙ ap (λ z. agains (walk short k b) ++ (z ++ repeats_pairs ps (kept v (kept k (filter long b))))) (ap (repeats v) q.0 ∙ r.1)
            ∙ ap (λ z. agains (walk short k b) ++ (agains (walk short v c) ++ z)) (ap (repeats_pairs ps) rest ∙ s.1) ∙ sym all,
      )

-- what repeats is not short
again_case : (P : Tree → Type 0) (c : Bool) (t : Tree) (w : List Place) → (c ≡ true → P t) → Every P (agains w) → Every P (agains (cond c (again t ∷ []) (first t ∷ w)))
again_case P true t w p h = (p refl, tt)
again_case P false t w p h = h

-- a fact of each node that repeats, from one of each node of the tree
abbrev pub IsLong : Tree → Type 0
IsLong t = short t ≡ false

not_true : (b : Bool) → not b ≡ true → b ≡ false
not_true true h = absurd (cc)
not_true false h = refl

again_long : (t : Tree) (b : List Tree) → is_again short t b ≡ true → IsLong t
again_long t b h = not_true (short t) (and_both (not (short t)) (list_any (same t) b) h).0

mutual
  unfolding walk

  pub agains_long : (t : Tree) (b : List Tree) → Every IsLong (agains (walk short t b))
  agains_long (scalar a x) b = again_case IsLong (is_again short (scalar a x) b) (scalar a x) [] (again_long (scalar a x) b) tt
  agains_long (sequence a ts) b = again_case IsLong (is_again short (sequence a ts) b) (sequence a ts) (walk_trees short ts (b ++ (sequence a ts ∷ []))) (again_long (sequence a ts) b) (agains_trees_long ts (b ++ (sequence a ts ∷ [])))
  agains_long (mapping a ps) b = again_case IsLong (is_again short (mapping a ps) b) (mapping a ps) (walk_pairs short ps (b ++ (mapping a ps ∷ []))) (again_long (mapping a ps) b) (agains_pairs_long ps (b ++ (mapping a ps ∷ [])))

  agains_trees_long : (ts : Trees) (b : List Tree) → Every IsLong (agains (walk_trees short ts b))
  agains_trees_long end b = tt
  agains_trees_long (item t ts) b =
      let c = b ++ firsts (walk short t b) in
      subst (Every IsLong) (sym (agains-append (walk short t b) (walk_trees short ts c))) (every_append IsLong (agains (walk short t b)) (agains (walk_trees short ts c)) (agains_long t b) (agains_trees_long ts c))

  agains_pairs_long : (ps : Pairs) (b : List Tree) → Every IsLong (agains (walk_pairs short ps b))
  agains_pairs_long done b = tt
  agains_pairs_long (entry k v ps) b =
      let c = b ++ firsts (walk short k b) in
      let d = c ++ firsts (walk short v c) in
      let rest = subst (Every IsLong) (sym (agains-append (walk short v c) (walk_pairs short ps d))) (every_append IsLong (agains (walk short v c)) (agains (walk_pairs short ps d)) (agains_long v c) (agains_pairs_long ps d)) in
      subst (Every IsLong) (sym (agains-append (walk short k b) (walk short v c ++ walk_pairs short ps d))) (every_append IsLong (agains (walk short k b)) (agains (walk short v c ++ walk_pairs short ps d)) (agains_long k b) rest)

pub repeats_are : (t : Tree) → repeats t [] ≡ agains (walk short t [])
repeats_are t = (tracked t []).1
