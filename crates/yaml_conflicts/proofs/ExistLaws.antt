-- A merge exists, or there is a conflict.
use Rattle.std.proofs.Common.{◌≡◌, ℕ, Bool, true, false, cond, not, ◌&&◌, ◌||◌, ◌⊎◌, List, [], ◌∷◌, inl, inr, refl, sym, ◌∙◌, ap, subst}
use Rattle.std.specs.Prelude.{◌↔◌, Option, Some, None}
use lib.Pointwise.{bytes_decides}
use Rattle.yaml_definitions.specs.model.Tree.{Tree, Pairs, scalar, sequence, mapping, done, entry}
use Rattle.yaml_definitions.specs.model.Same.{same, keyed, keyed_pairs, all_pairs}
use Rattle.yaml_definitions.proofs.Members.{In, both_and, or_either, or_left, or_right, in_all}
use Rattle.yaml_definitions.proofs.SameLaws.{keyed_parts}
use Rattle.yaml_definitions.proofs.Equivalence.{same_refl, same_like}
use Rattle.yaml_path.specs.Path.{Path, Step, at_item, at_key, value_in, part_of}
use Rattle.yaml_path.proofs.PathLaws.{found_in, in_found}
use Rattle.yaml_conflicts.specs.Merge.{follows, is_ruled, opens, one_shape, Conflicts, IsMerge, IsKeyed}
use Rattle.yaml_conflicts.proofs.RuleLaws.{alike-self, rule-by, ruled-by, true-false, opens-three, three-open, follows-merge, open-merge, no-merge, conflict-none}
use Rattle.yaml_conflicts.proofs.ShownLaws.{part-keyed}

-- ---- one place

-- there is a conflict, or a merge
abbrev pub Decided : (b o t : Option Tree) → Type 0
Decided b o t = ((p : Path) × Conflicts p b o t) ⊎ ((m : Option Tree) × IsKeyed m × IsMerge b o t m)

-- the same of three trees, of which the merge is a tree
abbrev pub DecidedTree : (b o t : Tree) → Type 0
DecidedTree b o t = ((p : Path) × Conflicts p (Some b) (Some o) (Some t)) ⊎ ((m : Tree) × (keyed m ≡ true) × IsMerge (Some b) (Some o) (Some t) (Some m))

ruled : (b o t : Option Tree) → IsKeyed o → IsKeyed t → is_ruled b o t ≡ true → (m : Option Tree) × IsKeyed m × IsMerge b o t m
ruled b o t ko kt h = elim (ruled-by b o t h) [
  | inl e ↦ (t, kt, follows-merge b o t t (rule-by b o t t (inl (e, alike-self t))))
  | inr (inl e) ↦ (o, ko, follows-merge b o t o (rule-by b o t o (inr (inl (e, alike-self o)))))
  | inr (inr e) ↦ (o, ko, follows-merge b o t o (rule-by b o t o (inr (inr (e, alike-self o)))))
]

pub ruled-tree : (b o t : Tree) → keyed o ≡ true → keyed t ≡ true → is_ruled (Some b) (Some o) (Some t) ≡ true → (m : Tree) × (keyed m ≡ true) × (follows (Some b) (Some o) (Some t) (Some m) ≡ true)
ruled-tree b o t ko kt h = elim (ruled-by (Some b) (Some o) (Some t) h) [
  | inl e ↦ (t, kt, rule-by (Some b) (Some o) (Some t) (Some t) (inl (e, alike-self (Some t))))
  | inr (inl e) ↦ (o, ko, rule-by (Some b) (Some o) (Some t) (Some o) (inr (inl (e, alike-self (Some o)))))
  | inr (inr e) ↦ (o, ko, rule-by (Some b) (Some o) (Some t) (Some o) (inr (inr (e, alike-self (Some o)))))
]

decide : (b o t : Option Tree) → IsKeyed o → IsKeyed t → (opens b o t b ≡ true → is_ruled b o t ≡ false → Decided b o t) → Decided b o t
decide b o t ko kt f = by (is_ruled b o t) (opens b o t b) refl refl
  where
    by : (x y : Bool) → is_ruled b o t ≡ x → opens b o t b ≡ y → Decided b o t
    by true y e g = inr (ruled b o t ko kt e)
    by false true e g = f g e
    by false false e g = inl ([], (e, g))

decide-tree : (b o t : Tree) → keyed o ≡ true → keyed t ≡ true → (opens (Some b) (Some o) (Some t) (Some b) ≡ true → is_ruled (Some b) (Some o) (Some t) ≡ false → DecidedTree b o t) → DecidedTree b o t
decide-tree b o t ko kt f = by (is_ruled (Some b) (Some o) (Some t)) (opens (Some b) (Some o) (Some t) (Some b)) refl refl
  where
    by : (x y : Bool) → is_ruled (Some b) (Some o) (Some t) ≡ x → opens (Some b) (Some o) (Some t) (Some b) ≡ y → DecidedTree b o t
    by true y e g = let m = ruled-tree b o t ko kt e in inr (m.0, m.1, follows-merge (Some b) (Some o) (Some t) (Some m.0) m.2)
    by false true e g = f g e
    by false false e g = inl ([], (e, g))

-- ---- mappings

option-cases : (o : Option Tree) → (o ≡ None) ⊎ ((v : Tree) × (o ≡ Some v))
option-cases None = inl refl
option-cases (Some v) = inr (v, refl)

value-like : (ps : Pairs) (x y : Tree) → same x y ≡ true → value_in ps x ≡ value_in ps y
value-like done x y h = refl
value-like (entry k v ps) x y h = (λ z. cond (same_like x y k h z) (Some v) (value_in ps x)) ∙ ap (λ z. cond (same y k) (Some v) z) (value-like ps x y h)

value-keyed : (ps : Pairs) (x : Tree) → keyed_pairs ps ≡ true → IsKeyed (value_in ps x)
value-keyed ps x k = part-keyed (Some (mapping [] ps)) (at_key x) k

none-apart : (ms : Pairs) (k : Tree) → keyed_pairs ms ≡ true → value_in ms k ≡ None → all_pairs (λ j w. not (same k j)) ms ≡ true
none-apart ms k m e = in_all (λ j w. not (same k j)) ms (λ j w i. by j w (same k j) refl (λ s. in_found ms k j w m i s))
  where
    by : (j w : Tree) (z : Bool) → same k j ≡ z → (same k j ≡ true → value_in ms k ≡ Some w) → not z ≡ true
    by j w true s f = let q : None ≡ Some w = sym e ∙ f s in absurd (cc)
    by j w false s f = refl

-- the merge of the values of a key
abbrev AtKey : (ps qs rs : Pairs) → Tree → Option Tree → Type 0
AtKey ps qs rs x m = IsMerge (value_in ps x) (value_in qs x) (value_in rs x) m

-- the entries of the keys so far
record MadeOf (ps qs rs ms : Pairs) (has : Tree → Bool) : Type 0 where
  keys : keyed_pairs ms ≡ true
  good : (x : Tree) → has x ≡ true → AtKey ps qs rs x (value_in ms x)
  none : (x : Tree) → has x ≡ false → value_in ms x ≡ None
  like : (x y : Tree) → same x y ≡ true → has x ≡ has y

module _ (ps qs rs : Pairs) (kp : keyed_pairs ps ≡ true) (kq : keyed_pairs qs ≡ true) (kr : keyed_pairs rs ≡ true) where
  abbrev At : Tree → Option Tree → Type 0
  At x m = AtKey ps qs rs x m

  abbrev Made : Pairs → (Tree → Bool) → Type 0
  Made ms has = MadeOf ps qs rs ms has

  abbrev KeyConflict : Type 0
  KeyConflict = (x : Tree) × (p : Path) × Conflicts p (value_in ps x) (value_in qs x) (value_in rs x)

  at-like : (x k : Tree) (m : Option Tree) → same x k ≡ true → At k m → At x m
  at-like x k m s h = subst (λ z. IsMerge z (value_in qs x) (value_in rs x) m) (sym (value-like ps x k s)) (subst (λ z. IsMerge (value_in ps k) z (value_in rs x) m) (sym (value-like qs x k s)) (subst (λ z. IsMerge (value_in ps k) (value_in qs k) z m) (sym (value-like rs x k s)) h))

  abbrev adding : Tree → (Tree → Bool) → Tree → Bool
  adding k has x = same x k || has x

  adding-like : (k : Tree) (has : Tree → Bool) → ((x y : Tree) → same x y ≡ true → has x ≡ has y) → (x y : Tree) → same x y ≡ true → adding k has x ≡ adding k has y
  adding-like k has f x y s = ap (λ z. z || has x) (same_like x y k s) ∙ ap (λ z. same y k || z) (f x y s)

  -- the value of one more key is put in, if it has one
  put : (k : Tree) (m : Option Tree) (ms : Pairs) (has : Tree → Bool) → keyed k ≡ true → IsKeyed m → At k m → Made ms has → has k ≡ false → (ns : Pairs) × Made ns (adding k has)
  put k None ms has kk km h made e = (
    ms,
    record {
      keys = made.keys;
      good = λ x i. elim (or_either (same x k) (has x) i) [
        | inl s ↦ subst (At x) (sym (made.none x (made.like x k s ∙ e))) (at-like x k None s h)
        | inr j ↦ made.good x j
      ];
      none = λ x i. made.none x (right (same x k) (has x) i);
      like = adding-like k has made.like;
    },
  )
    where
      right : (y z : Bool) → (y || z) ≡ false → z ≡ false
      right true z i = absurd (cc)
      right false z i = i
  put k (Some w) ms has kk km h made e = (
    entry k w ms,
    record {
      keys = both_and (keyed k) (keyed w && (all_pairs (λ j v. not (same k j)) ms && keyed_pairs ms)) kk (both_and (keyed w) (all_pairs (λ j v. not (same k j)) ms && keyed_pairs ms) km (both_and (all_pairs (λ j v. not (same k j)) ms) (keyed_pairs ms) (none-apart ms k made.keys (made.none k e)) made.keys));
      good = λ x i. by x (same x k) refl i;
      none = λ x i. no x (same x k) (has x) refl refl i;
      like = adding-like k has made.like;
    },
  )
    where
      by : (x : Tree) (z : Bool) → same x k ≡ z → (z || has x) ≡ true → At x (cond z (Some w) (value_in ms x))
      by x true s i = at-like x k (Some w) s h
      by x false s i = made.good x i

      no : (x : Tree) (y z : Bool) → same x k ≡ y → has x ≡ z → (y || z) ≡ false → cond y (Some w) (value_in ms x) ≡ None
      no x true z s j i = absurd (cc)
      no x false z s j i = made.none x (j ∙ i)

  -- the keys of a list are put in
  abbrev PutAll : Pairs → (Tree → Bool) → Type 0
  PutAll l has = KeyConflict ⊎ ((ns : Pairs) × (had : Tree → Bool) × Made ns had × ((x : Tree) → has x ≡ true → had x ≡ true) × ((k v : Tree) → In k v l → had k ≡ true))

  put-all : (f : (x : Tree) → Decided (value_in ps x) (value_in qs x) (value_in rs x)) (l : Pairs) (ms : Pairs) (has : Tree → Bool) → keyed_pairs l ≡ true → Made ms has → PutAll l has
  put-all f done ms has kl made = inr (ms, has, made, λ x e. e, λ k v i. absurd i)
  put-all f (entry k v l) ms has kl made = by (has k) refl (λ ns hd md. put-all f l ns hd (keyed_parts k v l kl).3 md)
    where
      first : (had : Tree → Bool) → had k ≡ true → ((j w : Tree) → In j w l → had j ≡ true) → (j w : Tree) → In j w (entry k v l) → had j ≡ true
      first had e g j w (inl q) = ap had q.0 ∙ e
      first had e g j w (inr i) = g j w i

      by : (z : Bool) → has k ≡ z → ((ns : Pairs) (hd : Tree → Bool) → Made ns hd → PutAll l hd) → PutAll (entry k v l) has
      by true e go = elim (go ms has made) [
        | inl c ↦ inl c
        | inr r ↦ inr (r.0, r.1, r.2, r.3, first r.1 (r.3 k e) r.4)
      ]
      by false e go = elim (f k) [
        | inl c ↦ inl (k, c.0, c.1)
        | inr m ↦
            let n = put k m.0 ms has (keyed_parts k v l kl).0 m.1 m.2 made e in
            elim (go n.0 (adding k has) n.1) [
              | inl c ↦ inl c
              | inr r ↦ inr (r.0, r.1, r.2, λ x i. r.3 x (or_right (same x k) (has x) i), first r.1 (r.3 k (or_left (same k k) (has k) (same_refl k))) r.4)
            ]
      ]

  left-out : (l ms : Pairs) (had : Tree → Bool) → Made ms had → ((k v : Tree) → In k v l → had k ≡ true) → (x : Tree) → had x ≡ false → value_in l x ≡ None
  left-out l ms had made f x e = elim (option-cases (value_in l x)) [
    | inl n ↦ n
    | inr v ↦ let i = found_in l x v.0 v.1 in absurd (true-false (made.like x i.0 i.2 ∙ f i.0 v.0 i.1) e)
  ]

  -- the entries of all keys
  pub all-decided : ((x : Tree) → Decided (value_in ps x) (value_in qs x) (value_in rs x)) → KeyConflict ⊎ ((ms : Pairs) × (keyed_pairs ms ≡ true) × ((x : Tree) → At x (value_in ms x)))
  all-decided f = elim (put-all f ps done (λ x. false) kp (record { keys = refl; good = λ x e. absurd (cc); none = λ x e. refl; like = λ x y s. refl })) [
    | inl c ↦ inl c
    | inr l ↦ elim (put-all f qs l.0 l.1 kq l.2) [
      | inl c ↦ inl c
      | inr m ↦ elim (put-all f rs m.0 m.1 kr m.2) [
        | inl c ↦ inl c
        | inr n ↦ inr (n.0, n.2.keys, λ x. by n.0 n.1 n.2 (λ k v i. n.3 k (m.3 k (l.4 k v i))) (λ k v i. n.3 k (m.4 k v i)) n.4 x (n.1 x) refl)
      ]
    ]
  ]
    where
      by : (ms : Pairs) (had : Tree → Bool) (made : Made ms had) → ((k v : Tree) → In k v ps → had k ≡ true) → ((k v : Tree) → In k v qs → had k ≡ true) → ((k v : Tree) → In k v rs → had k ≡ true) → (x : Tree) (z : Bool) → had x ≡ z → At x (value_in ms x)
      by ms had made a b c x true e = made.good x e
      by ms had made a b c x false e =
          subst (λ z. IsMerge z (value_in qs x) (value_in rs x) (value_in ms x)) (sym (left-out ps ms had made a x e)) (subst (λ z. IsMerge None z (value_in rs x) (value_in ms x)) (sym (left-out qs ms had made b x e)) (subst (λ z. IsMerge None None z (value_in ms x)) (sym (left-out rs ms had made c x e)) (subst (IsMerge None None None) (sym (made.none x e)) no-merge)))

shape-none : (t : Option Tree) → one_shape t None ≡ true → ⊥
shape-none None e = absurd (cc)
shape-none (Some (scalar a x)) e = absurd (cc)
shape-none (Some (sequence a ts)) e = absurd (cc)
shape-none (Some (mapping a ps)) e = absurd (cc)

none-shape : (t : Option Tree) → one_shape None t ≡ true → ⊥
none-shape None e = absurd (cc)
none-shape (Some t) e = absurd (cc)

-- the values of a key, where those of the base are decided
key-decided : (ps qs rs : Pairs) → keyed_pairs qs ≡ true → keyed_pairs rs ≡ true → ((k v : Tree) → In k v ps → (o t : Tree) → keyed o ≡ true → keyed t ≡ true → DecidedTree v o t) → (x : Tree) → Decided (value_in ps x) (value_in qs x) (value_in rs x)
key-decided ps qs rs kq kr f x = decide (value_in ps x) (value_in qs x) (value_in rs x) (value-keyed qs x kq) (value-keyed rs x kr) (λ g r. by (value_in ps x) (value_in qs x) (value_in rs x) refl (value-keyed qs x kq) (value-keyed rs x kr) g)
  where
    by : (b o t : Option Tree) → value_in ps x ≡ b → IsKeyed o → IsKeyed t → opens b o t b ≡ true → Decided b o t
    by (Some v) (Some o) (Some t) e ko kt g = let i = found_in ps x v e in elim (f i.0 v i.1 o t ko kt) [ inl c ↦ inl c | inr m ↦ inr (Some m.0, m.1, m.2) ]
    by None o t e ko kt g = absurd (none-shape o (opens-three None o t None g).0)
    by (Some v) None t e ko kt g = absurd (shape-none (Some v) (opens-three (Some v) None t (Some v) g).0)
    by (Some v) (Some o) None e ko kt g = absurd (shape-none (Some v) (opens-three (Some v) (Some o) None (Some v) g).1)

map-parts : (a c d e : List ℕ) (ps qs rs ms : Pairs) → ((x : Tree) → IsMerge (value_in ps x) (value_in qs x) (value_in rs x) (value_in ms x)) → (s : Step) → IsMerge (part_of (Some (mapping a ps)) s) (part_of (Some (mapping c qs)) s) (part_of (Some (mapping d rs)) s) (part_of (Some (mapping e ms)) s)
map-parts a c d e ps qs rs ms f (at_item k) = no-merge
map-parts a c d e ps qs rs ms f (at_key x) = f x

map-open : (a : List ℕ) (ps : Pairs) (o t : Tree) → keyed_pairs ps ≡ true → keyed o ≡ true → keyed t ≡ true → ((k v : Tree) → In k v ps → (o t : Tree) → keyed o ≡ true → keyed t ≡ true → DecidedTree v o t)
    → opens (Some (mapping a ps)) (Some o) (Some t) (Some (mapping a ps)) ≡ true → is_ruled (Some (mapping a ps)) (Some o) (Some t) ≡ false → DecidedTree (mapping a ps) o t
map-open a ps (mapping c qs) (mapping d rs) kb ko kt f g r =
    let B = Some (mapping a ps) in
    let O = Some (mapping c qs) in
    let T = Some (mapping d rs) in
    let x = opens-three B O T B g in
    elim (all-decided ps qs rs kb ko kt (key-decided ps qs rs ko kt f)) [
      | inl w ↦ inl (at_key w.0 ∷ w.1, (r, g, w.2))
      | inr m ↦
          let M = Some (mapping a m.0) in
          inr (mapping a m.0, m.1, open-merge B O T M (three-open B O T M x.0 x.1 ((bytes_decides a a).1 refl)) (map-parts a c d a ps qs rs m.0 m.2))
    ]
map-open a ps (scalar c y) t kb ko kt f g r = absurd (true-false (opens-three (Some (mapping a ps)) (Some (scalar c y)) (Some t) (Some (mapping a ps)) g).0 refl)
map-open a ps (sequence c us) t kb ko kt f g r = absurd (true-false (opens-three (Some (mapping a ps)) (Some (sequence c us)) (Some t) (Some (mapping a ps)) g).0 refl)
map-open a ps (mapping c qs) (scalar d y) kb ko kt f g r = absurd (true-false (opens-three (Some (mapping a ps)) (Some (mapping c qs)) (Some (scalar d y)) (Some (mapping a ps)) g).1 refl)
map-open a ps (mapping c qs) (sequence d us) kb ko kt f g r = absurd (true-false (opens-three (Some (mapping a ps)) (Some (mapping c qs)) (Some (sequence d us)) (Some (mapping a ps)) g).1 refl)

-- ---- trees

mutual
  pub tree-decided : (b o t : Tree) → keyed b ≡ true → keyed o ≡ true → keyed t ≡ true → DecidedTree b o t
  tree-decided (scalar a x) o t kb ko kt = decide-tree (scalar a x) o t ko kt (λ g r. absurd (true-false (opens-three (Some (scalar a x)) (Some o) (Some t) (Some (scalar a x)) g).2 refl))
  tree-decided (sequence a ts) o t kb ko kt = decide-tree (sequence a ts) o t ko kt (λ g r. absurd (true-false (opens-three (Some (sequence a ts)) (Some o) (Some t) (Some (sequence a ts)) g).2 refl))
  tree-decided (mapping a ps) o t kb ko kt = decide-tree (mapping a ps) o t ko kt (map-open a ps o t kb ko kt (λ k v i x y kx ky. each-decided ps k v i x y kb kx ky))

  each-decided : (ps : Pairs) (k v : Tree) → In k v ps → (o t : Tree) → keyed_pairs ps ≡ true → keyed o ≡ true → keyed t ≡ true → DecidedTree v o t
  each-decided done k v i o t kp ko kt = absurd i
  each-decided (entry j w ps) k v (inl e) o t kp ko kt = subst (λ z. DecidedTree z o t) (sym e.1) (tree-decided w o t (keyed_parts j w ps kp).1 ko kt)
  each-decided (entry j w ps) k v (inr i) o t kp ko kt = each-decided ps k v i o t (keyed_parts j w ps kp).3 ko kt

pub decided : (b o t : Option Tree) → IsKeyed b → IsKeyed o → IsKeyed t → Decided b o t
decided b o t kb ko kt = decide b o t ko kt (by b o t kb ko kt)
  where
    by : (b o t : Option Tree) → IsKeyed b → IsKeyed o → IsKeyed t → opens b o t b ≡ true → is_ruled b o t ≡ false → Decided b o t
    by (Some b) (Some o) (Some t) kb ko kt g r = elim (tree-decided b o t kb ko kt) [ inl c ↦ inl c | inr m ↦ inr (Some m.0, m.1, m.2) ]
    by None o t kb ko kt g r = absurd (none-shape o (opens-three None o t None g).0)
    by (Some b) None t kb ko kt g r = absurd (shape-none (Some b) (opens-three (Some b) None t (Some b) g).0)
    by (Some b) (Some o) None kb ko kt g r = absurd (shape-none (Some b) (opens-three (Some b) (Some o) None (Some b) g).1)

pub merge-exists : (b o t : Option Tree) → IsKeyed b → IsKeyed o → IsKeyed t → ((m : Option Tree) × IsKeyed m × IsMerge b o t m) ↔ ((p : Path) → Conflicts p b o t → ⊥)
merge-exists b o t kb ko kt = (λ m p c. conflict-none p b o t m.0 c m.2, λ n. elim (decided b o t kb ko kt) [ inl c ↦ absurd (n c.0 c.1) | inr m ↦ m ])
