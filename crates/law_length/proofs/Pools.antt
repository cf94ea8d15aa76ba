-- The trees that a document's nodes stand for: all that is inside its tree is among them, and together they weigh little.
use Rattle.std.proofs.Common.{◌≡◌, ℕ, zero, suc, ◌+◌, ◌*◌, ◌≤◌, true, false, cond, Option, Some, None, Ok, List, [], ◌∷◌, ◌++◌, length, set, inl, refl, ◌∙◌, subst, arith, append_assoc}
use Rattle.std.specs.Prelude.{bytes_eq}
use Rattle.std.specs.Str.{is_utf8}
use Rattle.yaml_definitions.specs.model.Tree.{Tree, Trees, Pairs, scalar, sequence, mapping, end, item, done, entry}
use Rattle.yaml_definitions.specs.model.Tag.{IsTag}
use Rattle.yaml_definitions.specs.model.Event.{Event, Anchor, Style, WrittenTag, sequence_end, mapping_end}
use Rattle.yaml_definitions.specs.model.Serial.{SerialNode, SerialNodes, SerialPairs, alias_at, scalar_at, sequence_at, mapping_at, end_serial, item_serial, done_serial, entry_serial, flat, flat_all, flat_pairs}
use Rattle.yaml_definitions.specs.model.Core.{resolve, collection_tag}
use Rattle.yaml_definitions.specs.model.Unfold.{Table, opened, closed, last_named, tree_named, placed, or_else, event_count, unfold_node, unfold_all, unfold_pairs}
use Rattle.yaml_definitions.specs.model.Proper.{IsProper, AreProper, ArePairsProper}
use Rattle.yaml_definitions.proofs.ReadLaws.{ok_one, bind, unplaced}
use Rattle.law_length.specs.Sizes.{texts_bytes}
use Rattle.law_length.proofs.Sums.{Among, AllAmong, total, total-join, among_left, among_right}
use Rattle.law_length.proofs.Walks.{Inside, InsideAll, InsidePairs}
use Rattle.law_length.proofs.Weights.{tag_bytes, content_bytes, count, count_pairs, own}

-- ---- more trees to be among

mutual
  pub weaken : (s r : List Tree) (t : Tree) → AllAmong s r → Inside s t → Inside r t
  weaken s r (scalar g x) a h = a (scalar g x) h
  weaken s r (sequence g ts) a h = (a (sequence g ts) h.0, weaken_all s r ts a h.1)
  weaken s r (mapping g ps) a h = (a (mapping g ps) h.0, weaken_pairs s r ps a h.1)

  weaken_all : (s r : List Tree) (ts : Trees) → AllAmong s r → InsideAll s ts → InsideAll r ts
  weaken_all s r end a h = tt
  weaken_all s r (item t ts) a h = (weaken s r t a h.0, weaken_all s r ts a h.1)

  weaken_pairs : (s r : List Tree) (ps : Pairs) → AllAmong s r → InsidePairs s ps → InsidePairs r ps
  weaken_pairs s r done a h = tt
  weaken_pairs s r (entry k v ps) a h = (weaken s r k a h.0, weaken s r v a h.1, weaken_pairs s r ps a h.2)

-- ---- the table

abbrev OnTree : List Tree → Option Tree → Type 0
OnTree s None = Unit {0}
OnTree s (Some t) = Inside s t

abbrev pub TableInside : List Tree → Table → Type 0
TableInside s [] = Unit {0}
TableInside s (o ∷ e) = OnTree s o.1 × TableInside s e

abbrev OnNamed : List Tree → Option (Option Tree) → Type 0
OnNamed s None = Unit {0}
OnNamed s (Some o) = OnTree s o

weaken_on : (s r : List Tree) (o : Option Tree) → AllAmong s r → OnTree s o → OnTree r o
weaken_on s r None a h = tt
weaken_on s r (Some t) a h = weaken s r t a h

weaken_table : (s r : List Tree) (e : Table) → AllAmong s r → TableInside s e → TableInside r e
weaken_table s r [] a h = tt
weaken_table s r (o ∷ e) a h = (weaken_on s r o.1 a h.0, weaken_table s r e a h.1)

open_inside : (s : List Tree) (a : Anchor) (e : Table) → TableInside s e → TableInside s (opened a e)
open_inside s None e h = h
open_inside s (Some n) [] h = (tt, tt)
open_inside s (Some n) (o ∷ e) h = (h.0, open_inside s (Some n) e h.1)

set_inside : (s : List Tree) (e : Table) (i : ℕ) (n : List ℕ) (t : Tree) → TableInside s e → Inside s t → TableInside s (set e i (n, Some t))
set_inside s [] i n t h p = tt
set_inside s (o ∷ e) zero n t h p = (p, h.1)
set_inside s (o ∷ e) (suc i) n t h p = (h.0, set_inside s e i n t h.1 p)

close_inside : (s : List Tree) (a : Anchor) (i : ℕ) (t : Tree) (e : Table) → TableInside s e → Inside s t → TableInside s (closed a i t e)
close_inside s None i t e h p = h
close_inside s (Some n) i t e h p = set_inside s e i n t h p

either_named : (s : List Tree) (a b : Option (Option Tree)) → OnNamed s a → OnNamed s b → OnNamed s (or_else a b)
either_named s None b h k = k
either_named s (Some o) b h k = h

named_inside : (s : List Tree) (n : List ℕ) (e : Table) → TableInside s e → OnNamed s (last_named n e)
unfolding last_named
named_inside s n [] h = tt
named_inside s n (o ∷ e) h =
    let one : OnTree s o.1 = h.0 in
    either_named s (last_named n e) (cond (bytes_eq o.0 n) (Some o.1) None) (named_inside s n e h.1)
    (elim (bytes_eq o.0 n) as (λ b. OnNamed s (cond b (Some o.1) None)) [ true ↦ one | false ↦ tt ])

tree_is : (s : List Tree) (o : Option (Option Tree)) (t : Tree) → OnNamed s o → tree_named o ≡ Ok t → Inside s t
tree_is s None t h e = absurd (cc)
tree_is s (Some None) t h e = absurd (cc)
tree_is s (Some (Some u)) t h e = subst (Inside s) (ok_one u t e) h

-- ---- what marks allow

-- 4 for each byte of its texts, 3,400 for each event
unfoldable mutual
  pub budget : SerialNode → ℕ
  budget (alias_at name) = 3400
  budget (scalar_at a g y x) = 4 * length x + 3400
  budget (sequence_at a g b ts) = 6800 + budgets ts
  budget (mapping_at a g b ps) = 6800 + budgets_pairs ps

  pub budgets : SerialNodes → ℕ
  budgets end_serial = 0
  budgets (item_serial t ts) = budget t + budgets ts

  pub budgets_pairs : SerialPairs → ℕ
  budgets_pairs done_serial = 0
  budgets_pairs (entry_serial k v ps) = budget k + budget v + budgets_pairs ps

unfoldable pub allowed : List Event → ℕ
allowed es = 4 * texts_bytes es + 3400 * length es

mutual
  unfolding budget allowed texts_bytes flat

  pub allowed_flat : (m : SerialNode) (more : List Event) → allowed (flat m more) ≡ budget m + allowed more
  allowed_flat (alias_at name) more = omega arith
  allowed_flat (scalar_at a g y x) more = omega arith
  allowed_flat (sequence_at a g b ts) more = omega (arith, allowed_all ts (sequence_end ∷ more))
  allowed_flat (mapping_at a g b ps) more = omega (arith, allowed_pairs ps (mapping_end ∷ more))

  allowed_all : (ts : SerialNodes) (more : List Event) → allowed (flat_all ts more) ≡ budgets ts + allowed more
  allowed_all end_serial more = omega arith
  allowed_all (item_serial t ts) more = omega (arith, allowed_flat t (flat_all ts more), allowed_all ts more)

  allowed_pairs : (ps : SerialPairs) (more : List Event) → allowed (flat_pairs ps more) ≡ budgets_pairs ps + allowed more
  allowed_pairs done_serial more = omega arith
  allowed_pairs (entry_serial k v ps) more = omega (arith, allowed_flat k (flat v (flat_pairs ps more)), allowed_flat v (flat_pairs ps more), allowed_pairs ps more)

-- ---- the trees of its nodes

-- more trees, that with those before hold P, and weigh no more than n once c is added
pub record Pool (base : List Tree) (P : List Tree → Type 0) (c n : ℕ) : Type 0 where
  pub more : List Tree
  pub holds : P (base ++ more)
  pub light : total own more + c ≤ n

module _ (tag_light : (k : ℕ) (g : List ℕ) → IsTag g → tag_bytes k g ≤ 3100)
    (text_light : (w : WrittenTag) (y : Style) (x g z : List ℕ) → is_utf8 z ≡ true → resolve w y x ≡ Ok (g, z) → content_bytes z ≤ 4 * length x + 200) where
  abbrev NodePool : List Tree → ℕ → Tree × Table → Type 0
  NodePool base n z = IsProper z.0 → Pool base (λ s. Inside s z.0 × TableInside s z.1) 80 n

  abbrev ItemsPool : List Tree → ℕ → Trees × Table → Type 0
  ItemsPool base n z = AreProper z.0 → Pool base (λ s. InsideAll s z.0 × TableInside s z.1) (77 * count z.0) n

  abbrev PairsPool : List Tree → ℕ → Pairs × Table → Type 0
  PairsPool base n z = ArePairsProper z.0 → Pool base (λ s. InsidePairs s z.0 × TableInside s z.1) (155 * count_pairs z.0) n

  before_more : (base more : List Tree) (t : Tree) → AllAmong (base ++ more) (base ++ (more ++ (t ∷ [])))
  before_more base more t u i = subst (Among u) (append_assoc base more (t ∷ [])) (among_left u (base ++ more) (t ∷ []) i)

  at_end : (base more : List Tree) (t : Tree) → Among t (base ++ (more ++ (t ∷ [])))
  at_end base more t = among_right t base (more ++ (t ∷ [])) (among_right t more (t ∷ []) (inl refl))

  mutual
    unfolding unfold_node IsProper budget own total

    pub unfold_pool : (m : SerialNode) (e : Table) (at : ℕ) (z : Tree × Table) (base : List Tree) → TableInside base e → unfold_node m e at ≡ Ok z → NodePool base (budget m) z
    unfold_pool (alias_at n) e at z base h q =
        let b = bind (placed at (tree_named (last_named n e))) (λ t. Ok (t, e)) z q in
        let wide : AllAmong base (base ++ []) = λ u i. among_left u base [] i in
        let t = tree_is base (last_named n e) b.0 (named_inside base n e h) (unplaced at (tree_named (last_named n e)) b.0 b.1) in
        subst (NodePool base 3400) (ok_one (b.0, e) z b.2) (λ p. record { more = []; holds = (weaken base (base ++ []) b.0 wide t, weaken_table base (base ++ []) e wide h); light = omega arith })
    unfold_pool (scalar_at a g y x) e at z base h q =
        let b = bind (placed at (resolve g y x)) _ z q in
        let r = unplaced at (resolve g y x) b.0 b.1 in
        let t = scalar b.0.0 b.0.1 in
        let s = base ++ (t ∷ []) in
        let i : Inside s t = among_right t base (t ∷ []) (inl refl) in
        let k = close_inside s a (length e) t (opened a e) (open_inside s a e (weaken_table base s e (λ u j. among_left u base (t ∷ []) j) h)) i in
        subst (NodePool base (4 * length x + 3400)) (ok_one _ z b.2)
        (λ p. record { more = t ∷ []; holds = (i, k); light = omega (arith, tag_light 0 b.0.0 p.0, text_light g y x b.0.0 b.0.1 p.1 r) })
    unfold_pool (sequence_at a g f ts) e at z base h q =
        let b = bind (placed at (collection_tag 1 g)) _ z q in
        let c = bind (unfold_all ts (opened a e) (suc at)) _ z b.2 in
        let t = sequence b.0 c.0.0 in
        let items = items_pool ts (opened a e) (suc at) c.0 base (open_inside base a e h) c.1 in
        subst (NodePool base (6800 + budgets ts)) (ok_one _ z c.2)
        (λ p. let i = items p.2 in
        let s = base ++ (i.more ++ (t ∷ [])) in
        let wide = before_more base i.more t in
        let whole : Inside s t = (at_end base i.more t, weaken_all (base ++ i.more) s c.0.0 wide i.holds.0) in
        record {
          more = i.more ++ (t ∷ []);
          holds = (whole, close_inside s a (length e) t c.0.1 (weaken_table (base ++ i.more) s c.0.1 wide i.holds.1) whole);
          light = omega (arith, i.light, total-join own i.more (t ∷ []), tag_light 1 b.0 p.0);
        })
    unfold_pool (mapping_at a g f ps) e at z base h q =
        let b = bind (placed at (collection_tag 2 g)) _ z q in
        let c = bind (unfold_pairs ps (opened a e) (suc at)) _ z b.2 in
        let t = mapping b.0 c.0.0 in
        let pairs = pairs_pool ps (opened a e) (suc at) c.0 base (open_inside base a e h) c.1 in
        subst (NodePool base (6800 + budgets_pairs ps)) (ok_one _ z c.2)
        (λ p. let i = pairs p.2 in
        let s = base ++ (i.more ++ (t ∷ [])) in
        let wide = before_more base i.more t in
        let whole : Inside s t = (at_end base i.more t, weaken_pairs (base ++ i.more) s c.0.0 wide i.holds.0) in
        record {
          more = i.more ++ (t ∷ []);
          holds = (whole, close_inside s a (length e) t c.0.1 (weaken_table (base ++ i.more) s c.0.1 wide i.holds.1) whole);
          light = omega (arith, i.light, total-join own i.more (t ∷ []), tag_light 2 b.0 p.0);
        })

    items_pool : (ts : SerialNodes) (e : Table) (at : ℕ) (z : Trees × Table) (base : List Tree) → TableInside base e → unfold_all ts e at ≡ Ok z → ItemsPool base (budgets ts) z
    items_pool end_serial e at z base h q = subst (ItemsPool base 0) (ok_one (end, e) z q) (λ p. record { more = []; holds = (tt, weaken_table base (base ++ []) e (λ u i. among_left u base [] i) h); light = omega arith })
    items_pool (item_serial t ts) e at z base h q =
        let b = bind (unfold_node t e at) _ z q in
        let c = bind (unfold_all ts b.0.1 (at + event_count t)) _ z b.2 in
        subst (ItemsPool base (budget t + budgets ts)) (ok_one (item b.0.0 c.0.0, c.0.1) z c.2)
        (λ p. let i = unfold_pool t e at b.0 base h b.1 p.0 in
        let j = items_pool ts b.0.1 (at + event_count t) c.0 (base ++ i.more) i.holds.1 c.1 p.1 in
        let l = append_assoc base i.more j.more in
        record {
          more = i.more ++ j.more;
          holds = subst (λ s. (Inside s b.0.0 × InsideAll s c.0.0) × TableInside s c.0.1) l
              ((weaken (base ++ i.more) ((base ++ i.more) ++ j.more) b.0.0 (λ u k. among_left u (base ++ i.more) j.more k) i.holds.0, j.holds.0), j.holds.1);
          light = omega (arith, i.light, j.light, total-join own i.more j.more);
        })

    pairs_pool : (ps : SerialPairs) (e : Table) (at : ℕ) (z : Pairs × Table) (base : List Tree) → TableInside base e → unfold_pairs ps e at ≡ Ok z → PairsPool base (budgets_pairs ps) z
    pairs_pool done_serial e at z base h q = subst (PairsPool base 0) (ok_one (done, e) z q) (λ p. record { more = []; holds = (tt, weaken_table base (base ++ []) e (λ u i. among_left u base [] i) h); light = omega arith })
    pairs_pool (entry_serial k v ps) e at z base h q =
        let b = bind (unfold_node k e at) _ z q in
        let c = bind (unfold_node v b.0.1 (at + event_count k)) _ z b.2 in
        let d = bind (unfold_pairs ps c.0.1 (at + event_count k + event_count v)) _ z c.2 in
        subst (PairsPool base (budget k + budget v + budgets_pairs ps)) (ok_one (entry b.0.0 c.0.0 d.0.0, d.0.1) z d.2)
        (λ p. let i = unfold_pool k e at b.0 base h b.1 p.0 in
        let j = unfold_pool v b.0.1 (at + event_count k) c.0 (base ++ i.more) i.holds.1 c.1 p.1 in
        let s = (base ++ i.more) ++ j.more in
        let l = pairs_pool ps c.0.1 (at + event_count k + event_count v) d.0 s j.holds.1 d.1 p.2 in
        let wide : AllAmong (base ++ i.more) (s ++ l.more) = λ u m. among_left u s l.more (among_left u (base ++ i.more) j.more m) in
        let same : s ++ l.more ≡ base ++ (i.more ++ (j.more ++ l.more)) = append_assoc (base ++ i.more) j.more l.more ∙ append_assoc base i.more (j.more ++ l.more) in
        record {
          more = i.more ++ (j.more ++ l.more);
          holds = subst (λ r. (Inside r b.0.0 × Inside r c.0.0 × InsidePairs r d.0.0) × TableInside r d.0.1) same
              ((weaken (base ++ i.more) (s ++ l.more) b.0.0 wide i.holds.0, weaken s (s ++ l.more) c.0.0 (λ u m. among_left u s l.more m) j.holds.0, l.holds.0), l.holds.1);
          light = omega (arith, i.light, j.light, l.light, total-join own i.more (j.more ++ l.more), total-join own j.more l.more);
        })
