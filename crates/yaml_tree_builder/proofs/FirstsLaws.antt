-- The places of nodes as one more node closes.
use Rattle.std.proofs.Common.{◌≡◌, inl, inr, ◌+◌, ◌<◌, ◌≤◌, ℕ, List, [], ◌∷◌, ◌++◌, length, sym, ◌∙◌, ap, subst, arith, append-nil, length-append}
use Rattle.std.specs.Prelude.{Some}
use Rattle.std.specs.List.{slice_get}
use Rattle.yaml_store.specs.TextModel.{text_of}
use Rattle.yaml_definitions.specs.model.Tree.{Tree}
use Rattle.yaml_tree.proofs.Lists.{get-end}
use Rattle.yaml_tree.specs.Numbers.{Numbers}
use Rattle.yaml_tree.proofs.NumberLaws.{closes-again, closes-first}
use Rattle.yaml_store.specs.StoreGrows.{Keeps, Stands, AtMostOne, tags_of, trees_of}
use Rattle.yaml_store.specs.declared.store.Store.{Store}
use Rattle.yaml_store.proofs.Growing.{trees-count}
use Rattle.yaml_tree_builder.specs.FirstsModel.{Counted, Comes}
use Rattle.yaml_tree_builder.specs.declared.firsts.Firsts.{Firsts}

-- one more node is counted
pub counted-more : (before after closed : List Tree) (t : Tree) (old new : Firsts) (len : ℕ) → Counted before old closed → Comes before after t → len ≡ length after
    → (length old.numbers.items < len → new.numbers.items ≡ old.numbers.items ++ (old.closed ∷ [])) → (len ≤ length old.numbers.items → new.numbers.items ≡ old.numbers.items) → new.closed ≡ old.closed + 1 → new.closed < 4294967296
    → Counted after new (closed ++ (t ∷ []))
counted-more before after closed t old new len h (inl k) l more same e w =
    let q : new.numbers.items ≡ old.numbers.items = same (omega (arith, h.numbers.long, ap length k.0)) in
    let again : Numbers before old.numbers.items (closed ++ (t ∷ [])) = closes-again before old.numbers.items closed h.numbers k.1.0 t k.1.1 in
    record {
      numbers = subst (λ us. Numbers us new.numbers.items (closed ++ (t ∷ []))) (sym k.0) (subst (λ ns. Numbers before ns (closed ++ (t ∷ []))) (sym q) again);
      count = omega (arith, h.count, length-append closed (t ∷ []));
      few = w;
    }
counted-more before after closed t old new len h (inr k) l more same e w =
    let q : new.numbers.items ≡ old.numbers.items ++ (old.closed ∷ []) = more (omega (arith, h.numbers.long, ap length k, length-append before (t ∷ []))) in
    let r : new.numbers.items ≡ old.numbers.items ++ (length closed ∷ []) = q ∙ ap (λ n. old.numbers.items ++ (n ∷ [])) h.count in
    let first : Numbers (before ++ (t ∷ [])) (old.numbers.items ++ (length closed ∷ [])) (closed ++ (t ∷ [])) = closes-first before old.numbers.items closed h.numbers t in
    record {
      numbers = subst (λ us. Numbers us new.numbers.items (closed ++ (t ∷ []))) (sym k) (subst (λ ns. Numbers (before ++ (t ∷ [])) ns (closed ++ (t ∷ []))) (sym r) first);
      count = omega (arith, h.count, length-append closed (t ∷ []));
      few = w;
    }

-- ---- nodes of a store

pub count-of : (s : Store) → length (trees_of s) ≡ length s.nodes.items
count-of s = trees-count s.nodes.items (text_of s.text) s.items.items s.entries.items (tags_of s)

came : (before more after : List Tree) (i : ℕ) (t : Tree) → after ≡ before ++ more → AtMostOne (length before) (length after) i → slice_get after i ≡ Some t → Comes before after t
came before [] after i t e one at = let q = e ∙ append-nil before in inl (q, (i, subst (λ us. slice_get us i ≡ Some t) q at))
came before (u ∷ []) after i t e (inl q) at = absurd (omega (arith, ap length e, length-append before (u ∷ [])))
came before (u ∷ []) after i t e (inr q) at =
    let there : slice_get (before ++ (u ∷ [])) (length before) ≡ Some t = ap (λ us. slice_get us (length before)) (sym e) ∙ ap (slice_get after) (sym q.1) ∙ at in
    let same : Some u ≡ Some t = sym (get-end before u) ∙ there in
    let r : u ≡ t = cc in
    inr (e ∙ ap (λ v. before ++ (v ∷ [])) r)
came before (u ∷ (v ∷ more)) after i t e (inl q) at = absurd (omega (arith, ap length e, length-append before (u ∷ (v ∷ more))))
came before (u ∷ (v ∷ more)) after i t e (inr q) at = let n = q.0 in absurd (omega (arith, ap length e, length-append before (u ∷ (v ∷ more))))

-- a node that a store was asked for
pub comes : (before after : Store) (i : ℕ) (t : Tree) → Keeps before after → AtMostOne (length before.nodes.items) (length after.nodes.items) i → Stands after i t → Comes (trees_of before) (trees_of after) t
comes before after i t k one at =
    came (trees_of before) k.more (trees_of after) i t k.trees (subst (λ n. AtMostOne n (length (trees_of after)) i) (sym (count-of before)) (subst (λ n. AtMostOne (length before.nodes.items) n i) (sym (count-of after)) one)) at

none-more : (before more after : List Tree) → after ≡ before ++ more → length after ≡ length before → after ≡ before
none-more before [] after e l = e ∙ append-nil before
none-more before (u ∷ more) after e l = absurd (omega (arith, ap length e, length-append before (u ∷ more)))

-- no node came
pub same-trees : (before after : Store) → Keeps before after → after.nodes ≡ before.nodes → trees_of after ≡ trees_of before
same-trees before after k e =
    let n : length after.nodes.items ≡ length before.nodes.items = ap (λ v. length v.items) e in
    none-more (trees_of before) k.more (trees_of after) k.trees (omega (arith, count-of before, count-of after))
