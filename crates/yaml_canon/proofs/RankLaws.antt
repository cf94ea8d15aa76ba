-- Two streams in one store: the ranks of their roots are the same exactly where their trees are.
use Rattle.std.proofs.Common.{◌≡◌, ℕ, suc, ◌+◌, ◌<◌, ◌≤◌, Bool, true, List, [], ◌∷◌, ◌++◌, length, take, drop, slice_index, refl, sym, ◌∙◌, ap, arith, length-append}
use Rattle.std.specs.Prelude.{◌↔◌}
use Rattle.std.specs.Cmp.Lexicographic.{pointwise}
use Rattle.std.proofs.lemmas.List.{length-map, length-take-le, length-drop, get_or-take, get_or-drop, get_or_append_left, get_or-append-add}
use Rattle.yaml_definitions.specs.model.Limits.{height_limit}
use Rattle.yaml_definitions.specs.model.Tree.{Tree, scalar, height}
use Rattle.yaml_definitions.specs.model.Order.{arranged}
use Rattle.yaml_definitions.specs.model.Same.{Alike, same, Same, Keyed}
use Rattle.yaml_definitions.proofs.Members.{and_both, both_and}
use Rattle.yaml_tree.specs.TreeLists.{tree_at}
use Rattle.yaml_store_rank.specs.Walked.{walked_tree}
use Rattle.yaml_canon.specs.Both.{HaveRanks}
use Rattle.yaml_canon.specs.declared.both.RankedBoth.{RankedBoth}
use Rattle.yaml_canon.specs.Claims.{AllOf}
use Rattle.yaml_canon.specs.Comparing.{Compares}
use Rattle.yaml_canon.proofs.ClaimLaws.{all_of, means_alone}

pub all-apart : (P : Tree → Type 0) (ts us : List Tree) → AllOf P (ts ++ us) → AllOf P ts × AllOf P us
all-apart P [] us h = (tt, h)
all-apart P (t ∷ ts) us h = let k = all-apart P ts us h.1 in ((h.0, k.0), k.1)

-- where ranks tell the trees of both sides apart, the ranks are the same exactly where the trees are
ranks-tell : (rs qs : List ℕ) (ts us : List Tree) → length rs ≡ length ts → length qs ≡ length us → ((i j : ℕ) → i < length rs → j < length qs → (slice_index rs i ≡ slice_index qs j) ↔ Same (tree_at ts i) (tree_at us j)) → (rs ≡ qs) ↔ Alike ts us
ranks-tell [] [] [] [] a b h = (λ e. refl, λ e. refl)
ranks-tell [] (q ∷ qs) [] (u ∷ us) a b h = (λ e. absurd (cc), λ e. absurd (cc))
ranks-tell (r ∷ rs) [] (t ∷ ts) [] a b h = (λ e. absurd (cc), λ e. absurd (cc))
ranks-tell (r ∷ rs) (q ∷ qs) (t ∷ ts) (u ∷ us) a b h =
    let first = h 0 0 (omega arith) (omega arith) in
    let rest = ranks-tell rs qs ts us (omega (arith, a)) (omega (arith, b)) (λ i j l m. h (suc i) (suc j) (omega arith) (omega arith)) in (
      λ e. let x : r ≡ q = cc in let y : rs ≡ qs = cc in both_and (same t u) (pointwise same ts us) (first.0 x) (rest.0 y),
      λ e. let p = and_both (same t u) (pointwise same ts us) e in let x = first.1 p.0 in let y = rest.1 p.1 in λ z. x z ∷ y z,
    )
ranks-tell [] qs (t ∷ ts) us a b h = absurd (omega arith)
ranks-tell (r ∷ rs) qs [] us a b h = absurd (omega arith)
ranks-tell rs [] ts (u ∷ us) a b h = absurd (omega arith)
ranks-tell rs (q ∷ qs) ts [] a b h = absurd (omega arith)

module _ (left right : List ℕ) (b : RankedBoth) (h : HaveRanks left right b) where
  abbrev roots : List ℕ
  roots = b.forest.roots.items

  abbrev lefts : List Tree
  lefts = h.mean.lefts

  abbrev rights : List Tree
  rights = h.mean.rights

  abbrev IsLow : Tree → Type 0
  IsLow t = height t ≤ height_limit

  keyed : AllOf Keyed lefts × AllOf Keyed rights
  keyed = all-apart Keyed lefts rights (all_of Keyed (lefts ++ rights) h.ranks.keyed)

  low : AllOf IsLow lefts × AllOf IsLow rights
  low = all-apart IsLow lefts rights (all_of IsLow (lefts ++ rights) h.mean.low)

  long : length roots ≡ length lefts + length rights
  long = sym (length-map roots (walked_tree b.forest.ranked)) ∙ (ap length h.ranks.arranged ∙ (length-map (lefts ++ rights) arranged ∙ length-append lefts rights))

  -- so many roots are the left side's
  pub middle-within : b.middle ≤ length roots
  middle-within = omega (arith, long, h.mean.middle_is)

  -- a rank of one side and one of the other
  across : (i j : ℕ) → i < length lefts → j < length rights → (slice_index (take b.middle roots) i ≡ slice_index (drop b.middle roots) j) ↔ Same (tree_at lefts i) (tree_at rights j)
  across i j l m =
      let n = h.mean.middle_is in
      let size = length-append lefts rights in
      let tell = h.ranks.tell i (b.middle + j) (omega (arith, l, size)) (omega (arith, m, n, size)) in
      let x = get_or-take b.middle roots i 0 (omega (arith, l, n)) in
      let y = get_or-drop b.middle roots j 0 in
      let t = get_or_append_left lefts rights (scalar [] []) i l in
      let u : tree_at (lefts ++ rights) (b.middle + j) ≡ tree_at rights j = ap (λ k. tree_at (lefts ++ rights) (k + j)) n ∙ get_or-append-add lefts rights j (scalar [] []) in
      let q : same (tree_at (lefts ++ rights) i) (tree_at (lefts ++ rights) (b.middle + j)) ≡ same (tree_at lefts i) (tree_at rights j) = λ z. same (t z) (u z) in
      (λ e. sym q ∙ tell.0 (sym x ∙ (e ∙ y)), λ e. x ∙ (tell.1 (q ∙ e) ∙ sym y))

  both-tell : (take b.middle roots ≡ drop b.middle roots) ↔ Alike lefts rights
  both-tell =
      let n = h.mean.middle_is in
      let x : length (take b.middle roots) ≡ length lefts = length-take-le b.middle roots middle-within ∙ n in
      let y : length (drop b.middle roots) ≡ length rights = omega (arith, length-drop b.middle roots, long, n) in
      ranks-tell (take b.middle roots) (drop b.middle roots) lefts rights x y (λ i j l m. across i j (omega (arith, l, x)) (omega (arith, m, y)))

  pub compares-ranks : (answer : Bool) → (answer ≡ true) ↔ (take b.middle roots ≡ drop b.middle roots) → Compares left right answer
  compares-ranks answer t = record {
    first = lefts;
    second = rights;
    first_accepted = means_alone left lefts h.mean.left_means low.0 keyed.0;
    second_accepted = means_alone right rights h.mean.right_means low.1 keyed.1;
    tells = (λ e. both-tell.0 (t.0 e), λ e. t.1 (both-tell.1 e));
  }
