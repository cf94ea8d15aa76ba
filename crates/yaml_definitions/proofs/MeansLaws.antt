-- What the spellings of an admitted forest mean: the forest arranged, which is admitted, the same, and has the same text.
use Rattle.std.proofs.Common.{◌≡◌, ◌≤◌, ℕ, suc, max, ◌+◌, true, false, cond, List, [], ◌∷◌, length, map, refl, sym, ◌∙◌, ap, subst, arith, Ok, Result}
use Rattle.std.specs.Prelude.{encode_utf8_all}
use Rattle.std.specs.Cmp.Lexicographic.{pointwise}
use Rattle.std.specs.Ordering.{is_gt}
use Rattle.yaml_definitions.specs.model.Limits.{text_limit, height_limit}
use Rattle.yaml_definitions.specs.model.Tree.{Tree, Trees, Pairs, scalar, sequence, mapping, end, item, done, entry, height, heights, heights_of_pairs}
use Rattle.yaml_definitions.specs.model.Order.{tree_cmp, enter, arranged, arranged_trees, arranged_pairs}
use Rattle.yaml_definitions.specs.model.Same.{same, Keyed}
use Rattle.yaml_definitions.specs.model.Event.{Event}
use Rattle.yaml_definitions.specs.canonical.NodeText.{node_text}
use Rattle.yaml_definitions.specs.canonical.Spell.{serial_of_arranged, serial_of, spell, spell_bytes, spelled, document_of}
use Rattle.yaml_definitions.specs.canonical.Block.{blocked_serial, blocked}
use Rattle.yaml_definitions.specs.model.Unfold.{and_then, trees_from, trees_of, event_count}
use Rattle.yaml_definitions.specs.model.Proper.{IsAdmittedTree, AreAdmitted, Admitted}
use Rattle.yaml_definitions.specs.model.Same.{Alike}
use Rattle.yaml_definitions.specs.model.Means.{StandsFor, Understood}
use Rattle.yaml_definitions.proofs.Members.{both_and}
use Rattle.yaml_definitions.proofs.SameLaws.{same_from}
use Rattle.yaml_definitions.proofs.Arranged.{neat_fixed, neat_keyed, arranged_neat}
use Rattle.yaml_definitions.proofs.FlatLaws.{stream_once}
use Rattle.yaml_definitions.proofs.ProperLaws.{proper_arranged}
use Rattle.yaml_definitions.proofs.BlockLaws.{block_count, block_unfold}
use Rattle.yaml_definitions.proofs.Law.{spelled_stands, unfold_from}

-- ---- arranging keeps height

height_enter : (k v : Tree) (ps : Pairs) → heights_of_pairs (enter k v ps) ≡ heights_of_pairs (entry k v ps)
height_enter k v done = refl
height_enter k v (entry j w ps) =
    let i = height_enter k v ps in
    let l : heights_of_pairs (entry j w (enter k v ps)) ≡ heights_of_pairs (entry k v (entry j w ps)) = omega arith in
    elim (is_gt (tree_cmp k j)) as (λ b. heights_of_pairs (cond b (entry j w (enter k v ps)) (entry k v (entry j w ps))) ≡ heights_of_pairs (entry k v (entry j w ps))) [ true ↦ l | false ↦ refl ]

mutual
  unfolding arranged

  pub height_arranged : (t : Tree) → height (arranged t) ≡ height t
  height_arranged (scalar g x) = refl
  height_arranged (sequence g ts) = heights_arranged ts
  height_arranged (mapping g ps) = pairs_height ps

  heights_arranged : (ts : Trees) → heights (arranged_trees ts) ≡ heights ts
  heights_arranged end = refl
  heights_arranged (item t ts) = let p = height_arranged t in let q = heights_arranged ts in λ z. max (suc (p z)) (q z)

  pairs_height : (ps : Pairs) → heights_of_pairs (arranged_pairs ps) ≡ heights_of_pairs ps
  pairs_height done = refl
  pairs_height (entry k v ps) =
      let p = height_arranged k in
      let q = height_arranged v in
      let r = pairs_height ps in
      height_enter (arranged k) (arranged v) (arranged_pairs ps) ∙ (λ z. max (suc (max (p z) (q z))) (r z))

-- ---- the forest arranged

arranged_twice : (t : Tree) → Keyed t → arranged (arranged t) ≡ arranged t
arranged_twice t k = neat_fixed (arranged t) (arranged_neat t k)

admitted_tree : (t : Tree) → IsAdmittedTree t → IsAdmittedTree (arranged t)
admitted_tree t a = record {
  proper = proper_arranged t a.proper;
  keyed = neat_keyed (arranged t) (arranged_neat t a.keyed);
  low = subst (λ n. n ≤ height_limit) (sym (height_arranged t)) a.low;
}

admitted_trees : (f : List Tree) → AreAdmitted f → AreAdmitted (map arranged f)
admitted_trees [] a = tt
admitted_trees (t ∷ f) a = (admitted_tree t a.0, admitted_trees f a.1)

arranged_text : (f : List Tree) → AreAdmitted f → spell (map arranged f) ≡ spell f
unfolding spell serial_of
arranged_text [] a = refl
arranged_text (t ∷ f) a =
    let p = ap serial_of_arranged (arranged_twice t a.0.keyed) in
    let q = arranged_text f a.1 in
    λ z. 45 ∷ 45 ∷ 45 ∷ 32 ∷ node_text (p z) (10 ∷ q z)

arranged_alike : (f : List Tree) → AreAdmitted f → Alike (map arranged f) f
arranged_alike [] a = refl
arranged_alike (t ∷ f) a = both_and (same (arranged t) t) (pointwise same (map arranged f) f) (same_from (arranged t) t (arranged_twice t a.0.keyed)) (arranged_alike f a.1)

block_from : (at : ℕ) (f : List Tree) → trees_from at (map (λ t. document_of (blocked_serial t)) f) ≡ trees_from at (map (λ t. document_of (serial_of t)) f)
unfolding trees_from
block_from at [] = refl
block_from at (t ∷ f) =
    let p = block_unfold (serial_of t) [] (suc at) in
    let q = block_from (suc (suc (at + event_count (blocked_serial t)))) f ∙ ap (λ n. trees_from (suc (suc (at + n))) (map (λ t. document_of (serial_of t)) f)) (block_count (serial_of t)) in
    λ z. and_then {Y = List Tree} (p z) (λ r. and_then (q z) (λ g. Ok (r.0 ∷ g)))

-- ---- what the events of the spellings stand for

understood : (events : List Event) (f : List Tree) → Admitted f → StandsFor events (map arranged f) → Understood events f
unfolding spell_bytes
understood events f a s = record {
  forest = map arranged f;
  stands = s;
  admitted = record { trees = admitted_trees f a.trees; fits = subst (λ x. length (encode_utf8_all x) ≤ text_limit) (sym (arranged_text f a.trees)) a.fits };
  alike = arranged_alike f a.trees;
  text = ap encode_utf8_all (arranged_text f a.trees);
}

pub spelled_understood : (f : List Tree) → Admitted f → Understood (spelled f) f
spelled_understood f a = understood (spelled f) f a (spelled_stands f a.trees)

pub blocked_understood : (f : List Tree) → Admitted f → Understood (blocked f) f
unfolding blocked
blocked_understood f a =
    understood (blocked f) f a (record { documents = map (λ t. document_of (blocked_serial t)) f; cut = refl; unfolded = block_from 1 f ∙ unfold_from 1 f a.trees })

-- events stand for one forest
pub stands_one : (events : List Event) (f g : List Tree) → StandsFor events f → StandsFor events g → f ≡ g
stands_one events f g s t =
    let p = stream_once s.documents t.documents (sym s.cut ∙ t.cut) in
    let q : ◌≡◌ {A = Result (List Tree) _} (Ok f) (Ok g) = sym s.unfolded ∙ (ap trees_of p ∙ t.unfolded) in
    cc
