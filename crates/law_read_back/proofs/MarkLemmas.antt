-- The marks of an admitted tree are ones that are read, and few enough collections are open in them.
use Rattle.std.proofs.Common.{ℕ, suc, ◌≤◌, Bool, true, false, cond, Some, None, List, [], ◌∷◌, ◌++◌, length, refl, arith}
use Rattle.std.proofs.lemmas.Bool.{cond_both}
use Rattle.std.specs.Prelude.{bytes_eq}
use Rattle.yaml_definitions.specs.model.Tree.{Tree, Trees, Pairs, scalar, sequence, mapping, end, item, done, entry, height, heights, heights_of_pairs}
use Rattle.yaml_definitions.specs.model.Order.{arranged}
use Rattle.yaml_definitions.specs.canonical.Walk.{walk, firsts, agains, is_again}
use Rattle.yaml_definitions.specs.model.Serial.{SerialNode, alias_at}
use Rattle.yaml_definitions.specs.canonical.Serialize.{anchor_name, is_anchored, anchored, anchor_of, serialize, serialize_all, serialize_pairs}
use Rattle.yaml_definitions.specs.model.Tag.{IsTag, default_tag}
use Rattle.yaml_definitions.specs.canonical.TagText.{written_tag}
use Rattle.yaml_definitions.specs.canonical.Spell.{short, serial_of}
use Rattle.yaml_definitions.specs.model.Limits.{open_limit}
use Rattle.yaml_definitions.specs.model.Proper.{IsProper, AreProper, ArePairsProper, IsAdmittedTree}
use Rattle.yaml_definitions.proofs.TextLaws.{IsName, IsAnchor}
use Rattle.yaml_definitions.proofs.ProperLaws.{proper_arranged}
use Rattle.yaml_definitions.proofs.MeansLaws.{height_arranged}
use Rattle.law_read_back.proofs.FlowReadings.{IsTagged, Spells, AllSpell, PairsSpell, depth, depths, pairs_depth}

either : (b : Bool) (n : ℕ) (m : SerialNode) → Spells m → Spells (cond b (alias_at (anchor_name n)) m)
either true n m f = (n, refl)
either false n m f = f

tagged : (k : ℕ) (g : List ℕ) → IsTag g → IsTagged (written_tag k g)
unfolding written_tag
tagged k g h = cond_both (bytes_eq g (default_tag k)) _ _ IsTagged (λ e. tt) (λ e. h)

low : (b : Bool) (n : List ℕ) (m : SerialNode) (k : ℕ) → depth m ≤ k → depth (cond b (alias_at n) m) ≤ k
low true n m k h = omega arith
low false n m k h = h

module _ (repeated : List Tree) where
  anchor_spells : (t : Tree) (w : List Tree) → IsAnchor (anchor_of repeated t w)
  anchor_spells t w =
      let n : ℕ = suc (length (anchored repeated w)) in
      let name : IsName (anchor_name n) = (n, refl) in
      elim (is_anchored repeated t) as (λ b. IsAnchor (cond b (Some (anchor_name n)) None)) [ true ↦ name | false ↦ tt ]

  mutual
    unfolding serialize IsProper

    pub spells_mark : (t : Tree) (w : List Tree) → IsProper t → Spells (serialize short repeated t w)
    spells_mark (scalar g x) w h = either (is_again short (scalar g x) w) _ _ (anchor_spells (scalar g x) w, tagged 0 g h.0, refl, h.1)
    spells_mark (sequence g ts) w h =
        either (is_again short (sequence g ts) w) _ _ (anchor_spells (sequence g ts) w, tagged 1 g h.0, refl, spells_marks ts (w ++ (sequence g ts ∷ [])) h.2)
    spells_mark (mapping g ps) w h =
        either (is_again short (mapping g ps) w) _ _ (anchor_spells (mapping g ps) w, tagged 2 g h.0, refl, spells_pairs ps (w ++ (mapping g ps ∷ [])) h.2)

    spells_marks : (ts : Trees) (w : List Tree) → AreProper ts → AllSpell (serialize_all short repeated ts w)
    spells_marks end w h = tt
    spells_marks (item t ts) w h = (spells_mark t w h.0, spells_marks ts (w ++ firsts (walk short t w)) h.1)

    spells_pairs : (ps : Pairs) (w : List Tree) → ArePairsProper ps → PairsSpell (serialize_pairs short repeated ps w)
    spells_pairs done w h = tt
    spells_pairs (entry k v ps) w h =
        let u : List Tree = w ++ firsts (walk short k w) in
        (spells_mark k w h.0, spells_mark v u h.1, spells_pairs ps (u ++ firsts (walk short v u)) h.2)

  mutual
    unfolding serialize

    pub depth_mark : (t : Tree) (w : List Tree) → depth (serialize short repeated t w) ≤ suc (height t)
    depth_mark (scalar g x) w = low (is_again short (scalar g x) w) _ _ 1 (omega arith)
    depth_mark (sequence g ts) w =
        let i = depths_mark ts (w ++ (sequence g ts ∷ [])) in
        low (is_again short (sequence g ts) w) _ _ (suc (heights ts)) (omega arith)
    depth_mark (mapping g ps) w =
        let i = pairs_mark ps (w ++ (mapping g ps ∷ [])) in
        low (is_again short (mapping g ps) w) _ _ (suc (heights_of_pairs ps)) (omega arith)

    depths_mark : (ts : Trees) (w : List Tree) → depths (serialize_all short repeated ts w) ≤ heights ts
    depths_mark end w = omega arith
    depths_mark (item t ts) w =
        let i = depth_mark t w in
        let j = depths_mark ts (w ++ firsts (walk short t w)) in
        omega arith

    pairs_mark : (ps : Pairs) (w : List Tree) → pairs_depth (serialize_pairs short repeated ps w) ≤ heights_of_pairs ps
    pairs_mark done w = omega arith
    pairs_mark (entry k v ps) w =
        let u : List Tree = w ++ firsts (walk short k w) in
        let i = depth_mark k w in
        let j = depth_mark v u in
        let l = pairs_mark ps (u ++ firsts (walk short v u)) in
        omega arith

pub spells_tree : (t : Tree) → IsAdmittedTree t → Spells (serial_of t)
unfolding serial_of
spells_tree t a = spells_mark (agains (walk short (arranged t) [])) (arranged t) [] (proper_arranged t a.proper)

pub depth_tree : (t : Tree) → IsAdmittedTree t → depth (serial_of t) ≤ open_limit
unfolding serial_of
depth_tree t a =
    let d0 = depth_mark (agains (walk short (arranged t) [])) (arranged t) [] in
    omega (arith, d0, height_arranged t, a.low)
