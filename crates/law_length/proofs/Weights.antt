-- What a node that is written out weighs: its own bytes, and what its parts may take beside those that are written out themselves.
use Rattle.std.proofs.Common.{◌≡◌, ℕ, suc, ◌+◌, ◌*◌, Bool, true, false, cond, List, [], ◌∷◌, map, length, refl, ◌∙◌, ap}
use Rattle.std.specs.Str.{encode_utf8_all, chars}
use Rattle.std.specs.Ordering.{is_gt}
use Rattle.yaml_definitions.specs.model.Tree.{Tree, Trees, Pairs, scalar, sequence, mapping, end, item, done, entry}
use Rattle.yaml_definitions.specs.canonical.TagText.{written_tag, tag_text}
use Rattle.yaml_definitions.specs.canonical.NodeText.{quoted}
use Rattle.yaml_definitions.specs.model.Order.{tree_cmp, enter, arranged, arranged_trees, arranged_pairs}
use Rattle.law_length.proofs.Sums.{among_map, total, total-map}
use Rattle.law_length.proofs.Walks.{Inside, InsideAll, InsidePairs}

-- bytes of characters
unfoldable pub bytes : List ℕ → ℕ
bytes cs = length (encode_utf8_all cs)

unfoldable pub tag_bytes : ℕ → List ℕ → ℕ
tag_bytes k g = bytes (tag_text (written_tag k g))

unfoldable pub content_bytes : List ℕ → ℕ
content_bytes x = bytes (34 ∷ quoted (chars x) [])

abbrev pub count : Trees → ℕ
count end = 0
count (item t ts) = suc (count ts)

abbrev pub count_pairs : Pairs → ℕ
count_pairs done = 0
count_pairs (entry k v ps) = suc (count_pairs ps)

-- A part takes 75 bytes at most where it is short or a repetition, and its separators 2, or 5 for an entry.
unfoldable pub own : Tree → ℕ
own (scalar g x) = tag_bytes 0 g + content_bytes x
own (sequence g ts) = tag_bytes 1 g + (2 + 77 * count ts)
own (mapping g ps) = tag_bytes 2 g + (2 + 155 * count_pairs ps)

-- ---- arranged

count_arranged : (ts : Trees) → count (arranged_trees ts) ≡ count ts
unfolding arranged
count_arranged end = refl
count_arranged (item t ts) = ap suc (count_arranged ts)

count_enter : (k v : Tree) (ps : Pairs) → count_pairs (enter k v ps) ≡ suc (count_pairs ps)
count_enter k v done = refl
count_enter k v (entry j w ps) = by (is_gt (tree_cmp k j)) (count_enter k v ps)
  where
    by : (b : Bool) → count_pairs (enter k v ps) ≡ suc (count_pairs ps) → count_pairs (cond b (entry j w (enter k v ps)) (entry k v (entry j w ps))) ≡ suc (suc (count_pairs ps))
    by true h = ap suc h
    by false h = refl

count_arranged_pairs : (ps : Pairs) → count_pairs (arranged_pairs ps) ≡ count_pairs ps
unfolding arranged
count_arranged_pairs done = refl
count_arranged_pairs (entry k v ps) = count_enter (arranged k) (arranged v) (arranged_pairs ps) ∙ ap suc (count_arranged_pairs ps)

pub own_arranged : (t : Tree) → own (arranged t) ≡ own t
unfolding arranged own
own_arranged (scalar g x) = refl
own_arranged (sequence g ts) = ap (λ n. tag_bytes 1 g + (2 + 77 * n)) (count_arranged ts)
own_arranged (mapping g ps) = ap (λ n. tag_bytes 2 g + (2 + 155 * n)) (count_arranged_pairs ps)

enter_inside : (s : List Tree) (k v : Tree) (ps : Pairs) → Inside s k → Inside s v → InsidePairs s ps → InsidePairs s (enter k v ps)
enter_inside s k v done a b c = (a, b, tt)
enter_inside s k v (entry j w ps) a b c = by (is_gt (tree_cmp k j)) (enter_inside s k v ps a b c.2)
  where
    by : (d : Bool) → InsidePairs s (enter k v ps) → InsidePairs s (cond d (entry j w (enter k v ps)) (entry k v (entry j w ps)))
    by true h = (c.0, c.1, h)
    by false h = (a, b, c)

mutual
  unfolding arranged

  pub arranged_inside : (s : List Tree) (t : Tree) → Inside s t → Inside (map arranged s) (arranged t)
  arranged_inside s (scalar g x) h = among_map arranged (scalar g x) s h
  arranged_inside s (sequence g ts) h = (among_map arranged (sequence g ts) s h.0, arranged_inside_all s ts h.1)
  arranged_inside s (mapping g ps) h = (among_map arranged (mapping g ps) s h.0, arranged_inside_pairs s ps h.1)

  arranged_inside_all : (s : List Tree) (ts : Trees) → InsideAll s ts → InsideAll (map arranged s) (arranged_trees ts)
  arranged_inside_all s end h = tt
  arranged_inside_all s (item t ts) h = (arranged_inside s t h.0, arranged_inside_all s ts h.1)

  arranged_inside_pairs : (s : List Tree) (ps : Pairs) → InsidePairs s ps → InsidePairs (map arranged s) (arranged_pairs ps)
  arranged_inside_pairs s done h = tt
  arranged_inside_pairs s (entry k v ps) h = enter_inside (map arranged s) (arranged k) (arranged v) (arranged_pairs ps) (arranged_inside s k h.0) (arranged_inside s v h.1) (arranged_inside_pairs s ps h.2)

pub own_all_arranged : (s : List Tree) → total own (map arranged s) ≡ total own s
own_all_arranged s = total-map own arranged s own_arranged
