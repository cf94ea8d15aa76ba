-- What ranked forests show of a stream.
use Rattle.std.proofs.Common.{◌≡◌, ℕ, zero, suc, ◌-◌, ◌≤◌, List, [], ◌∷◌, map, length, refl, sym, ◌∙◌, ap, subst, arith}
use Rattle.std.specs.Prelude.{Some}
use Rattle.std.specs.List.{slice_get, slice_index_or}
use Rattle.std.proofs.lemmas.List.{take_all}
use Rattle.yaml_definitions.specs.model.Limits.{height_limit}
use Rattle.yaml_definitions.specs.model.Means.{Means}
use Rattle.yaml_definitions.specs.model.Tree.{Tree, height}
use Rattle.yaml_definitions.specs.model.Same.{Keyed}
use Rattle.yaml_tree.specs.TreeLists.{tree_at}
use Rattle.yaml_tree.specs.Insides.{trees_held}
use Rattle.yaml_store.specs.StoreModel.{parts_at}
use Rattle.yaml_store.specs.StoreGrows.{trees_of}
use Rattle.yaml_store_rank.specs.Forests.{Forests, count, tree, documents_of, cut_from, IsRanked}
use Rattle.yaml_store_rank.specs.Written.{ShowsStore}
use Rattle.yaml_tree_builder.specs.declared.builder.Forest.{Forest}
use Rattle.yaml_store_rank.proofs.ForestTrees.{documents-within}
use Rattle.yaml_canon.specs.Claims.{MeansAlone}
use Rattle.yaml_canon.specs.Read.{root_trees}
use Rattle.yaml_canon.specs.Written.{ShowsStream, AllMean, ShowsStreams}
use Rattle.yaml_canon.proofs.ClaimLaws.{all_roots, means_alone}

pub shows-stream : (bytes : List ℕ) (forest : Forest) (f : Forests) → Means bytes (root_trees forest) → ShowsStore forest.store forest.roots.items (length forest.roots.items ∷ []) f → ShowsStream bytes f
shows-stream bytes forest f means is =
    let roots = forest.roots.items in
    let whole : cut_from roots 0 (length roots ∷ []) ≡ roots ∷ [] = ap (λ z. z ∷ []) (take_all (length roots - 0) roots (omega arith)) in
    let trees : map (tree f) roots ≡ parts_at (trees_of forest.store) roots = ap (λ ns. map (λ i. tree_at (trees_held ns) i) roots) is.nodes in
    record { roots = roots; streams = is.streams ∙ whole; means = subst (Means bytes) (sym trees) means }

documents-mean : (f : Forests) (sources streams : List (List ℕ)) → AllMean f sources streams → (k : ℕ) (bytes : List ℕ) → slice_get sources k ≡ Some bytes → Means bytes (map (tree f) (slice_index_or streams k []))
documents-mean f (s ∷ sources) (roots ∷ streams) m zero bytes e =
    let same : s ≡ bytes = cc in
    subst (λ z. Means z (map (tree f) roots)) same m.0
documents-mean f (s ∷ sources) (roots ∷ streams) m (suc k) bytes e = documents-mean f sources streams m.1 k bytes e
documents-mean f [] [] m k bytes e = absurd (cc)
documents-mean f [] (roots ∷ streams) m k bytes e = absurd m
documents-mean f (s ∷ sources) [] m k bytes e = absurd m

-- the bytes of each stream mean the trees of its documents, and no others
pub stream-alone : (f : Forests) → IsRanked f → (sources : List (List ℕ)) → ShowsStreams sources f → (k : ℕ) (bytes : List ℕ) → slice_get sources k ≡ Some bytes → MeansAlone bytes (map (tree f) (documents_of f k))
stream-alone f are sources m k bytes e =
    let roots = documents_of f k in
    let within = documents-within f are k in
    means_alone bytes (map (tree f) roots) (documents-mean f sources f.streams m k bytes e) (all_roots (λ t. height t ≤ height_limit) (tree f) roots (count f) are.low within) (all_roots Keyed (tree f) roots (count f) are.keyed within)
