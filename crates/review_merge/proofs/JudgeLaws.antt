-- From the paths that are found to what is said of a merge.
use Rattle.std.proofs.Common.{◌≡◌, ℕ, suc, ◌<◌, ◌==◌, Bool, true, false, cond, List, [], ◌∷◌, map, length, refl, sym, ◌∙◌, ap, subst, arith}
use Rattle.std.specs.Prelude.{Option, Some, None, Result, Ok, Err, IfOk}
use Rattle.std.specs.List.{slice_get, slice_index_or, All}
use Rattle.std.proofs.lemmas.Bool.{eqb-true}
use Rattle.std.proofs.lemmas.Simd.{map-map}
use Rattle.yaml_text.specs.declared.fault.Fault.{Fault}
use Rattle.yaml_definitions.specs.model.Means.{Means}
use Rattle.yaml_definitions.specs.model.Tree.{Tree, Trees}
use Rattle.yaml_definitions.specs.model.Same.{keyed, keyed_trees}
use Rattle.yaml_definitions.proofs.Members.{both_and}
use Rattle.yaml_tree.specs.TreeLists.{trees}
use Rattle.yaml_tree.specs.declared.node.NodeId.{NodeId}
use Rattle.yaml_store_rank.specs.Forests.{Forests, count, tree, documents_of, IsRanked}
use Rattle.yaml_store_rank.specs.KeyOrder.{numbers}
use Rattle.yaml_store_rank.proofs.ForestTrees.{documents-within}
use Rattle.yaml_store_rank.proofs.KeyOrderLaws.{unmap}
use Rattle.yaml_canon.specs.Written.{AllMean, ShowsStreams}
use Rattle.yaml_diff.specs.Found.{AllWithin}
use Rattle.yaml_diff.proofs.Shapes.{all-at}
use Rattle.yaml_conflicts.specs.MergedStreams.{stream, StreamBreaks}
use Rattle.yaml_conflicts.proofs.RuleLaws.{not-true}
use Rattle.yaml_conflicts.proofs.MergedLaws.{stream-exists}
use Rattle.yaml_conflicts.specs.Found.{line_of, path_of, Lists}
use Rattle.yaml_conflicts.specs.Streams.{documents, RootsWithin, FindsDocuments, FindsOutcome, FindsStreams}
use Rattle.yaml_conflicts.specs.declared.sides.Conflict.{Conflict}
use Rattle.yaml_conflicts.specs.declared.sides.Found.{Found}
use Rattle.yaml_conflicts.specs.declared.streams.Roots.{Roots}
use Rattle.yaml_conflicts.specs.declared.streams.Outcome.{Outcome}
use Rattle.yaml_conflicts.specs.declared.streams.Outcome.TheVariants.{Documents, Streams}
use Rattle.review_merge.specs.Judged.{found_verdict, verdict, merge_stream, stream_trees, Decides, Judges, RootsAre}
use Rattle.review_merge.specs.Merges.{Says}

no-line : {X : Type 0} {x : X} (k : ℕ) → slice_get [] k ≡ Some x → ⊥
no-line k e = absurd (cc)

found-decided : (g : Forests) (given : Bool) (b o t m : Trees) (f : Found) → FindsDocuments g given b o t m f → Decides given b o t m (found_verdict f.list.items f.whole)
found-decided g given b o t m f h = by f.list.items f.whole h.lists
  where
    by : (list : List Conflict) (w : Bool) → Lists g (λ p. StreamBreaks given p b o t m) (stream b) (stream o) (stream t) (stream m) (map line_of list) w → Decides given b o t m (found_verdict list w)
    by [] true l = λ p x. let r = l.whole refl p x in no-line r.0 r.2
    by [] false l = tt
    by (d ∷ list) w l =
        let e = not-true (length (d ∷ list) == 0) (λ h. let q = eqb-true (length (d ∷ list)) 0 h in absurd (omega (arith, q))) in
        subst (λ z. Decides given b o t m (cond z (cond w (Some true) None) (Some false))) (sym e) (path_of g (line_of d).0, (l.each 0 (line_of d) refl).is)

outcome-decided : (g : Forests) (given : Bool) (b o t m : Trees) (outcome : Outcome) → FindsOutcome g given b o t m outcome → Decides given b o t m (verdict outcome)
outcome-decided g given b o t m Streams h = ([], h)
outcome-decided g given b o t m (Documents f) h = found-decided g given b o t m f h

says : (given : Bool) (b o t m : List Tree) (v : Option Bool) → keyed_trees (trees b) ≡ true → keyed_trees (trees o) ≡ true → keyed_trees (trees t) ≡ true → Judges given b o t m v → Says given b o t m v
says true b o t m (Some true) kb ko kt d = d
says true b o t m (Some false) kb ko kt d = λ h. h d.0 d.1
says true b o t m None kb ko kt d = tt
says false b o t m (Some true) kb ko kt d = (stream-exists (trees b) (trees o) (trees t) kb ko kt).1 d
says false b o t m (Some false) kb ko kt d = λ h. (stream-exists (trees b) (trees o) (trees t) kb ko kt).0 h d.0 d.1
says false b o t m None kb ko kt d = tt

merge-trees : (f : Forests) (given : Bool) → stream_trees f (merge_stream given) ≡ cond given (stream_trees f 3) (stream_trees f 0)
merge-trees f true = refl
merge-trees f false = refl

-- what the bytes mean are the trees of the streams, one by one
pub four-mean : (f : Forests) (b o t m : List ℕ) → ShowsStreams (b ∷ o ∷ t ∷ m ∷ []) f → Means b (stream_trees f 0) × Means o (stream_trees f 1) × Means t (stream_trees f 2) × Means m (stream_trees f 3)
four-mean f b o t m h = by f.streams h
  where
    at : List (List ℕ) → ℕ → List Tree
    at streams k = map (tree f) (slice_index_or streams k [])

    by : (streams : List (List ℕ)) → AllMean f (b ∷ o ∷ t ∷ m ∷ []) streams → Means b (at streams 0) × Means o (at streams 1) × Means t (at streams 2) × Means m (at streams 3)
    by [] h = absurd h
    by (x ∷ []) h = absurd h.1
    by (x ∷ y ∷ []) h = absurd h.1.1
    by (x ∷ y ∷ z ∷ []) h = absurd h.1.1.1
    by (x ∷ y ∷ z ∷ w ∷ streams) h = (h.0, h.1.0, h.1.1.0, h.1.1.1.0)

module _ (f : Forests) (are : IsRanked f) where
  within : (roots : List NodeId) (k : ℕ) → numbers roots ≡ documents_of f k → AllWithin f roots
  within roots k e = all-at (λ i. i.0 < count f) roots (unmap (λ (i : NodeId). i.0) (λ i. i < count f) roots (subst (All (λ i. i < count f)) (sym e) (documents-within f are k)))

  documents-are : (roots : List NodeId) (k : ℕ) → numbers roots ≡ documents_of f k → documents f roots ≡ trees (stream_trees f k)
  documents-are roots k e = ap trees (sym (map-map (tree f) (λ (i : NodeId). i.0) roots) ∙ ap (map (tree f)) e)

  -- the documents have no equal keys
  keyed-stream : (k : ℕ) → keyed_trees (trees (stream_trees f k)) ≡ true
  keyed-stream k = by (documents_of f k) (documents-within f are k)
    where
      by : (roots : List ℕ) → All (λ i. i < count f) roots → keyed_trees (trees (map (tree f) roots)) ≡ true
      by [] a = refl
      by (i ∷ roots) a = both_and (keyed (tree f i)) (keyed_trees (trees (map (tree f) roots))) (are.keyed i (a 0 i (omega arith))) (by roots (λ k d l. a (suc k) d (omega (arith, l))))

  module _ (given : Bool) (r : Roots) (is : RootsAre f given r) where
    pub roots-within : RootsWithin f r
    roots-within = record {
      base = within r.base.now 0 is.base;
      ours = within r.ours.now 1 is.ours;
      theirs = within r.theirs.now 2 is.theirs;
      merge = within r.merge.now (merge_stream given) is.merge;
    }

    judged : (outcome : Outcome) → FindsStreams f given r outcome → Says given (stream_trees f 0) (stream_trees f 1) (stream_trees f 2) (stream_trees f 3) (verdict outcome)
    judged outcome h =
        let v = verdict outcome in
        let d0 = outcome-decided f given (documents f r.base.now) (documents f r.ours.now) (documents f r.theirs.now) (documents f r.merge.now) outcome h in
        let d1 = subst (λ x. Decides given x (documents f r.ours.now) (documents f r.theirs.now) (documents f r.merge.now) v) (documents-are r.base.now 0 is.base) d0 in
        let d2 = subst (λ x. Decides given (trees (stream_trees f 0)) x (documents f r.theirs.now) (documents f r.merge.now) v) (documents-are r.ours.now 1 is.ours) d1 in
        let d3 = subst (λ x. Decides given (trees (stream_trees f 0)) (trees (stream_trees f 1)) x (documents f r.merge.now) v) (documents-are r.theirs.now 2 is.theirs) d2 in
        let d4 = subst (λ x. Decides given (trees (stream_trees f 0)) (trees (stream_trees f 1)) (trees (stream_trees f 2)) x v) (documents-are r.merge.now (merge_stream given) is.merge ∙ ap trees (merge-trees f given)) d3 in
        says given (stream_trees f 0) (stream_trees f 1) (stream_trees f 2) (stream_trees f 3) v (keyed-stream 0) (keyed-stream 1) (keyed-stream 2) d4

    pub answer-judged : (answer : Result Outcome Fault) → IfOk answer (FindsStreams f given r) → IfOk answer (λ x. Says given (stream_trees f 0) (stream_trees f 1) (stream_trees f 2) (stream_trees f 3) (verdict x))
    answer-judged (Ok x) h = judged x h
    answer-judged (Err e) h = tt
