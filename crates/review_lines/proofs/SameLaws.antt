-- What a list of the differences of two streams says of whether they are the same.
use Rattle.std.proofs.Common.{◌≡◌, ℕ, suc, ◌<◌, Bool, true, false, ◌&&◌, ◌==◌, List, [], ◌∷◌, length, map, refl, sym, ◌∙◌, arith}
use Rattle.std.specs.Prelude.{◌↔◌, Some}
use Rattle.std.specs.List.{All}
use Rattle.std.proofs.lemmas.Bool.{eqb-true}
use Rattle.yaml_definitions.specs.model.Tree.{Tree, sequence}
use Rattle.yaml_definitions.specs.model.Same.{Same, Keyed, keyed, keyed_trees, Alike}
use Rattle.yaml_definitions.proofs.Members.{both_and, and_both}
use Rattle.yaml_tree.specs.TreeLists.{trees}
use Rattle.yaml_store_rank.specs.Forests.{Forests, count, tree, documents_of, IsRanked}
use Rattle.yaml_store_rank.proofs.ForestTrees.{documents-within}
use Rattle.yaml_path.specs.Ways.{Pairing}
use Rattle.yaml_diff.specs.Lines.{line_of, way_of}
use Rattle.yaml_diff.specs.Moves.{move_line_of}
use Rattle.yaml_diff.specs.Listing.{Lists}
use Rattle.yaml_diff.specs.declared.difference.Found.{Found}
use Rattle.yaml_diff.specs.declared.difference.Difference.{Difference}
use Rattle.yaml_diff.specs.declared.difference.Move.{Move}
use Rattle.yaml_diff.proofs.PatchLaws.{empty-same, sequences-alike}
use Rattle.yaml_diff.proofs.PatchLaws.{match-ends, match-moves}
use Rattle.review_lines.specs.Searched.{FindsStreams}

keyed_documents : (g : Forests) (roots : List ℕ) → ((i : ℕ) → i < count g → Keyed (tree g i)) → All (λ i. i < count g) roots → keyed_trees (trees (map (tree g) roots)) ≡ true
keyed_documents g [] k a = refl
keyed_documents g (x ∷ xs) k a = both_and (keyed (tree g x)) (keyed_trees (trees (map (tree g) xs))) (k x (a 0 0 (omega arith))) (keyed_documents g xs k (λ n d l. a (suc n) d (omega (arith, l))))

keyed_stream : (g : Forests) → IsRanked g → (stream : ℕ) → Keyed (sequence [] (trees (map (tree g) (documents_of g stream))))
keyed_stream g r stream = keyed_documents g (documents_of g stream) r.keyed (documents-within g r stream)

none_of : {X Y : Type 0} (f : X → Y) (xs : List X) → map f xs ≡ [] → (length xs == 0) ≡ true
none_of f [] e = refl
none_of f (x ∷ xs) e = absurd (cc)

no_lines : {X Y : Type 0} (f : X → Y) (xs : List X) → (length xs == 0) ≡ true → map f xs ≡ []
no_lines f [] e = refl
no_lines f (x ∷ xs) e = let q = eqb-true (length (x ∷ xs)) 0 e in absurd (omega (arith, q))

-- a list with a line or a move is of two that are not the same
one_line : (g : Forests) (P M : Pairing) (t u : Tree) (room : ℕ) (xs : List Difference) (ms : List Move) (w : Bool) → 0 < room → Keyed t → Keyed u → Lists g P M (Some t) (Some u) room (map line_of xs) (map move_line_of ms) w → Same t u → w ≡ false → ⊥
one_line g P M t u room [] [] w r m n l s e = let c = l.cut e in absurd (omega (arith, c, r))
one_line g P M t u room [] (x ∷ ms) w r m n l s e =
    let i = l.moved.each 0 (move_line_of x) refl in match-moves (way_of g (move_line_of x).0) P M (move_line_of x).1 (Some t) (Some u) (s, m, n) l.pairs l.moved.settles i.ends i.reaches i.moved
one_line g P M t u room (x ∷ xs) ms w r m n l s e = let i = l.each 0 (line_of x) refl in match-ends (way_of g (line_of x).0) P (Some t) (Some u) (s, m, n) l.pairs i.ends i.differs

tells : (g : Forests) (P M : Pairing) (t u : Tree) (room : ℕ) (xs : List Difference) (ms : List Move) (w : Bool) → 0 < room → Keyed t → Keyed u → Lists g P M (Some t) (Some u) room (map line_of xs) (map move_line_of ms) w → (((w && (length xs == 0)) && (length ms == 0)) ≡ true) ↔ Same t u
tells g P M t u room xs ms true r m n l = (
  λ e. let a = and_both (length xs == 0) (length ms == 0) e in (empty-same g P M t u room (map line_of xs) (map move_line_of ms) m n l).0 (no_lines line_of xs a.0, no_lines move_line_of ms a.1),
  λ s. let a = (empty-same g P M t u room (map line_of xs) (map move_line_of ms) m n l).1 s in both_and (length xs == 0) (length ms == 0) (none_of line_of xs a.0) (none_of move_line_of ms a.1),
)
tells g P M t u room xs ms false r m n l = (λ e. absurd (cc), λ s. absurd (one_line g P M t u room xs ms false r m n l s refl))

-- nothing is listed, and all is, exactly if the documents are the same, pairwise
pub alike_by_list : (g : Forests) (room : ℕ) (f : Found) (answer : Bool) → IsRanked g → 0 < room → FindsStreams g room f → answer ≡ ((f.whole && (length f.list.items == 0)) && (length f.moves.items == 0)) → (answer ≡ true) ↔ Alike (map (tree g) (documents_of g 0)) (map (tree g) (documents_of g 1))
alike_by_list g room f answer k r h e =
    let l = h [] in
    let t = sequence [] (trees (map (tree g) (documents_of g 0))) in
    let u = sequence [] (trees (map (tree g) (documents_of g 1))) in
    let s = tells g l.0 l.1 t u room f.list.items f.moves.items f.whole r (keyed_stream g k 0) (keyed_stream g k 1) l.2 in
    let q = sequences-alike [] (map (tree g) (documents_of g 0)) (map (tree g) (documents_of g 1)) in
    (λ y. q.0 (s.0 (sym e ∙ y)), λ y. e ∙ s.1 (q.1 y))
