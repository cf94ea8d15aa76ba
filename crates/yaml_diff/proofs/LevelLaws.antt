-- What the lines tell of one list.
use Rattle.std.proofs.Common.{◌≡◌, ◌≢◌, ℕ, true, ◌⊎◌, List, [], ◌∷◌, ◌++◌, inl, inr, refl, sym, ◌∙◌, ap, subst}
use Rattle.std.specs.Prelude.{Option, Some, None, Bool}
use Rattle.std.specs.List.{slice_get}
use Rattle.yaml_definitions.specs.model.Tree.{Tree}
use Rattle.yaml_store_rank.specs.Forests.{Forests}
use Rattle.yaml_path.specs.Path.{head, head_of}
use Rattle.yaml_path.specs.Ways.{at_places, Way, Pairing, Takes, Reaches, below, Allows, Differs, left_place, right_place, left_part, right_part, left_end, right_end}
use Rattle.yaml_path.specs.declared.places.Places.{Places}
use Rattle.yaml_path.specs.declared.places.Places.TheVariants.{Both, Left, Right}
use Rattle.yaml_diff.specs.Lines.{Line, way_of, Listed}
use Rattle.yaml_diff.specs.Moves.{MoveLine, MoveListed}
use Rattle.yaml_diff.specs.Listing.{Lists}
use Rattle.yaml_diff.proofs.WayLaws.{none-some}
use Rattle.yaml_diff.proofs.PatchLaws.{some-item}

differs-last : (w : Way) (P : Pairing) (t u : Option Tree) (p : Places) → Reaches P w t u → Allows (P w) (at_places p) → head_of (left_part (left_end t w) (at_places p)) ≢ head_of (right_part (right_end u w) (at_places p)) → Differs P (w ++ (at_places p ∷ [])) t u
differs-last [] P t u p r a d = (r, a, d)
differs-last (s ∷ w) P t u p r a d = (r.0, r.1, differs-last w (below P s) (left_part t s) (right_part u s) p r.2 a d)

last-allowed : (w : Way) (P : Pairing) (t u : Option Tree) (p : Places) → Differs P (w ++ (at_places p ∷ [])) t u → Allows (P w) (at_places p)
last-allowed [] P t u p d = d.1
last-allowed (s ∷ w) P t u p d = last-allowed w (below P s) (left_part t s) (right_part u s) p d.2

alone-differs : (ps : List Places) (t u : Option Tree) (p : Places) → Takes ps t u → Allows ps (at_places p) → (left_place p ≡ None) ⊎ (right_place p ≡ None) → head_of (left_part t (at_places p)) ≢ head_of (right_part u (at_places p))
alone-differs ps t u (Both i j) a x (inl e) h = none-some (sym e)
alone-differs ps t u (Both i j) a x (inr e) h = none-some (sym e)
alone-differs ps t u (Left i) a x (inl e) h = none-some (sym e)
alone-differs ps t u (Left i) a x (inr e) h = let y = some-item t i (a.lefts.within x.0 (Left i) i x.1 refl) in let w : None ≡ Some (head y.0) = sym h ∙ ap head_of y.1 in none-some w
alone-differs ps t u (Right j) a x (inl e) h = let y = some-item u j (a.rights.within x.0 (Right j) j x.1 refl) in let w : None ≡ Some (head y.0) = h ∙ ap head_of y.1 in none-some w
alone-differs ps t u (Right j) a x (inr e) h = none-some (sym e)

pub level-told : (g : Forests) (P M : Pairing) (t u : Option Tree) (room : ℕ) (lines : List Line) (moves : List MoveLine) → Lists g P M t u room lines moves true → (w : Way) → Reaches P w t u → (p : Places) → Allows (P w) (at_places p) →
    ((left_place p ≡ None) ⊎ (right_place p ≡ None) → Listed g (w ++ (at_places p ∷ [])) lines) × (Allows (M w) (at_places p) → MoveListed g w p moves)
level-told g P M t u room lines moves l w r p a = (
  λ e. l.whole refl (w ++ (at_places p ∷ [])) (differs-last w P t u p r a (alone-differs (P w) (left_end t w) (right_end u w) p (l.pairs w) a e)),
  λ m. l.moved.whole refl w p r m,
)

pub told-level : (g : Forests) (P M : Pairing) (t u : Option Tree) (room : ℕ) (lines : List Line) (moves : List MoveLine) (is_whole : Bool) → Lists g P M t u room lines moves is_whole → (w : Way) (p : Places) →
    ((k : ℕ) (d : Line) → slice_get lines k ≡ Some d → way_of g d.0 ≡ w ++ (at_places p ∷ []) → Allows (P w) (at_places p)) × ((k : ℕ) (m : MoveLine) → slice_get moves k ≡ Some m → way_of g m.0 ≡ w → m.1 ≡ p → Allows (M w) (at_places p) × Allows (P w) (at_places p))
told-level g P M t u room lines moves is_whole l w p = (
  λ k d e f. last-allowed w P t u p (subst (λ z. Differs P z t u) f (l.each k d e).differs),
  λ k m e f h.
      let a : Allows (M w) (at_places p) = subst (λ z. Allows (M w) (at_places z)) h (subst (λ z. Allows (M z) (at_places m.1)) f (l.moved.each k m e).moved) in
      let s = (l.moved.settles w).pairs a.0 p a.1 in
      (a, s.3),
)
