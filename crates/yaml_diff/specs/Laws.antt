-- What a whole list of differences says.
use Rattle.std.specs.Prelude.{◌≡◌, ◌↔◌, ◌⊎◌, ℕ, true, List, [], ◌∷◌, ◌++◌, Option, Some}
use Rattle.std.specs.List.{slice_get}
use Rattle.yaml_definitions.specs.model.Tree.{Tree, sequence}
use Rattle.yaml_definitions.specs.model.Same.{Same, Keyed, Alike}
use Rattle.yaml_tree.specs.TreeLists.{trees}
use Rattle.yaml_store_rank.specs.Forests.{Forests}
use Rattle.yaml_path.specs.Path.{head_of}
use Rattle.yaml_path.specs.Ways.{Way, Step, Pairing, Differs, AllowsWay, left_end, right_end}
use Rattle.yaml_diff.specs.Lines.{Line, trees_of}
use Rattle.yaml_diff.specs.Moves.{MoveLine}
use Rattle.yaml_diff.specs.Listing.{Lists}

-- it is empty exactly if the trees, which have no equal keys, are the same
abbrev pub EmptyIsSame : Type 0
EmptyIsSame = (g : Forests) (P M : Pairing) (t u : Tree) (room : ℕ) (lines : List Line) (moves : List MoveLine) → Keyed t → Keyed u → Lists g P M (Some t) (Some u) room lines moves true → ((lines ≡ []) × (moves ≡ [])) ↔ Same t u

-- sequences of one tag are the same exactly if their items are, pairwise, so two streams of documents are as `same` says
abbrev pub SequencesAlike : Type 0
SequencesAlike = (tag : List ℕ) (ts us : List Tree) → Same (sequence tag (trees ts)) (sequence tag (trees us)) ↔ Alike ts us

-- no way at which two trees differ first is below another
abbrev pub NoneIsBelow : Type 0
NoneIsBelow = (P : Pairing) (t u : Option Tree) (p : Way) (s : Step) (r : Way) → Differs P p t u → Differs P (p ++ (s ∷ r)) t u → ⊥

-- A whole list is a patch, both ways, but for the order of items: at the end of each way of the pairing the two show the same, or each of them has there what one line has on its side.
abbrev pub WholeIsPatch : Type 0
WholeIsPatch = (g : Forests) (P M : Pairing) (t u : Option Tree) (room : ℕ) (lines : List Line) (moves : List MoveLine) → Lists g P M t u room lines moves true → (w : Way) → AllowsWay P w →
    (head_of (left_end t w) ≡ head_of (right_end u w))
    ⊎ ((k : ℕ) × (d : Line) × (r : Way) × (slice_get lines k ≡ Some d) × (left_end t w ≡ left_end (trees_of g d.1.0) r) × (right_end u w ≡ right_end (trees_of g d.1.1) r))
