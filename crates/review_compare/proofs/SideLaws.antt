-- From the ranked forests of both sides to what their bytes mean.
use Rattle.std.proofs.Common.{◌≡◌, ℕ, true, List, [], ◌∷◌, map, refl}
use Rattle.std.specs.Prelude.{◌↔◌, Bool}
use Rattle.yaml_definitions.specs.model.Same.{Alike}
use Rattle.yaml_store_rank.specs.Forests.{Forests, tree, documents_of, IsRanked}
use Rattle.yaml_canon.specs.Comparing.{Compares}
use Rattle.yaml_canon.specs.Written.{ShowsStreams}
use Rattle.yaml_canon.proofs.StreamLaws.{stream-alone}

-- what the documents of both streams say of the bytes
pub compares : (left right : List ℕ) (f : Forests) → IsRanked f → ShowsStreams (left ∷ right ∷ []) f → (answer : Bool) → (answer ≡ true) ↔ Alike (map (tree f) (documents_of f 0)) (map (tree f) (documents_of f 1)) → Compares left right answer
compares left right f are show answer h = record {
  first = map (tree f) (documents_of f 0);
  second = map (tree f) (documents_of f 1);
  first_accepted = stream-alone f are (left ∷ right ∷ []) show 0 left refl;
  second_accepted = stream-alone f are (left ∷ right ∷ []) show 1 right refl;
  tells = h;
}
