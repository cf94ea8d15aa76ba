-- What the values of ranked nodes say of bytes.
use Rattle.std.proofs.Common.{ℕ, ◌≤◌, List, map, sym, subst}
use Rattle.std.specs.String.{string_bytes}
use Rattle.yaml_definitions.specs.model.Limits.{height_limit}
use Rattle.yaml_definitions.specs.model.Tree.{Tree, height}
use Rattle.yaml_definitions.specs.model.Same.{Keyed}
use Rattle.yaml_definitions.specs.model.Means.{Means}
use Rattle.yaml_store_rank.specs.Walked.{walked_tree}
use Rattle.yaml_canon.specs.Ranks.{HasRanks}
use Rattle.yaml_canon.specs.declared.ranks.RankedForest.{RankedForest}
use Rattle.yaml_canon.proofs.ClaimLaws.{all_of, means_alone}
use Rattle.yaml_values.specs.Denotes.{Denotes}
use Rattle.yaml_values.specs.declared.making.Values.{Values}
use Rattle.yaml_values.specs.ValuesOf.{AreValues, AreValuesOf}

-- the values of the ranks are those of the bytes
pub values_of_ranks : (bytes : List ℕ) (f : RankedForest) (v : Values) → HasRanks bytes f → Denotes v.values.items v.parts.items (string_bytes v.texts) v.documents (map (walked_tree f.ranked) f.roots.items) → AreValuesOf bytes v
values_of_ranks bytes f v h d = record {
  forest = h.trees;
  accepted = means_alone bytes h.trees h.means (all_of (λ t. height t ≤ height_limit) h.trees h.low) (all_of Keyed h.trees h.keyed);
  denotes = subst (Denotes v.values.items v.parts.items (string_bytes v.texts) v.documents) h.arranged d;
}

-- values of bytes that mean admitted documents are the values of these
pub values_accepted : (bytes : List ℕ) (f : List Tree) (v : Values) → AreValuesOf bytes v → Means bytes f → AreValues f v
values_accepted bytes f v h m = subst (λ g. AreValues g v) (sym (h.accepted.only f m)) h.denotes
