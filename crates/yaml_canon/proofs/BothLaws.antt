-- What two streams in one store come to.
use Rattle.std.proofs.Common.{◌≡◌, ℕ, List, sym, ◌∙◌, ap, subst, length, Ok}
use Rattle.yaml_definitions.specs.model.Serial.{Document, stream_events}
use Rattle.yaml_definitions.specs.grammar.Reading.{Reads}
use Rattle.yaml_tree.specs.TreeLists.{AreLow}
use Rattle.yaml_store.specs.StoreGrows.{trees_of}
use Rattle.yaml_tree_builder.specs.Reached.{UnfoldTo}
use Rattle.yaml_tree_builder.specs.declared.size.StreamSize.{StreamSize}
use Rattle.yaml_tree_builder.specs.BuilderModel.{AllAt, AreForests}
use Rattle.yaml_tree_builder.specs.declared.builder.Forest.{Forest}
use Rattle.yaml_canon.specs.Both.{HasBoth}
use Rattle.yaml_canon.proofs.ForestLaws.{means-trees}

-- both sides were read, and the left side's documents are so many
pub has-both : (left right : List ℕ) (ds es : List Document) (size : StreamSize) (f : Forest) → Reads left (stream_events ds) → Reads right (stream_events es) → UnfoldTo ds size → AreForests ds es f → HasBoth left right (record { forest = f; left = size })
has-both left right ds es size f r s u a =
    let both = a.unfolded in
    let same : Ok u.trees_are ≡ Ok both.lefts = sym u.unfolded ∙ both.first in
    let these : u.trees_are ≡ both.lefts = cc in
    record {
      mean = record {
        lefts = both.lefts;
        rights = both.rights;
        left_means = means-trees left ds both.lefts r both.first;
        right_means = means-trees right es both.rights s both.second;
        low = subst AreLow both.is a.low;
        middle_is = u.documents ∙ ap length these;
      };
      roots = record { good = a.good; level = a.level; roots = subst (AllAt (trees_of f.store) f.roots.items) both.is a.roots };
      read = record { first = ds; second = es; first_read = record { reads = r }; second_read = record { reads = s }; size = u; forests = a };
    }
